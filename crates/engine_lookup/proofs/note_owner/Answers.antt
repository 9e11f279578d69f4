-- `engine_lookup::note_owner` meets its contract: one case for each kind of owner.
use Rattle.basics.proofs.Kit.{sym, ap, ◌∙◌}
use Rattle.block_forms.specs.declared.Owner.{Owner}
use Rattle.block_forms.specs.Bytes.{owner_is}
use Rattle.engine_lookup.specs.Lookup.{note_owner}
use Rattle.engine_lookup.proofs.note_owner.Goals as goal

pub returns-in-Committed : goal.returns-in-Committed
unfolding note_owner
returns-in-Committed c = let a = c.args in
    c.note_committed.ensures
    ∙ sym (ap (λ (o : Owner). note_owner a.transaction a.i (owner_is o) a.visibility) c.in-Committed.is)

pub returns-in-Tentative : goal.returns-in-Tentative
unfolding note_owner
returns-in-Tentative c = let a = c.args in
    c.note_tentative.ensures
    ∙ sym (ap (λ (o : Owner). note_owner a.transaction a.i (owner_is o) a.visibility) c.in-Tentative.is)
