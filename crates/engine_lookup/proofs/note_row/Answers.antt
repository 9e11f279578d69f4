-- `engine_lookup::note_row` meets its contract: one case for each pending operation.
use Rattle.basics.proofs.Kit.{ap, ◌∙◌}
use Rattle.block_forms.specs.Tuple as tuples
use Rattle.memory_layout.specs.Flat.{flat_of, row_in}
use Rattle.engine_lookup.specs.Lookup.{note_owner}
use Rattle.engine_lookup.proofs.Notes.{note_removed, note_committing, note_other}
use Rattle.engine_lookup.proofs.note_row.Goals as goal

pub returns-in-Removing : goal.returns-in-Removing
returns-in-Removing c = let a = c.args in
    note_removed a.transaction a.i (row_in (flat_of a.m.now) a.i) a.visibility c.pending_at.result c.pending_at.ensures c.in-Removing.is

pub returns-in-Committing : goal.returns-in-Committing
returns-in-Committing c = let a = c.args in
    c.note_committed.ensures
    ∙ note_committing a.transaction a.i (row_in (flat_of a.m.now) a.i) a.visibility c.pending_at.result c.pending_at.ensures c.in-Committing.is

pub returns-in_default : goal.returns-in_default
returns-in_default c = let a = c.args in
    c.note_owner.ensures ∙ ap (λ (o : tuples.Owner). note_owner a.transaction a.i o a.visibility) c.owner_at.ensures
    ∙ note_other a.transaction a.i (row_in (flat_of a.m.now) a.i) a.visibility c.pending_at.result c.pending_at.ensures c.in_default.in_default-own.keys3
