-- `memory_rows::is_by` meets its contract, for a committed and for a tentative owner.
use Rattle.block_forms.specs.declared.Owner.{Owner}
use Rattle.block_forms.specs.Bytes.{owner_is}
use Rattle.image_rows.specs.Rows.{is_by}
use Rattle.basics.proofs.Kit.{sym, ap}
use Rattle.memory_rows.proofs.is_by.Goals as goal

pub returns-in-Committed : goal.returns-in-Committed
unfolding is_by
returns-in-Committed c = sym (ap (λ (o : Owner). is_by c.args.transaction (owner_is o)) c.in-Committed.is)

pub returns-in-Tentative : goal.returns-in-Tentative
unfolding is_by
returns-in-Tentative c = sym (ap (λ (o : Owner). is_by c.args.transaction (owner_is o)) c.in-Tentative.is)
