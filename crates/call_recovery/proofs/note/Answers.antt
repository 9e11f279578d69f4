-- `call_recovery::note` meets its contract: a tentative owner's transaction has one tuple more, a committed owner changes nothing.
use Rattle.basics.proofs.Kit.{sym, ap}
use Rattle.block_forms.specs.Tuple.{Owner}
use Rattle.block_forms.specs.Bytes.{owner_is}
use Rattle.call_recovery.specs.Reopening.{noted}
use Rattle.call_recovery.proofs.Owning.{is_settled}
use Rattle.call_recovery.proofs.note.Goals as goal

pub returns-in-Tentative : goal.returns-in-Tentative
unfolding noted
returns-in-Tentative c = sym (ap (λ (o : Owner). noted o c.args.counts.now) (ap owner_is c.in-Tentative.is))

pub returns-in_default : goal.returns-in_default
unfolding noted
returns-in_default c = sym (ap (λ (o : Owner). noted o c.args.counts.now) (is_settled _ c.in_default.not-Tentative))
