-- `log_records::mark_size` meets its contract, by the definition.
use Rattle.basics.proofs.Kit.{refl}
use Rattle.log_records.specs.Entries.{mark_size}
use Rattle.log_records.proofs.mark_size.Goals as goal

pub returns : goal.returns
unfolding mark_size
returns c = refl
