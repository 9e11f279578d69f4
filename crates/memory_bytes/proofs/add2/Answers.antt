-- `memory_bytes::add2` meets its contract, which is that of `add_each2` with the number that `step2` gives.
use Rattle.memory_bytes.proofs.Moves.{add_end}
use Rattle.basics.proofs.Kit.{refl}
use Rattle.memory_bytes.proofs.add2.Goals as goal

pub returns : goal.returns
returns c = add_end c.add_each2.ensures refl c.step2.ensures
