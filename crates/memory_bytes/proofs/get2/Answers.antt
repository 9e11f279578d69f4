-- `memory_bytes::get2` meets its contract, by the definition of `le2`.
use Rattle.basics.proofs.Kit.{rules}
use Rattle.memory_bytes.specs.Bytes.{le2}
use Rattle.memory_bytes.proofs.get2.Goals as goal

pub returns : goal.returns
unfolding le2
returns c = search rules
