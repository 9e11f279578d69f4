-- `memory_bytes::get4` meets its contract, by the definition of `le4`.
use Rattle.basics.proofs.Kit.{rules}
use Rattle.memory_bytes.specs.Bytes.{le4}
use Rattle.memory_bytes.proofs.get4.Goals as goal

pub returns : goal.returns
unfolding le4
returns c = search rules
