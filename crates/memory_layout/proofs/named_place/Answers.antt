-- `memory_layout::named_place` meets its contract, by arithmetic from the capacity.
use Rattle.basics.proofs.Kit.{arith}
use Rattle.memory_layout.specs.Views.{head_of}
use Rattle.memory_layout.proofs.named_place.Goals as goal

pub returns : goal.returns
unfolding head_of
returns c = omega (arith, c.capacity.ensures.is)
