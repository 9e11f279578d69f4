-- `block_forms::get4` meets its contract, by the definition of four bytes as a number.
use Rattle.basics.proofs.Kit.{arith}
use Rattle.block_forms.specs.Numbers.{num4}
use Rattle.block_forms.proofs.get4.Goals as goal

pub returns : goal.returns
unfolding num4
returns c = omega arith
