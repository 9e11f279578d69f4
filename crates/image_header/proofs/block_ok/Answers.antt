-- `image_header::block_ok` meets its contract: both tests.
use Rattle.basics.proofs.Kit.{arith}
use Rattle.std.proofs.lemmas.Grind.{common_steps}
use Rattle.image_header.specs.Names.{block_ok}
use Rattle.image_header.proofs.block_ok.Goals as goal

pub returns-then-b-gt0 : goal.returns-then-b-gt0
unfolding block_ok
returns-then-b-gt0 c = grind (arith, common_steps)

pub returns-else-b-gt0 : goal.returns-else-b-gt0
unfolding block_ok
returns-else-b-gt0 c = grind (arith, common_steps)
