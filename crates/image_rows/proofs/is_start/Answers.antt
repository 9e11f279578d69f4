-- `image_rows::is_start` meets its contract: both tests.
use Rattle.image_rows.specs.Chains.{is_start}
use Rattle.basics.proofs.Kit.{arith}
use Rattle.std.proofs.lemmas.Grind.{common_steps}
use Rattle.image_rows.proofs.is_start.Goals as goal

pub returns-then-o-ne0 : goal.returns-then-o-ne0
unfolding is_start
returns-then-o-ne0 c = grind (arith, common_steps)

pub returns-else-o-ne0 : goal.returns-else-o-ne0
unfolding is_start
returns-else-o-ne0 c = grind (arith, common_steps)
