-- `calendar::in_range` meets its contract: the three tests of a row.
use Rattle.basics.specs.Basics.{every}
use Rattle.basics.proofs.Kit.{arith}
use Rattle.std.proofs.lemmas.Grind.{common_steps}
use Rattle.calendar.specs.Calendar.{in_range}
use Rattle.calendar.proofs.in_range.Goals as goal

pub returns-then-h-gt0 : goal.returns-then-h-gt0
unfolding in_range every
returns-then-h-gt0 c = grind (arith, common_steps)

pub returns-else-h-gt0 : goal.returns-else-h-gt0
unfolding in_range every
returns-else-h-gt0 c = grind (arith, common_steps)
