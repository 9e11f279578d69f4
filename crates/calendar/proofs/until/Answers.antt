-- `calendar::until` meets its contract: where b is before a, a week is added.
use Rattle.basics.proofs.Kit.{arith}
use Rattle.calendar.specs.Calendar.{until}
use Rattle.calendar.proofs.until.Goals as goal

pub returns-then-b-a : goal.returns-then-b-a
unfolding until
returns-then-b-a c = omega arith

pub returns-else-b-a : goal.returns-else-b-a
unfolding until
returns-else-b-a c = omega arith
