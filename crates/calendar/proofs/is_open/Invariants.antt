use Rattle.basics.specs.Basics.{any, all}
use Rattle.calendar.specs.Calendar.{in_range, covers}
use Rattle.calendar.proofs.Rows.{Walk}
use Rattle.calendar.proofs.is_open.Given as goal

abbrev pub invariant-loop-row : goal.invariant-loop-row
invariant-loop-row l = Walk (any (covers l.minute)) l.hours l.row-iterator × Walk (all in_range) l.hours l.row-iterator
