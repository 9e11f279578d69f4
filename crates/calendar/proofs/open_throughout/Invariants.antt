use Rattle.basics.proofs.Kit.{◌≡◌, true, ◌%◌}
use Rattle.basics.specs.Basics.{all}
use Rattle.calendar.specs.Calendar.{week, rows_of, in_range, end_of, edge_open}
use Rattle.calendar.proofs.Rows.{Walk}
use Rattle.calendar.proofs.open_throughout.Given as goal

abbrev pub invariant-loop-row : goal.invariant-loop-row
invariant-loop-row l = Walk (all (λ h. edge_open (rows_of l.hours) (l.key % week) l.length (end_of h))) l.hours l.row-iterator
    × Walk (all in_range) l.hours l.row-iterator × (edge_open (rows_of l.hours) (l.key % week) l.length (l.key % week) ≡ true)
