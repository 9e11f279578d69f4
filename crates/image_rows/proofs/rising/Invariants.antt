use Rattle.basics.proofs.Kit.{◌≡◌, ◌&&◌, ◌-◌}
use Rattle.image_rows.specs.Columns.{row_at, rows_in}
use Rattle.basics.specs.Lists.{tab}
use Rattle.image_rows.specs.Rows.{follows, starts_well}
use Rattle.basics.specs.Basics.{paired}
use Rattle.image_rows.proofs.rising.Given as goal

abbrev pub invariant-loop-i : goal.invariant-loop-i
invariant-loop-i l = (paired follows (rows_in l.places l.numbers l.owners l.marks l.count) && starts_well (rows_in l.places l.numbers l.owners l.marks l.count))
    ≡ paired follows (tab (row_at l.places l.numbers l.owners l.marks) (l.i - 1) (l.count - (l.i - 1)))
