use Rattle.image.proofs.Collect.{Collecting}
use Rattle.image.specs.View.{view}
use Rattle.image_rows.specs.Columns.{rows_in}
use Rattle.image.proofs.test_rows.Given as goal

abbrev pub invariant-loop-e : goal.invariant-loop-e
invariant-loop-e l = Collecting (view l.image) l.h l.entries l.e-index l.to (rows_in l.places l.numbers l.owners l.marks l.to)
