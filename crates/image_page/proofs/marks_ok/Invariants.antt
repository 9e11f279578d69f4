use Rattle.basics.proofs.Kit.{◌≡◌, some, List, ℕ, drop}
use Rattle.block_reader.proofs.Walk.{Walk}
use Rattle.image_rows.specs.Rows.{rows_of, mark_ok}
use Rattle.block_forms.specs.Decode.{page_tuples}
use Rattle.block_forms.specs.Tuple.{Tuple}
use Rattle.basics.specs.Basics.{all}
use Rattle.image_page.proofs.marks_ok.Given as goal

abbrev pub invariant-loop : goal.invariant-loop
invariant-loop l = (t : ℕ) (ts : List Tuple) → page_tuples l.count l.block ≡ some ts →
    Walk l.block ts l.cursor.at l.counter × (all mark_ok (rows_of t ts) ≡ all mark_ok (rows_of t (drop l.counter ts)))
