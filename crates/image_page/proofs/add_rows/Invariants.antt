use Rattle.basics.proofs.Kit.{◌≡◌, some, List, ◌++◌, map, ◌+◌, ◌≤◌, length, take}
use Rattle.block_reader.proofs.Walk.{Walk}
use Rattle.image_rows.specs.Columns.{rows_in, bare}
use Rattle.image_rows.specs.Rows.{rows_of}
use Rattle.block_forms.specs.Decode.{page_tuples}
use Rattle.block_forms.specs.Tuple.{Tuple}
use Rattle.image_page.proofs.add_rows.Given as goal

abbrev pub invariant-loop-i : goal.invariant-loop-i
invariant-loop-i l = record {
  room : l.cursor.at ≤ length l.block;
  rows : (ts : List Tuple) → page_tuples l.page.count l.block ≡ some ts → Walk l.block ts l.cursor.at l.i ×
      (rows_in l.places l.numbers l.owners l.marks (l.k + l.i)
      ≡ rows_in l.initial.places l.initial.numbers l.initial.owners l.initial.marks l.k ++ map bare (rows_of l.page.table (take l.i ts)));
}
