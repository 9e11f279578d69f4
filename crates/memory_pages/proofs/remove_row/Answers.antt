-- `memory_pages::remove_row` meets its contract: the row is taken out, then the pages behind page p start one row earlier (`row_removed`).
use Rattle.basics.proofs.Kit.{arith}
use Rattle.memory_layout.specs.Flat.{flat_of}
use Rattle.memory_layout.proofs.Laws.{entries_length, rows_length}
use Rattle.memory_pages.proofs.Moves.{row_removed}
use Rattle.basics.proofs.Parts.{length_remove}
use Rattle.memory_pages.proofs.Ranges.{ranges}
use Rattle.memory_pages.proofs.remove_row.Goals as goal

pub overflow_add-p : goal.overflow_add-p
overflow_add-p c = omega (arith, ranges c.requires.0, entries_length c.args.m.now, c.requires.1.place)

pub add2-requires : goal.add2-requires
add2-requires c = let m = c.args.m.now in let n = c.page_count-n.ensures in
    (omega (arith, entries_length m, c.requires.1.place), omega (arith, ranges c.requires.0, c.starts-s.ensures, c.remove_row.ensures.size))

pub returns : goal.returns
returns c = let m = c.args.m.now in let may = c.requires.1 in
    row_removed c.requires.0 (omega (arith, entries_length m, may.place)) c.remove_row.ensures
    c.starts-s.ensures c.page_count-n.ensures c.add2.ensures (omega arith)
    (omega (arith, length_remove c.args.i (flat_of m).rows may.row, may.row, rows_length m)) may.rows
