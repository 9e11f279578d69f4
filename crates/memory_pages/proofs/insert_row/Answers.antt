-- `memory_pages::insert_row` meets its contract: the row is put in, then the pages behind page p start one row later (`row_inserted`).
use Rattle.basics.proofs.Kit.{arith}
use Rattle.memory_rows.specs.Rows.{held_by}
use Rattle.memory_layout.specs.Flat.{flat_of}
use Rattle.memory_layout.proofs.Laws.{entries_length, rows_length}
use Rattle.memory_pages.proofs.Moves.{row_inserted}
use Rattle.basics.proofs.Parts.{length_insert}
use Rattle.memory_pages.proofs.Ranges.{ranges, head_capacity}
use Rattle.memory_pages.proofs.insert_row.Goals as goal

pub overflow_add-p : goal.overflow_add-p
overflow_add-p c = omega (arith, ranges c.requires.0.room, entries_length c.args.m.now, c.requires.1)

pub add2-requires : goal.add2-requires
add2-requires c = let m = c.args.m.now in let n = c.page_count-n.ensures in
    (omega (arith, entries_length m, c.requires.1), omega (arith, ranges c.requires.0.room, c.starts-s.ensures, c.insert_row.ensures.size))

pub returns : goal.returns
returns c = let m = c.args.m.now in let new = c.requires.0 in
    row_inserted new.room (omega (arith, entries_length m, c.requires.1)) c.insert_row.ensures
    c.starts-s.ensures c.page_count-n.ensures c.add2.ensures (omega arith)
    (omega (arith, length_insert c.args.i (held_by c.args.row c.args.payload.now) (flat_of m).rows new.at, rows_length m))
    (omega (arith, new.more, rows_length m, head_capacity m))
