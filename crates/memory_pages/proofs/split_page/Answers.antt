-- `memory_pages::split_page` meets its contract: page p leaves its block, then a page that starts k rows behind its start is opened (`split_done`).
use Rattle.basics.proofs.Kit.{suc, arith}
use Rattle.memory_layout.proofs.Laws.{entries_length}
use Rattle.memory_pages.proofs.Halves.{split_may, split_done}
use Rattle.memory_pages.proofs.Ranges.{ranges, start_most, entry_count, starts_rise}
use Rattle.memory_pages.proofs.split_page.Goals as goal

pub overflow_cast-start : goal.overflow_cast-start
overflow_cast-start c = omega (arith, ranges c.requires.0, start_most c.requires.0 c.args.p, c.start_at-start.ensures)

pub overflow_add-start : goal.overflow_add-start
overflow_add-start c = let m = c.args.m.now in
    let p = c.args.p in let may = c.requires.1 in
    let count = entry_count m p (omega (arith, entries_length m, may.place)) in
    let step = starts_rise c.requires.0 p (suc p) (omega arith) in
    omega (arith, ranges c.requires.0, c.start_at-start.ensures, may.rows, start_most c.requires.0 (suc p))

pub open_page-requires : goal.open_page-requires
open_page-requires c = (c.set_page.ensures.room, split_may c.args.k c.requires.0 c.requires.1 c.set_page.ensures c.table_of-table.result c.table_of-table.ensures.1)

pub returns : goal.returns
returns c = split_done c.args.k c.requires.0 c.requires.1 c.set_page.ensures c.table_of-table.ensures.0 (omega (arith, c.start_at-start.ensures)) c.open_page.ensures
