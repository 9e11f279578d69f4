-- `memory_pages::insert_page` meets its contract: the new page starts where page p did, so that it has no row (`page_inserted`).
use Rattle.basics.proofs.Kit.{arith}
use Rattle.memory_layout.proofs.Laws.{entries_length}
use Rattle.memory_pages.proofs.Changes.{page_inserted}
use Rattle.memory_pages.proofs.Entries.{stands}
use Rattle.memory_pages.proofs.Ranges.{ranges, start_most, head_capacity}
use Rattle.memory_pages.proofs.insert_page.Goals as goal

pub overflow_cast-start : goal.overflow_cast-start
overflow_cast-start c = omega (arith, ranges c.requires.0, start_most c.requires.0 c.args.p, c.start_at-start.ensures)

pub open_page-requires : goal.open_page-requires
open_page-requires c = let m = c.args.m.now in let b = c.requires.1.place in
    (c.requires.0, record { table = b.table; place = omega (arith, b.most, entries_length m); space = omega (arith, c.requires.1.space, entries_length m, head_capacity m) })

pub returns : goal.returns
returns c = let m = c.args.m.now in
    let b = c.requires.1.place in
    page_inserted c.requires.0 (stands c.requires.0 b)
    (omega (arith, c.requires.1.space, entries_length m, head_capacity m)) (omega (arith, b.most, entries_length m))
    c.start_at-start.ensures c.open_page.ensures
