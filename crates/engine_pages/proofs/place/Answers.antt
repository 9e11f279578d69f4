-- `engine_pages::place` meets its contract: on a new page by `placed_new`, before all rows of the table by `placed_first`, else by `placed_later`.
use Rattle.memory_layout.proofs.Laws.{holds_room}
use Rattle.engine_pages.proofs.Places.{now_to, holds_now}
use Rattle.engine_pages.proofs.Spots.{may_add, placed_new, first_in, may_grow_first, placed_first, behind_first, place_on_pages, may_grow_later, placed_later}
use Rattle.basics.proofs.Kit.{arith}
use Rattle.engine_pages.proofs.place.Goals as goal

pub table_start-a-requires : goal.table_start-a-requires
table_start-a-requires c = let g = c.requires in (holds_room _ g.tuple.has_store, omega (arith, g.table))

pub overflow_add-table : goal.overflow_add-table
overflow_add-table c = omega (arith, c.requires.table)

pub table_start-b-requires : goal.table_start-b-requires
table_start-b-requires c = let g = c.requires in (holds_room _ g.tuple.has_store, omega (arith, g.table))

pub add_page-requires : goal.add_page-requires
add_page-requires c = may_add c.requires c.table_start-a.ensures c.table_start-b.ensures

pub returns-then-a-b : goal.returns-then-a-b
returns-then-a-b c = holds_now (now_to c.add_page.ensures (placed_new c.requires c.table_start-a.ensures c.table_start-b.ensures c.if-a-b.true))

pub start_of-s-requires : goal.start_of-s-requires
start_of-s-requires c = first_in c.requires c.table_start-a.ensures c.table_start-b.ensures c.if-a-b.false

pub grow-requires : goal.grow-requires
grow-requires c = may_grow_first c.requires c.table_start-a.ensures c.table_start-b.ensures c.if-a-b.false c.start_of-s.ensures.0 c.if-at-s.true

pub returns-then-at-s : goal.returns-then-at-s
returns-then-at-s c = holds_now (now_to c.grow.ensures (placed_first c.requires c.table_start-a.ensures c.table_start-b.ensures c.if-a-b.false c.start_of-s.ensures.0 c.if-at-s.true))

pub overflow_sub-at : goal.overflow_sub-at
overflow_sub-at c = omega (arith, behind_first c.requires c.table_start-a.ensures c.table_start-b.ensures c.if-a-b.false c.start_of-s.ensures.0 c.if-at-s.false)

pub page_of-p-requires : goal.page_of-p-requires
page_of-p-requires c = let g = c.requires in
    (holds_room _ g.tuple.has_store, place_on_pages g c.table_start-a.ensures c.table_start-b.ensures c.if-a-b.false c.start_of-s.ensures.0 c.if-at-s.false)

pub grow-requires-2 : goal.grow-requires-2
grow-requires-2 c = may_grow_later c.requires c.table_start-a.ensures c.table_start-b.ensures c.if-a-b.false c.start_of-s.ensures.0 c.if-at-s.false c.page_of-p.ensures

pub returns : goal.returns
returns c = holds_now (now_to c.grow-2.ensures (placed_later c.requires c.table_start-a.ensures c.table_start-b.ensures c.if-a-b.false c.start_of-s.ensures.0 c.if-at-s.false
    c.page_of-p.ensures))
