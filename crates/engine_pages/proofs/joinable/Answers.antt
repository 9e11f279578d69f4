-- `engine_pages::joinable` meets its contract: each early return is for a test that fails; at the last one only the sizes decide (`by_sizes`).
use Rattle.engine_pages.proofs.Places.{page_in_lem, start_there, room}
use Rattle.memory_layout.proofs.Laws.{sizes}
use Rattle.engine_pages.proofs.Joining.{next_at, both_span, apart_frozen, apart_next, apart_tables, by_sizes}
use Rattle.basics.proofs.Kit.{arith}
use Rattle.engine_pages.proofs.joinable.Goals as goal

pub frozen_at-requires : goal.frozen_at-requires
frozen_at-requires c = page_in_lem c.requires.0

pub returns-then-frozen_at : goal.returns-then-frozen_at
returns-then-frozen_at c = apart_frozen c.requires.0 c.requires.1 c.frozen_at.ensures c.if-frozen_at.true

pub overflow_add-p : goal.overflow_add-p
overflow_add-p c = let g = c.requires in omega (arith, g.1, (sizes (room g.0)).pages)

pub frozen_at-requires-2 : goal.frozen_at-requires-2
frozen_at-requires-2 c = let g = c.requires in (room g.0, omega (arith, g.1))

pub returns-then-frozen_at-2 : goal.returns-then-frozen_at-2
returns-then-frozen_at-2 c = apart_next c.requires.0 c.requires.1 c.frozen_at.ensures c.if-frozen_at.false c.frozen_at-2.ensures c.if-frozen_at-2.true

pub table_of-t-requires : goal.table_of-t-requires
table_of-t-requires c = page_in_lem c.requires.0

pub overflow_add-p-2 : goal.overflow_add-p-2
overflow_add-p-2 c = let g = c.requires in omega (arith, g.1, (sizes (room g.0)).pages)

pub table_of-u-requires : goal.table_of-u-requires
table_of-u-requires c = let g = c.requires in page_in_lem (next_at g.0 g.1)

pub returns-then-t-u : goal.returns-then-t-u
returns-then-t-u c = apart_tables c.requires.0 c.requires.1 c.frozen_at.ensures c.if-frozen_at.false c.frozen_at-2.ensures c.if-frozen_at-2.false c.table_of-t.ensures.0 c.table_of-u.ensures.0 c.if-t-u.true

pub start_of-s-requires : goal.start_of-s-requires
start_of-s-requires c = start_there c.requires.0

pub overflow_add-p-3 : goal.overflow_add-p-3
overflow_add-p-3 c = let g = c.requires in omega (arith, g.1, (sizes (room g.0)).pages)

pub start_of-e-requires : goal.start_of-e-requires
start_of-e-requires c = let g = c.requires in (room g.0, omega (arith, g.1))

pub small_enough-requires : goal.small_enough-requires
small_enough-requires c = both_span c.requires.0 c.requires.1 c.start_of-s.ensures.0 c.start_of-e.ensures.0

pub returns : goal.returns
returns c = by_sizes c.requires.0 c.requires.1 c.frozen_at.ensures c.if-frozen_at.false c.frozen_at-2.ensures c.if-frozen_at-2.false c.table_of-t.ensures.0 c.table_of-u.ensures.0
    c.if-t-u.false c.start_of-s.ensures.0 c.start_of-e.ensures.0 c.small_enough.ensures
