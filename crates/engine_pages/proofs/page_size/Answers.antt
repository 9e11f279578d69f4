-- `engine_pages::page_size` meets its contract: its tuples are its rows.
use Rattle.basics.proofs.Kit.{arith}
use Rattle.memory_layout.proofs.Laws.{sizes}
use Rattle.engine_pages.proofs.Places.{start_there, next_there, room, page_span}
use Rattle.engine_pages.proofs.Splitting.{page_sum}
use Rattle.engine_pages.proofs.page_size.Goals as goal

pub rows_size-requires : goal.rows_size-requires
rows_size-requires c = page_span c.requires c.start_of-s.ensures.0 c.start_of-e.ensures.0

pub returns : goal.returns
returns c = page_sum c.requires c.start_of-s.ensures.0 c.start_of-e.ensures.0 c.rows_size.ensures

pub start_of-s-requires : goal.start_of-s-requires
start_of-s-requires c = start_there c.requires

pub overflow_add-p : goal.overflow_add-p
overflow_add-p c = let a = c.requires in omega (arith, a.inside, (sizes (room a)).pages)

pub start_of-e-requires : goal.start_of-e-requires
start_of-e-requires c = next_there c.requires
