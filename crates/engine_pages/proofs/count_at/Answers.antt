-- `engine_pages::count_at` meets its contract: page p + 1 starts with the row behind the last one of page p (`ends_at`).
use Rattle.engine_pages.proofs.Places.{start_there, next_there, room, ends_at}
use Rattle.memory_layout.proofs.Laws.{sizes}
use Rattle.basics.proofs.Kit.{arith}
use Rattle.engine_pages.proofs.count_at.Goals as goal

pub start_of-s-requires : goal.start_of-s-requires
start_of-s-requires c = start_there c.requires

pub overflow_add-p : goal.overflow_add-p
overflow_add-p c = let a = c.requires in omega (arith, a.inside, (sizes (room a)).pages)

pub start_of-e-requires : goal.start_of-e-requires
start_of-e-requires c = next_there c.requires

pub overflow_sub-result : goal.overflow_sub-result
overflow_sub-result c = omega (arith, c.start_of-s.ensures.0, c.start_of-e.ensures.0, ends_at c.requires)

pub returns : goal.returns
returns c = omega (arith, c.start_of-s.ensures.0, c.start_of-e.ensures.0, ends_at c.requires)
