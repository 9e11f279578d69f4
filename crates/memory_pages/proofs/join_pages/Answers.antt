-- `memory_pages::join_pages` meets its contract: page p leaves its block, then page p + 1 is closed (`join_done`).
use Rattle.basics.proofs.Kit.{arith}
use Rattle.memory_pages.proofs.Ranges.{ranges}
use Rattle.memory_layout.proofs.Laws.{entries_length}
use Rattle.memory_pages.proofs.Halves.{join_may, join_done}
use Rattle.memory_pages.proofs.join_pages.Goals as goal

pub overflow_add-p : goal.overflow_add-p
overflow_add-p c = omega (arith, c.requires.1.place, ranges c.requires.0, entries_length c.args.m.now)

pub close_page-requires : goal.close_page-requires
close_page-requires c = (c.set_page.ensures.room, join_may c.requires.0 c.requires.1 c.set_page.ensures c.table_of-table.ensures.0)

pub returns : goal.returns
returns c = join_done c.requires.0 c.requires.1 c.set_page.ensures c.table_of-table.ensures.0 c.close_page.ensures
