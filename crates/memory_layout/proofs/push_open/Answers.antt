-- `memory_layout::push_open` meets its contract: the entry is written behind the list, then the count (`open_push`).
use Rattle.basics.proofs.Kit.{arith}
use Rattle.memory_layout.proofs.Laws.{known}
use Rattle.memory_layout.proofs.HeadLists.{open_push}
use Rattle.memory_layout.proofs.push_open.Goals as goal

pub put4-requires : goal.put4-requires
put4-requires c = omega (arith, known _ c.requires.0, c.get4-n.ensures)

pub overflow_add-n : goal.overflow_add-n
overflow_add-n c = omega (arith, known _ c.requires.0, c.get4-n.ensures)

pub returns : goal.returns
returns c = open_push c.requires.0 0 c.get4-n.ensures c.args.o c.requires.1.few c.requires.1.fits c.put4.ensures c.put4-2.ensures
