-- `memory_layout::push_directory` meets its contract: the number is written behind the list, then the count (`directory_push`).
use Rattle.basics.proofs.Kit.{arith}
use Rattle.memory_layout.proofs.Laws.{known}
use Rattle.memory_layout.proofs.HeadLists.{directory_push}
use Rattle.memory_layout.proofs.push_directory.Goals as goal

pub put4-requires : goal.put4-requires
put4-requires c = omega (arith, known _ c.requires.0, c.get4-n.ensures)

pub overflow_add-n : goal.overflow_add-n
overflow_add-n c = omega (arith, known _ c.requires.0, c.get4-n.ensures)

pub returns : goal.returns
returns c = directory_push c.args.b c.requires.0 c.get4-n.ensures c.requires.1.few c.requires.1.fits c.put4.ensures c.put4-2.ensures
