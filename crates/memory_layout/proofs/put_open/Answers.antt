-- `memory_layout::put_open` meets its contract: the four bytes of entry i are written (`open_set`).
use Rattle.basics.proofs.Kit.{arith}
use Rattle.memory_layout.proofs.Laws.{known}
use Rattle.memory_layout.proofs.HeadLists.{open_set}
use Rattle.memory_layout.proofs.put_open.Goals as goal

pub overflow_mul-i : goal.overflow_mul-i
overflow_mul-i c = omega (arith, known _ c.requires.0)

pub overflow_add-i : goal.overflow_add-i
overflow_add-i c = omega (arith, known _ c.requires.0)

pub put4-requires : goal.put4-requires
put4-requires c = omega (arith, known _ c.requires.0)

pub returns : goal.returns
returns c = open_set c.requires.0 c.args.i c.args.o c.requires.1.inside c.requires.1.fits c.put4.ensures
