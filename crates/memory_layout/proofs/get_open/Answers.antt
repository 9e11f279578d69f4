-- `memory_layout::get_open` meets its contract, by `open_at_lem` from the four bytes that are read.
use Rattle.basics.proofs.Kit.{arith}
use Rattle.memory_layout.proofs.Laws.{known}
use Rattle.memory_layout.proofs.HeadLists.{open_at_lem}
use Rattle.memory_layout.proofs.get_open.Goals as goal

pub overflow_mul-i : goal.overflow_mul-i
overflow_mul-i c = omega (arith, known _ c.requires.0)

pub overflow_add-i : goal.overflow_add-i
overflow_add-i c = omega (arith, known _ c.requires.0)

pub get4-w-requires : goal.get4-w-requires
get4-w-requires c = omega (arith, known _ c.requires.0)

pub returns : goal.returns
returns c = (open_at_lem _ _ _ c.requires.0 c.requires.1 c.get4-w.ensures, record { transaction = omega arith; written = omega arith })
