-- `memory_layout::get_directory` meets its contract, by `directory_at_lem` from the four bytes that are read.
use Rattle.basics.proofs.Kit.{arith}
use Rattle.memory_layout.proofs.Laws.{known}
use Rattle.memory_layout.proofs.HeadLists.{directory_at_lem}
use Rattle.memory_layout.proofs.get_directory.Goals as goal

pub overflow_mul-i : goal.overflow_mul-i
overflow_mul-i c = omega (arith, known _ c.requires.0)

pub overflow_add-i : goal.overflow_add-i
overflow_add-i c = omega (arith, known _ c.requires.0)

pub get4-requires : goal.get4-requires
get4-requires c = omega (arith, known _ c.requires.0)

pub returns : goal.returns
returns c = directory_at_lem _ _ _ c.requires.0 c.requires.1 c.get4.ensures
