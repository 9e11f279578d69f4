-- `memory_layout::remove_open` meets its contract: the entries behind entry i go down by one, then the count is written (`open_remove`).
use Rattle.basics.proofs.Kit.{arith}
use Rattle.memory_layout.proofs.Laws.{known}
use Rattle.memory_layout.proofs.HeadLists.{open_remove}
use Rattle.memory_layout.proofs.remove_open.Goals as goal

pub overflow_mul-i : goal.overflow_mul-i
overflow_mul-i c = omega (arith, known _ c.requires.0)

pub overflow_add-i : goal.overflow_add-i
overflow_add-i c = omega (arith, known _ c.requires.0)

pub lower-requires : goal.lower-requires
lower-requires c = let k = known _ c.requires.0 in
    (omega (arith, c.get4-n.ensures), omega (arith, c.get4-n.ensures))

pub overflow_sub-n : goal.overflow_sub-n
overflow_sub-n c = omega (arith, known _ c.requires.0, c.get4-n.ensures)

pub returns : goal.returns
returns c = open_remove c.requires.0 c.args.i c.get4-n.ensures c.requires.1 c.lower.ensures c.put4.ensures
