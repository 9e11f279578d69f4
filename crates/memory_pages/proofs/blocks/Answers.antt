-- `memory_pages::blocks` meets its contract. The capacity of a memory with room is at most 1,024 (`ranges`), so that nothing overflows.
use Rattle.basics.proofs.Kit.{arith}
use Rattle.memory_pages.proofs.Ranges.{ranges}
use Rattle.memory_pages.proofs.blocks.Goals as goal

pub overflow_mul-result : goal.overflow_mul-result
overflow_mul-result c = omega (arith, ranges c.requires)

pub overflow_add-result : goal.overflow_add-result
overflow_add-result c = omega (arith, ranges c.requires)
