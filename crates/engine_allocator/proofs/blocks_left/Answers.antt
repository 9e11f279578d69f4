-- `engine_allocator::blocks_left` meets its contract: a block for each frozen page and each directory block to come, and no sum is too large (`frozen_few`).
use Rattle.basics.proofs.Kit.{arith}
use Rattle.engine_allocator.proofs.Tallies.{frozen_few}
use Rattle.engine_allocator.proofs.blocks_left.Goals as goal

pub directories_left-requires : goal.directories_left-requires
directories_left-requires c = c.requires.0

pub overflow_add-result : goal.overflow_add-result
overflow_add-result c = let p = c.requires in omega (arith, p.1, frozen_few p.0, c.directories_left.ensures.1)

pub returns : goal.returns
returns c = let p = c.requires in
    (omega (arith, p.1, c.directories_left.ensures.0), omega (arith, p.1, frozen_few p.0, c.directories_left.ensures.1))
