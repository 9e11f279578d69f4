-- `engine_allocator::blocks_needed` meets its contract: a block for each dirty page and the directory's, and no sum is too large (`needed_is`).
use Rattle.basics.proofs.Kit.{ap, arith}
use Rattle.image.specs.Stages.{directories_for}
use Rattle.memory_layout.specs.Flat.{flat_of}
use Rattle.memory_layout.proofs.Laws.{pages_read, holds_room, sizes}
use Rattle.engine_allocator.proofs.Tallies.{pages_most, dirty_few, needed_is}
use Rattle.engine_allocator.proofs.blocks_needed.Goals as goal

pub get_counts-c-requires : goal.get_counts-c-requires
get_counts-c-requires c = (sizes (holds_room _ c.requires)).long

pub count_dirty-requires : goal.count_dirty-requires
count_dirty-requires c = holds_room _ c.requires

pub directories_for-requires : goal.directories_for-requires
directories_for-requires c = let m = c.args.m.now in
    omega (arith, pages_read m c.get_counts-c.ensures, pages_most m c.requires)

pub overflow_add-result : goal.overflow_add-result
overflow_add-result c = let m = c.args.m.now in
    omega (arith, c.count_dirty.ensures, c.directories_for.ensures.1, dirty_few (flat_of m), pages_most m c.requires)

pub returns : goal.returns
returns c = let m = c.args.m.now in
    let d = c.count_dirty.ensures in
    let e = ap directories_for (pages_read m c.get_counts-c.ensures) in
    (omega (arith, c.directories_for.ensures.0, d, e, needed_is (flat_of m)), omega (arith, c.directories_for.ensures.1, d, dirty_few (flat_of m), pages_most m c.requires))
