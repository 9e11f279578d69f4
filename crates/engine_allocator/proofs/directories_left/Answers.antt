-- `engine_allocator::directories_left` meets its contract: the difference of the two counts, 0 where it would be negative.
use Rattle.basics.proofs.Kit.{ap, arith}
use Rattle.image.specs.Stages.{directories_for}
use Rattle.memory_layout.proofs.Laws.{named_read, directories_read, sizes}
use Rattle.engine_allocator.proofs.directories_left.Goals as goal

pub directories_for-d-requires : goal.directories_for-d-requires
directories_for-d-requires c = omega (arith, sizes c.requires, named_read c.args.m.now c.get_counts-c.ensures)

pub returns : goal.returns
returns c = let m = c.args.m.now in
    let e = ap directories_for (named_read m c.get_counts-c.ensures) in
    (omega (arith, c.saturating_sub.ensures, c.directories_for-d.ensures.0, e, directories_read m c.get_counts-c.ensures), omega (arith, c.saturating_sub.ensures, c.directories_for-d.ensures.1))
