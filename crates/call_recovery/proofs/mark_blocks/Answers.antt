-- `call_recovery::mark_blocks` meets its contract. The invariant: the blocks passed are in use, and all others as at entry (`Marked`).
use Rattle.block_forms.specs.Limits.{block_limit}
use Rattle.basics.proofs.Kit.{refl, arith}
use Rattle.call_recovery.proofs.Naming.{named_below, marking_start, marking_iteration}
use Rattle.call_recovery.proofs.mark_blocks.Goals as goal

pub loop-b-init : goal.loop-b-init
loop-b-init c = marking_start _ c.args.bs.now c.requires.1

pub mark_used-requires : goal.mark_used-requires
mark_used-requires c = (c.loop-b.invariant.room, omega (arith, named_below block_limit c.args.bs.now _ c.requires.0 c.loop-b-test.true))

pub loop-b-preserved : goal.loop-b-preserved
loop-b-preserved c = marking_iteration _ _ c.loop-b-test.true refl c.loop-b.invariant c.mark_used.ensures
