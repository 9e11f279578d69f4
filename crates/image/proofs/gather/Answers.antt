-- `image::gather` meets its contract. The invariant: out begins with the entries of the first directory blocks; those of the others are still to be read.
use Rattle.basics.proofs.Kit.{arith}
use Rattle.image.proofs.Named.{gathering_start, gathering_iteration, gathering_stop, gathering_end}
use Rattle.image.proofs.Collect.{within, seen}
use Rattle.image.specs.View.{view}
use Rattle.image.proofs.gather.Goals as goal

pub loop-d-init : goal.loop-d-init
loop-d-init c = gathering_start (view _) _ _ _ _

pub block_at-block-requires : goal.block_at-block-requires
block_at-block-requires c = omega (arith, within _ _ c.loop-d.d-index c.requires.directories_value (omega arith))

pub returns-in_err-at : goal.returns-in_err-at
returns-in_err-at c = let a = c.args in let p = c.loop-d in
    let e = seen _ a.directories.now p.d-index c.block_at-block.ensures in
    rw c.from_residual.ensures (gathering_stop p.invariant (omega arith) e _ _ c.in_err-at.was c.add_entries.ensures)

pub overflow_add-at : goal.overflow_add-at
overflow_add-at c = let a = c.args in let p = c.loop-d in
    let e = seen _ a.directories.now p.d-index c.block_at-block.ensures in
    let next = gathering_iteration p.invariant (omega arith) e _ c.requires.pages_in_bounds c.in_ok-at.was c.add_entries.ensures in
    omega (arith, next.room)

pub loop-d-preserved : goal.loop-d-preserved
loop-d-preserved c = let a = c.args in let p = c.loop-d in
    let e = seen _ a.directories.now p.d-index c.block_at-block.ensures in
    gathering_iteration p.invariant (omega arith) e _ c.requires.pages_in_bounds c.in_ok-at.was c.add_entries.ensures

pub returns : goal.returns
returns c = gathering_end c.loop-d.invariant (omega arith)
