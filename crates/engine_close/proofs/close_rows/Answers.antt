-- `engine_close::close_rows` meets its contract. The invariant: what is left to do from row i on gives, on the present pages, what all of it gives on those at entry.
use Rattle.engine_pages.proofs.Places.{holds_now}
use Rattle.engine_close.proofs.Next.{doing_starts, doing_next, all_done}
use Rattle.basics.proofs.Kit.{arith}
use Rattle.memory_layout.proofs.Laws.{holds_room}
use Rattle.engine_close.proofs.close_rows.Goals as goal

pub loop-i-init : goal.loop-i-init
loop-i-init c = doing_starts c.requires

pub row_count-requires : goal.row_count-requires
row_count-requires c = holds_room _ c.loop-i.invariant.has_store

pub close_next-i-requires : goal.close_next-i-requires
close_next-i-requires c = (c.loop-i.invariant.has_store, omega (arith, c.loop-i-test.true, c.row_count.ensures))

pub loop-i-smaller : goal.loop-i-smaller
loop-i-smaller c = let d = c.close_next-i.ensures in omega (arith, d.further, d.most, c.loop-i-test.true, c.row_count.ensures)

pub loop-i-preserved : goal.loop-i-preserved
loop-i-preserved c = doing_next c.loop-i.invariant c.close_next-i.ensures

pub shape_of-m : goal.shape_of-m
shape_of-m c = c.loop-i.invariant.now.size

pub returns : goal.returns
returns c = holds_now (all_done c.args.keep _ c.loop-i.invariant (omega (arith, c.loop-i-test.false, c.row_count.ensures)))
