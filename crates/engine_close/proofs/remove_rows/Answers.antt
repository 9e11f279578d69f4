-- `engine_close::remove_rows` meets its contract. The invariant: still to be removed are the live ones of the rows that are left, from row r on, as the pages are now.
use Rattle.engine_pages.proofs.Places.{now_held}
use Rattle.engine_close.proofs.Closing.{left_starts, left_there, left_next, left_ends}
use Rattle.basics.proofs.Kit.{◌≡◌, ◌+◌, ◌-◌, arith}
use Rattle.engine_close.proofs.remove_rows.Goals as goal

pub loop-init : goal.loop-init
loop-init c = let k = c.args.k in let e : k - 0 ≡ k = omega arith in
    rw e (left_starts c.requires.0 c.requires.1)

pub remove_live-r-requires : goal.remove_live-r-requires
remove_live-r-requires c = let v = c.loop.invariant in (now_held v.now, omega (arith, left_there c.requires.1 v, c.loop-test.true))

pub loop-preserved : goal.loop-preserved
loop-preserved c = let k = c.args.k in let n = c.loop.counter in let e : k - (n + 1) ≡ k - n - 1 = omega arith in
    rw e (left_next c.requires.1 c.loop.invariant (omega (arith, c.loop-test.true)) c.remove_live-r.ensures)

pub shape_of-m : goal.shape_of-m
shape_of-m c = c.loop.invariant.now.size

pub returns : goal.returns
returns c = left_ends c.requires.1 c.loop.invariant (omega (arith, c.loop-test.false))
