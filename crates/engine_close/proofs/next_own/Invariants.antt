use Rattle.engine_close.proofs.Own.{NotOwn}
use Rattle.basics.proofs.Kit.{◌≤◌, ◌-◌}
use Rattle.engine_close.proofs.next_own.Given as goal

abbrev pub invariant-loop-g : goal.invariant-loop-g
invariant-loop-g l = (l.i ≤ l.g) × ((l.g ≤ l.n) × NotOwn l.m l.transaction l.i l.g)

abbrev pub decreases-loop-g : goal.decreases-loop-g
decreases-loop-g l = l.n - l.g
