use Rattle.engine_close.proofs.Own.{NotLater}
use Rattle.basics.proofs.Kit.{◌-◌}
use Rattle.engine_close.proofs.newest_own.Given as goal

abbrev pub invariant-loop-r : goal.invariant-loop-r
invariant-loop-r l = NotLater l.m l.transaction (l.r - 1) l.e
