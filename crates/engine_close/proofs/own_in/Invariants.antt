use Rattle.engine_close.proofs.Own.{NotOwn}
use Rattle.engine_close.proofs.own_in.Given as goal

abbrev pub invariant-loop-r : goal.invariant-loop-r
invariant-loop-r l = NotOwn l.m l.transaction l.i l.r
