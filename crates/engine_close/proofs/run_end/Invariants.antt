use Rattle.engine_close.proofs.RunBounds.{Onward}
use Rattle.engine_close.proofs.run_end.Given as goal

abbrev pub invariant-loop-r : goal.invariant-loop-r
invariant-loop-r l = Onward l.m l.i l.r
