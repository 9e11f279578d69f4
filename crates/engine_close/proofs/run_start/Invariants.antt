use Rattle.engine_close.proofs.RunBounds.{Back}
use Rattle.engine_close.proofs.run_start.Given as goal

abbrev pub invariant-loop-r : goal.invariant-loop-r
invariant-loop-r l = Back l.m l.i l.r
