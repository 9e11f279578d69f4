use Rattle.memory_rows.proofs.Eights.{Raising}
use Rattle.memory_rows.proofs.shifts.raise_eights.Given as goal

abbrev pub invariant-loop-k : goal.invariant-loop-k
invariant-loop-k l = Raising l.initial.m l.m l.c l.i l.n l.initial.k l.k

abbrev pub decreases-loop-k : goal.decreases-loop-k
decreases-loop-k l = l.k
