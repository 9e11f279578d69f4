use Rattle.basics.proofs.Kit.{◌-◌}
use Rattle.memory_rows.proofs.Eights.{Lowering}
use Rattle.memory_rows.proofs.shifts.lower_eights.Given as goal

abbrev pub invariant-loop-k : goal.invariant-loop-k
invariant-loop-k l = Lowering l.initial.m l.m l.c l.i l.n l.initial.k l.k

abbrev pub decreases-loop-k : goal.decreases-loop-k
decreases-loop-k l = l.n - l.k
