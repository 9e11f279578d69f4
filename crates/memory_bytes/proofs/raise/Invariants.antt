use Rattle.memory_bytes.proofs.Moves.{Raising}
use Rattle.basics.proofs.Kit.{◌≤◌}
use Rattle.memory_bytes.proofs.raise.Given as goal

abbrev pub invariant-loop-k : goal.invariant-loop-k
invariant-loop-k l = (l.lo ≤ l.k) × Raising l.initial.m l.m l.hi l.w l.k
