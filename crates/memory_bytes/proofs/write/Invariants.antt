use Rattle.memory_bytes.proofs.Moves.{Writing}
use Rattle.memory_bytes.proofs.write.Given as goal

abbrev pub invariant-loop-j : goal.invariant-loop-j
invariant-loop-j l = Writing l.initial.m l.m l.a l.src l.j
