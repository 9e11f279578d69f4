use Rattle.memory_bytes.proofs.Moves.{Writing}
use Rattle.memory_bytes.specs.Bytes.{bytes}
use Rattle.memory_bytes.proofs.copy_out.Given as goal

abbrev pub invariant-loop-j : goal.invariant-loop-j
invariant-loop-j l = Writing l.initial.out l.out 0 (bytes l.m l.a l.n) l.j
