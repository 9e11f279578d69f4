use Rattle.memory_bytes.specs.Bytes.{Added}
use Rattle.memory_bytes.proofs.add_each2.Given as goal

abbrev pub invariant-loop-j : goal.invariant-loop-j
invariant-loop-j l = Added l.initial.m l.m l.base l.s l.j l.d
