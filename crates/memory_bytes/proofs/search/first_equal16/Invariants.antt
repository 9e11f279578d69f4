use Rattle.memory_bytes.specs.Bytes.{column4}
use Rattle.memory_bytes.specs.Columns.{Covers}
use Rattle.memory_bytes.proofs.search.first_equal16.Given as goal

abbrev pub invariant-loop-j : goal.invariant-loop-j
invariant-loop-j l = Covers (column4 l.m l.at) l.key l.j 16 l.f 16
