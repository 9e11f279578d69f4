use Rattle.memory_bytes.specs.Bytes.{column4}
use Rattle.memory_bytes.specs.Columns.{Covers}
use Rattle.memory_bytes.proofs.search.last_equal16.Given as goal

abbrev pub invariant-loop-j : goal.invariant-loop-j
invariant-loop-j l = Covers (column4 l.m l.at) l.key 0 l.j 0 l.f
