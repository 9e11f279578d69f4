use Rattle.memory_bytes.proofs.Scans.{AnyFrom}
use Rattle.memory_bytes.specs.Columns.{names}
use Rattle.memory_bytes.specs.Bytes.{column2}
use Rattle.memory_bytes.proofs.any_names.Given as goal

abbrev pub invariant-loop-j : goal.invariant-loop-j
invariant-loop-j l = AnyFrom (names l.s) (column2 l.m l.base) 0 l.n l.hit l.j
