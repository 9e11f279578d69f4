use Rattle.memory_rows.proofs.Groups.{unset}
use Rattle.memory_bytes.specs.Bytes.{column1}
use Rattle.memory_bytes.proofs.Scans.{AnyFrom}
use Rattle.memory_rows.proofs.any_tentative.Given as goal

abbrev pub invariant-loop-j : goal.invariant-loop-j
invariant-loop-j l = AnyFrom unset (column1 l.m l.a) 0 16 l.hit l.j
