use Rattle.memory_bytes.proofs.Scans.{AnyFrom}
use Rattle.memory_bytes.specs.Columns.{Tests}
use Rattle.memory_bytes.specs.Bytes.{column4}
use Rattle.basics.proofs.Kit.{ℕ, Bool}
use Rattle.memory_bytes.proofs.search.any16.Given as goal

abbrev pub invariant-loop-j : goal.invariant-loop-j
invariant-loop-j g l = (f : ℕ → Bool) → Tests (goal.F-post g l.p) f → AnyFrom f (column4 l.m l.at) 0 16 l.hit l.j
