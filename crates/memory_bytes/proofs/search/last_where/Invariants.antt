use Rattle.basics.proofs.Searches.{LastBelow}
use Rattle.memory_bytes.specs.Columns.{Tests}
use Rattle.memory_bytes.specs.Bytes.{column4}
use Rattle.basics.proofs.Kit.{ℕ, Bool, ◌≤◌}
use Rattle.memory_bytes.proofs.search.last_where.Given as goal

abbrev pub invariant-loop-k : goal.invariant-loop-k
invariant-loop-k g l = (l.s ≤ l.k) × (l.k ≤ l.e) × ((f : ℕ → Bool) → Tests (goal.F-post g l.p) f → LastBelow f (column4 l.m l.base) l.s l.e l.k)

abbrev pub decreases-loop-k : goal.decreases-loop-k
decreases-loop-k g l = l.k

abbrev pub invariant-loop-j : goal.invariant-loop-j
invariant-loop-j g l = (f : ℕ → Bool) → Tests (goal.F-post g l.p) f → LastBelow f (column4 l.m l.base) l.s l.e l.j
