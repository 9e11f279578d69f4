use Rattle.basics.specs.Lists.{tab, first_index}
use Rattle.memory_bytes.specs.Columns.{Tests}
use Rattle.memory_bytes.specs.Bytes.{column4}
use Rattle.basics.proofs.Kit.{◌≡◌, ℕ, Bool, ◌+◌, ◌≤◌, ◌-◌}
use Rattle.memory_bytes.proofs.search.first_where.Given as goal

abbrev pub invariant-loop-k : goal.invariant-loop-k
invariant-loop-k g l =
    (l.k ≤ l.n)
    × ((f : ℕ → Bool) → Tests (goal.F-post g l.p) f → l.i + first_index f (tab (column4 l.m l.base) l.i (l.n - l.i)) ≡ l.k + first_index f (tab (column4 l.m l.base) l.k (l.n - l.k)))

abbrev pub decreases-loop-k : goal.decreases-loop-k
decreases-loop-k g l = l.n - l.k

abbrev pub invariant-loop-j : goal.invariant-loop-j
invariant-loop-j g l =
    (f : ℕ → Bool) → Tests (goal.F-post g l.p) f → l.i + first_index f (tab (column4 l.m l.base) l.i (l.n - l.i)) ≡ l.j + first_index f (tab (column4 l.m l.base) l.j (l.n - l.j))
