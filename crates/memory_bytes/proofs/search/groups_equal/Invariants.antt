use Rattle.basics.proofs.Kit.{◌≤◌, ◌-◌}
use Rattle.memory_bytes.specs.Bytes.{column4}
use Rattle.memory_bytes.specs.Columns.{Grouped}
use Rattle.memory_bytes.proofs.search.groups_equal.Given as goal

abbrev pub invariant-loop-k : goal.invariant-loop-k
invariant-loop-k l = (l.s ≤ l.k) × ((l.k ≤ l.e) × Grouped (column4 l.m l.base) l.key l.s l.k l.lo l.hi)

abbrev pub decreases-loop-k : goal.decreases-loop-k
decreases-loop-k l = l.e - l.k
