use Rattle.memory_bytes.specs.Columns.{names}
use Rattle.basics.specs.Lists.{tab}
use Rattle.memory_bytes.specs.Bytes.{column2}
use Rattle.basics.specs.Basics.{any}
use Rattle.basics.proofs.Kit.{◌≡◌, ◌≤◌, ◌-◌, ◌%◌}
use Rattle.memory_bytes.proofs.names16.Given as goal

abbrev pub invariant-loop-i : goal.invariant-loop-i
invariant-loop-i l =
    (l.i ≤ l.whole) × (l.i % 64 ≡ 0) × (any (names l.s) (tab (column2 l.m l.base) 0 l.n) ≡ any (names l.s) (tab (column2 l.m l.base) l.i (l.n - l.i)))

abbrev pub decreases-loop-i : goal.decreases-loop-i
decreases-loop-i l = l.whole - l.i
