use Rattle.memory_bytes.specs.Columns.{up_to}
use Rattle.basics.specs.Lists.{tab}
use Rattle.memory_bytes.specs.Bytes.{column2}
use Rattle.basics.specs.Basics.{how_many}
use Rattle.basics.proofs.Kit.{◌≡◌, ◌+◌, ◌≤◌, ◌-◌}
use Rattle.memory_bytes.proofs.count_up_to2.Given as goal

abbrev pub invariant-loop-j : goal.invariant-loop-j
invariant-loop-j l =
    (l.k ≤ l.j - l.s)
    × (how_many (up_to l.x) (tab (column2 l.m l.base) l.s (l.e - l.s)) ≡ l.k + how_many (up_to l.x) (tab (column2 l.m l.base) l.j (l.e - l.j)))
