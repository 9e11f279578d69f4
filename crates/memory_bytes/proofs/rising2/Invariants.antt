use Rattle.basics.specs.Lists.{tab}
use Rattle.memory_bytes.specs.Bytes.{column2}
use Rattle.basics.specs.Basics.{paired}
use Rattle.basics.proofs.Kit.{◌≡◌, ◌&&◌, ◌+◌, ◌-◌, ltb}
use Rattle.memory_bytes.proofs.rising2.Given as goal

abbrev pub invariant-loop-j : goal.invariant-loop-j
invariant-loop-j l = paired ltb (tab (column2 l.m l.base) 0 (l.n + 1)) ≡ (l.ok && paired ltb (tab (column2 l.m l.base) l.j (l.n + 1 - l.j)))
