use Rattle.basics.proofs.Kit.{◌≡◌, ◌+◌, ◌-◌}
use Rattle.basics.specs.Lists.{tab}
use Rattle.memory_layout.specs.Views.{open_at, open_count}
use Rattle.memory_layout.specs.Flat.{opens_of}
use Rattle.memory_layout.specs.Opens.{find_open}
use Rattle.memory_layout.proofs.find_open.Given as goal

abbrev pub invariant-loop-i : goal.invariant-loop-i
invariant-loop-i l = (l.n ≡ open_count l.m) × (find_open l.transaction (opens_of l.m) ≡ l.i + find_open l.transaction (tab (open_at l.m) l.i (l.n - l.i)))
