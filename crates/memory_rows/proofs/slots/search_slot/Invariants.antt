use Rattle.memory_rows.specs.Cells.{is_taken}
use Rattle.memory_layout.specs.Flat.{capacity_of}
use Rattle.basics.proofs.Kit.{◌≡◌, true, ℕ, ◌<◌, ◌-◌}
use Rattle.memory_rows.proofs.slots.search_slot.Given as goal

abbrev pub invariant-loop-s : goal.invariant-loop-s
invariant-loop-s l = (l.s < capacity_of l.m) × ((k : ℕ) → k < l.s → is_taken l.m k ≡ true)

abbrev pub decreases-loop-s : goal.decreases-loop-s
decreases-loop-s l = capacity_of l.m - l.s
