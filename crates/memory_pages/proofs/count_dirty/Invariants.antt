use Rattle.basics.proofs.Kit.{◌≡◌, length}
use Rattle.basics.specs.Basics.{how_many}
use Rattle.memory_layout.specs.Flat.{flat_of}
use Rattle.memory_pages.specs.Pages.{dirty_entry}
use Rattle.basics.proofs.Counting.{Counted}
use Rattle.memory_pages.proofs.count_dirty.Given as goal

abbrev pub invariant-loop-p : goal.invariant-loop-p
invariant-loop-p l = (l.n ≡ length (flat_of l.m).entries) × Counted dirty_entry (flat_of l.m).entries (how_many dirty_entry (flat_of l.m).entries) l.k l.p
