use Rattle.basics.proofs.Kit.{◌≡◌, length, drop}
use Rattle.basics.specs.Basics.{how_many}
use Rattle.memory_layout.specs.Flat.{flat_of}
use Rattle.memory_pages.specs.Pages.{frozen_entry}
use Rattle.basics.proofs.Counting.{Counted}
use Rattle.memory_pages.proofs.count_frozen.Given as goal

abbrev pub invariant-loop-p : goal.invariant-loop-p
invariant-loop-p l = (l.n ≡ length (flat_of l.m).entries) × Counted frozen_entry (flat_of l.m).entries (how_many frozen_entry (drop l.from (flat_of l.m).entries)) l.k l.p
