use Rattle.basics.proofs.Kit.{◌≡◌}
use Rattle.memory_layout.specs.Flat.{flat_of}
use Rattle.engine_allocator.proofs.Tallies.{search}
use Rattle.engine_allocator.proofs.first_free.Given as goal

abbrev pub invariant-loop-b : goal.invariant-loop-b
invariant-loop-b l = search (flat_of l.m).used l.a l.e ≡ search (flat_of l.m).used l.b l.e
