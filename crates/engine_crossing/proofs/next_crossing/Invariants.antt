use Rattle.engine_crossing.specs.Crossing.{NoneCross}
use Rattle.memory_layout.specs.Flat.{flat_of}
use Rattle.basics.proofs.Kit.{◌≡◌, ◌≤◌, ◌<◌}
use Rattle.engine_crossing.proofs.next_crossing.Given as goal

abbrev pub invariant-loop-r : goal.invariant-loop-r
invariant-loop-r l = (l.i ≤ l.r) × (NoneCross (flat_of l.m) l.first l.end l.i l.r × (l.e < l.r → l.r ≡ l.i))
