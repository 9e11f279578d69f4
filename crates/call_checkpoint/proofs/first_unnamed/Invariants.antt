use Rattle.basics.proofs.Kit.{◌≡◌, length}
use Rattle.memory_layout.specs.Flat.{flat_of}
use Rattle.call_checkpoint.specs.Counting.{NamedBefore}
use Rattle.call_checkpoint.proofs.first_unnamed.Given as goal

abbrev pub invariant-loop-i : goal.invariant-loop-i
invariant-loop-i l = (l.n ≡ length (flat_of l.m).named) × NamedBefore (flat_of l.m).named l.i
