use Rattle.memory_layout.specs.Flat.{flat_of}
use Rattle.call_checkpoint.specs.Counting.{named_in}
use Rattle.call_checkpoint.proofs.Leaving.{Marking}
use Rattle.call_checkpoint.proofs.mark_named.Given as goal

abbrev pub invariant-loop-i : goal.invariant-loop-i
invariant-loop-i l = Marking l.initial.m l.m (named_in (flat_of l.initial.m)) l.n l.i
