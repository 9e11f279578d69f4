use Rattle.basics.proofs.Kit.{◌≡◌, length}
use Rattle.memory_layout.specs.Flat.{flat_of}
use Rattle.call_transactions.proofs.Closing.{Closed}
use Rattle.call_transactions.proofs.close.Given as goal

abbrev pub invariant-loop-i : goal.invariant-loop-i
invariant-loop-i l = (length l.m ≡ length l.initial.m) × Closed l.initial.m l.m l.transaction

abbrev pub decreases-loop-i : goal.decreases-loop-i
decreases-loop-i l = length (flat_of l.m).opens
