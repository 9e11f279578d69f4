use Rattle.basics.proofs.Kit.{take}
use Rattle.memory_layout.specs.Flat.{flat_of}
use Rattle.call_recovery.specs.Reopening.{own_rows, Counts}
use Rattle.call_recovery.proofs.count_rows.Given as goal

abbrev pub invariant-loop-i : goal.invariant-loop-i
invariant-loop-i l = Counts (take l.i (own_rows (flat_of l.m))) l.counts
