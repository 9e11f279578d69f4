use Rattle.basics.proofs.Kit.{take}
use Rattle.memory_layout.specs.Flat.{flat_of}
use Rattle.call_recovery.specs.Reopening.{own_rows, Counts}
use Rattle.call_recovery.proofs.Owning.{Reopened}
use Rattle.call_recovery.proofs.reopen_rows.Given as goal

abbrev pub invariant-loop-i : goal.invariant-loop-i
invariant-loop-i l = Reopened l.initial.m l.m l.i × Counts (take l.i (own_rows (flat_of l.initial.m))) l.passed
