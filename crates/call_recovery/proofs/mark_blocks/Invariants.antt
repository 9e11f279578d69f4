use Rattle.basics.proofs.Kit.{take}
use Rattle.call_recovery.proofs.Naming.{Marked}
use Rattle.call_recovery.proofs.mark_blocks.Given as goal

abbrev pub invariant-loop-b : goal.invariant-loop-b
invariant-loop-b l = Marked (take l.b-index l.bs) l.initial.m l.m
