use Rattle.call_checkpoint.proofs.Repeating.{Repeats}
use Rattle.call_checkpoint.proofs.run.Given as goal

abbrev pub invariant-loop-due : goal.invariant-loop-due
invariant-loop-due l = Repeats l.initial.image l.initial.m l.k l.image l.m l.due
