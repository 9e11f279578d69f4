use Rattle.call_forward.proofs.Listed.{Logging}
use Rattle.call_forward.proofs.log_aborts.Given as goal

abbrev pub invariant-loop-i : goal.invariant-loop-i
invariant-loop-i l = Logging l.initial.log l.end l.numbers l.log l.i
