use Rattle.call_forward.proofs.Listed.{Opening}
use Rattle.call_forward.proofs.open_marked.Given as goal

abbrev pub invariant-loop-i : goal.invariant-loop-i
invariant-loop-i l = Opening l.initial.s l.log l.at l.n l.s l.i
