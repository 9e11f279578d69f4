use Rattle.call_forward.proofs.Listed.{Aborting}
use Rattle.call_forward.proofs.abort_each.Given as goal

abbrev pub invariant-loop-transaction : goal.invariant-loop-transaction
invariant-loop-transaction l = Aborting l.initial.s l.numbers l.s l.transaction-index
