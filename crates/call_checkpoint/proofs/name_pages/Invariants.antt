use Rattle.call_checkpoint.proofs.Beginning.{Naming}
use Rattle.call_checkpoint.proofs.name_pages.Given as goal

abbrev pub invariant-loop-p : goal.invariant-loop-p
invariant-loop-p l = Naming l.initial.m l.m l.p
