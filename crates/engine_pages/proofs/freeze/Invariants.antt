use Rattle.engine_pages.proofs.Freezing.{FreezeInv}
use Rattle.engine_pages.proofs.freeze.Given as goal

abbrev pub invariant-loop-p : goal.invariant-loop-p
invariant-loop-p l = FreezeInv l.initial.m l.m l.p
