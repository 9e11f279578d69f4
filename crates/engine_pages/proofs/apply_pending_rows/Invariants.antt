use Rattle.basics.proofs.Kit.{◌-◌}
use Rattle.engine_pages.proofs.Applying.{ApplyInv}
use Rattle.engine_pages.proofs.apply_pending_rows.Given as goal

abbrev pub invariant-loop : goal.invariant-loop
invariant-loop l = ApplyInv l.initial.m l.m l.p (l.n - l.counter) l.i
