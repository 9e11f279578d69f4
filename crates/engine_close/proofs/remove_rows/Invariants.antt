use Rattle.engine_close.proofs.Closing.{LiveLeft}
use Rattle.basics.proofs.Kit.{◌-◌}
use Rattle.engine_close.proofs.remove_rows.Given as goal

abbrev pub invariant-loop : goal.invariant-loop
invariant-loop l = LiveLeft l.initial.m l.m l.i l.k l.r (l.k - l.counter)
