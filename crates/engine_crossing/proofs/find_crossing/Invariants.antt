use Rattle.engine_crossing.proofs.Progress.{Progress}
use Rattle.basics.proofs.Kit.{◌≤◌, ◌-◌}
use Rattle.engine_crossing.proofs.find_crossing.Given as goal

abbrev pub invariant-loop-c : goal.invariant-loop-c
invariant-loop-c l = (l.s ≤ l.c) × Progress l.m l.transaction l.table l.first l.end l.initial.out l.out l.i l.c l.n

abbrev pub decreases-loop-c : goal.decreases-loop-c
decreases-loop-c l = l.high - l.c
