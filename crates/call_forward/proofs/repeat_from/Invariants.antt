use Rattle.basics.proofs.Kit.{◌-◌, length}
use Rattle.call_forward.proofs.Walking.{Going}
use Rattle.call_forward.proofs.repeat_from.Given as goal

abbrev pub invariant-loop-e : goal.invariant-loop-e
invariant-loop-e l = Going l.initial.s l.log l.at l.s l.p

abbrev pub decreases-loop-e : goal.decreases-loop-e
decreases-loop-e l = length l.log - l.p
