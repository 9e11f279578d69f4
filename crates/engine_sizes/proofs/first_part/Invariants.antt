use Rattle.basics.proofs.Kit.{◌-◌}
use Rattle.engine_sizes.proofs.Walking.{Between}
use Rattle.engine_sizes.proofs.first_part.Given as goal

abbrev pub invariant-loop-i : goal.invariant-loop-i
invariant-loop-i l = Between l.m l.s l.e l.i l.j l.left l.right

abbrev pub decreases-loop-i : goal.decreases-loop-i
decreases-loop-i l = l.j - l.i
