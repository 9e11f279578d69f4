use Rattle.engine_close.specs.Close.{tagged_of, left_from}
use Rattle.engine_close.proofs.Next.{Doing}
use Rattle.basics.proofs.Kit.{◌-◌, length}
use Rattle.engine_close.proofs.close_rows.Given as goal

abbrev pub invariant-loop-i : goal.invariant-loop-i
invariant-loop-i l = Doing (left_from l.keep l.transaction) l.initial.m l.m l.i

abbrev pub decreases-loop-i : goal.decreases-loop-i
decreases-loop-i l = length (tagged_of l.m) - l.i
