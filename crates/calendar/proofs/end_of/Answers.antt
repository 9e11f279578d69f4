-- `calendar::end_of` meets its contract.
use Rattle.basics.proofs.Kit.{refl, arith}
use Rattle.calendar.specs.Calendar.{end_of}
use Rattle.calendar.proofs.Edges.{ranged}
use Rattle.calendar.proofs.end_of.Goals as goal

pub overflow_add-result : goal.overflow_add-result
overflow_add-result c = let h = ranged c.requires in omega (arith, h.starts, h.most)

pub returns : goal.returns
unfolding end_of
returns c = refl
