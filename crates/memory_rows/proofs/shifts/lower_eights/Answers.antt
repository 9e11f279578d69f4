-- `memory_rows::shifts::lower_eights` meets its contract. The invariant (`Lowering`): the blocks below row k have moved, the others stand as they were.
use Rattle.basics.proofs.Kit.{◌+◌, ◌-◌, arith}
use Rattle.memory_rows.proofs.Eights.{taken_fits, fit_then, lowering_start, lowering_iteration, lowering_end}
use Rattle.memory_rows.proofs.shifts.lower_eights.Goals as goal

pub copy_eight-requires : goal.copy_eight-requires
copy_eight-requires c = let q = c.loop-k.invariant in let p = c.requires in
    record { fit = fit_then p.0.fit q.only; first = omega (arith, p.0.space); second = omega (arith, p.0.space) }

pub loop-k-preserved : goal.loop-k-preserved
loop-k-preserved c = lowering_iteration c.loop-k.invariant c.requires.0.space (omega (arith, c.loop-k-test.true)) c.copy_eight.ensures

pub give_eight-requires : goal.give_eight-requires
give_eight-requires c = record {
  fit = fit_then c.requires.0.fit c.loop-k.invariant.only;
  inside = omega (arith, c.requires.0.space);
  cells = taken_fits c.args.m.now c.args.c (c.args.i + 1) c.take_eight-first.ensures;
}

pub give_eight-requires-2 : goal.give_eight-requires-2
give_eight-requires-2 c = let a = c.args in
    let g = c.give_eight.ensures a.m.now (a.i + 1) c.take_eight-first.ensures in
    record {
      fit = fit_then (fit_then c.requires.0.fit c.loop-k.invariant.only) g.only;
      inside = omega (arith, c.requires.0.space);
      cells = taken_fits a.m.now a.c (a.n - 8) c.take_eight-last.ensures;
    }

pub returns : goal.returns
returns c = let a = c.args in
    lowering_end c.loop-k.invariant c.requires.1 c.requires.0.space (omega (arith, c.loop-k-test.false))
    (c.give_eight.ensures a.m.now (a.i + 1) c.take_eight-first.ensures) (c.give_eight-2.ensures a.m.now (a.n - 8) c.take_eight-last.ensures)

pub overflow_add-i : goal.overflow_add-i
overflow_add-i c = omega (arith, c.requires.0.fit.most)

pub take_eight-first-requires : goal.take_eight-first-requires
take_eight-first-requires c = (c.requires.0.fit, omega arith)

pub take_eight-last-requires : goal.take_eight-last-requires
take_eight-last-requires c = (c.requires.0.fit, omega arith)

pub overflow_add-k : goal.overflow_add-k
overflow_add-k c = omega (arith, c.requires.0.fit.most)

pub overflow_mul-k : goal.overflow_mul-k
overflow_mul-k c = omega (arith, c.requires.0.fit.most)

pub loop-k-init : goal.loop-k-init
loop-k-init c = lowering_start _ _ _ _ _ (omega arith) (omega arith) (omega arith)

pub overflow_add-k-in-loop-k : goal.overflow_add-k-in-loop-k
overflow_add-k-in-loop-k c = omega (arith, c.requires.0.fit.most, c.loop-k.invariant.inside)
