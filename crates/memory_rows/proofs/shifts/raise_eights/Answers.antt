-- `memory_rows::shifts::raise_eights` meets its contract. The invariant (`Raising`): the blocks from row k on have moved, the others stand as they were.
use Rattle.basics.proofs.Kit.{◌-◌, arith}
use Rattle.memory_rows.proofs.Eights.{taken_fits, fit_then, raising_start, raising_iteration, raising_end}
use Rattle.memory_rows.proofs.shifts.raise_eights.Goals as goal

pub copy_eight-requires : goal.copy_eight-requires
copy_eight-requires c = let q = c.loop-k.invariant in let p = c.requires in
    record { fit = fit_then p.0.fit q.only; first = omega (arith, q.high, q.most, p.0.space); second = omega (arith, q.high, q.most, p.0.space) }

pub loop-k-preserved : goal.loop-k-preserved
loop-k-preserved c = raising_iteration c.loop-k.invariant c.requires.0.space (omega (arith, c.loop-k-test.true)) c.copy_eight.ensures

pub give_eight-requires : goal.give_eight-requires
give_eight-requires c = record {
  fit = fit_then c.requires.0.fit c.loop-k.invariant.only;
  inside = omega (arith, c.requires.0.space);
  cells = taken_fits c.args.m.now c.args.c c.args.i c.take_eight-first.ensures;
}

pub give_eight-requires-2 : goal.give_eight-requires-2
give_eight-requires-2 c = let a = c.args in
    let g = c.give_eight.ensures a.m.now a.i c.take_eight-first.ensures in
    record {
      fit = fit_then (fit_then c.requires.0.fit c.loop-k.invariant.only) g.only;
      inside = omega (arith, c.requires.0.space);
      cells = taken_fits a.m.now a.c (a.n - 8) c.take_eight-last.ensures;
    }

pub returns : goal.returns
returns c = let a = c.args in
    raising_end c.loop-k.invariant c.requires.1 c.requires.0.space (omega (arith, c.loop-k-test.false))
    (c.give_eight.ensures a.m.now a.i c.take_eight-first.ensures) (c.give_eight-2.ensures a.m.now (a.n - 8) c.take_eight-last.ensures)

pub take_eight-first-requires : goal.take_eight-first-requires
take_eight-first-requires c = (c.requires.0.fit, omega arith)

pub take_eight-last-requires : goal.take_eight-last-requires
take_eight-last-requires c = (c.requires.0.fit, omega arith)

pub loop-k-init : goal.loop-k-init
loop-k-init c = raising_start _ _ _ _ _ (omega arith) (omega arith) (omega arith)

pub overflow_add-i : goal.overflow_add-i
overflow_add-i c = omega (arith, c.requires.0.fit.most)
