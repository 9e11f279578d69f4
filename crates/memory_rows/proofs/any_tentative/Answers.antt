-- `memory_rows::any_tentative` meets its contract. The invariant (`AnyFrom`): the answer is hit, or whether one of the states from j on is below 128.
use Rattle.memory_rows.proofs.Groups.{group_is}
use Rattle.memory_layout.proofs.Laws.{sized}
use Rattle.memory_bytes.proofs.Scans.{any_starts, any_iterates, any_ends}
use Rattle.basics.proofs.Kit.{refl, sym, ◌∙◌, arith}
use Rattle.memory_rows.proofs.any_tentative.Goals as goal

pub overflow_add-hit : goal.overflow_add-hit
overflow_add-hit c = let z = sized c.args.m.now c.requires.0 in
    omega (arith, z.most, z.rows, c.state_place-a.ensures.0)

pub bounds-m-a : goal.bounds-m-a
bounds-m-a c = let z = sized c.args.m.now c.requires.0 in
    omega (arith, z.long, z.rows, c.state_place-a.ensures.0, c.requires.1)

pub returns : goal.returns
returns c = let a = c.state_place-a in any_ends c.loop-j.invariant (omega arith) ∙ sym (group_is c.args.m.now c.args.i a.result c.requires.1 a.ensures.0)

pub state_place-a-requires : goal.state_place-a-requires
state_place-a-requires c = (c.requires.0, omega (arith, c.requires.1))

pub loop-j-init : goal.loop-j-init
loop-j-init c = any_starts (omega arith)

pub loop-j-preserved : goal.loop-j-preserved
loop-j-preserved c = any_iterates c.loop-j.invariant (omega arith) refl
