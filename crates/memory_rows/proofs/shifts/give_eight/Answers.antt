-- `memory_rows::shifts::give_eight` meets its contract: a part written in each column writes the cells (`given`).
use Rattle.basics.proofs.Kit.{arith}
use Rattle.memory_rows.proofs.Eights.{given}
use Rattle.memory_rows.proofs.shifts.give_eight.Goals as goal

pub write-requires : goal.write-requires
write-requires c = let p = c.requires in omega (arith, p.fit.long, p.inside, p.cells.keys)

pub write-requires-2 : goal.write-requires-2
write-requires-2 c = let p = c.requires in omega (arith, p.fit.long, p.inside, p.cells.refs)

pub write-requires-3 : goal.write-requires-3
write-requires-3 c = let p = c.requires in
    omega (arith, p.fit.long, p.inside, p.cells.states)

pub returns : goal.returns
returns c = given c.args.rows c.keys_at.ensures c.refs_at.ensures c.states_at.ensures c.requires.inside
    c.write.ensures c.write-2.ensures c.write-3.ensures
