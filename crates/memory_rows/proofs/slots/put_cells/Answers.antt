-- `memory_rows::slots::put_cells` meets its contract: key, reference and state are written, each in its column (`cells_put`).
use Rattle.memory_rows.proofs.Moving.{cells_put}
use Rattle.memory_bytes.proofs.Moves.{wrote1}
use Rattle.basics.proofs.Kit.{◌∙◌, length-set, arith}
use Rattle.memory_rows.proofs.slots.put_cells.Goals as goal

pub shape_of-m : goal.shape_of-m
shape_of-m c = simp length-set (c.put2.ensures.apart.size ∙ c.put4.ensures.apart.size)

pub returns : goal.returns
returns c = let w4 = c.put4.ensures in let w2 = c.put2.ensures in let s = c.states_at in
    cells_put c.keys_at.ensures c.refs_at.ensures s.ensures c.requires.1 (omega arith) (omega arith) w4 w2
    (wrote1 _ _ c.args.state (omega (arith, w4.apart.size, w2.apart.size)))
