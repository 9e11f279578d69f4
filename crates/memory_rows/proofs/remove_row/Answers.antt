-- `memory_rows::remove_row` meets its contract: the rows behind row i go one down, then its slot is noted and the count is written (`removed`).
use Rattle.basics.proofs.Kit.{arith}
use Rattle.memory_rows.proofs.Inserting.{removed}
use Rattle.memory_rows.proofs.remove_row.Goals as goal

pub returns : goal.returns
returns c = removed _ c.capacity-c.ensures c.row_count-n.ensures (omega (arith, c.row_count-n.ensures, c.requires.1))
    c.refs_at.ensures c.lower_rows.ensures c.put2.ensures c.put4.ensures
