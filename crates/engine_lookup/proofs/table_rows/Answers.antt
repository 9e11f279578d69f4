-- `engine_lookup::table_rows` meets its contract: the rows between the starts of two tables (`table_range`).
use Rattle.engine_lookup.proofs.Tables.{table_range}
use Rattle.engine_lookup.proofs.table_rows.Goals as goal

pub returns : goal.returns
returns c = let p = c.table_start-p.ensures in
    table_range c.requires.0 p c.table_start-q.ensures c.start_of.ensures.0 c.start_of-2.ensures.0 c.start_of-2.ensures.1
