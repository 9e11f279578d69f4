-- `engine_close::first_row` meets its contract: it is the row with which the first page of the table, or of a later one, starts (`rows_from`).
use Rattle.engine_close.proofs.Memory.{rows_from}
use Rattle.engine_close.proofs.first_row.Goals as goal

pub returns : goal.returns
returns c = rows_from _ c.requires.0 c.table_start.ensures c.start_of.ensures.0 c.start_of.ensures.1
