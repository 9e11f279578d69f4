-- `engine_close::row_count` meets its contract: the head's count of rows is how many tuples the pages hold (`rows_counted`).
use Rattle.engine_close.proofs.Memory.{rows_counted}
use Rattle.engine_close.proofs.row_count.Goals as goal

pub returns : goal.returns
returns c = rows_counted _ c.requires c.get_counts.ensures
