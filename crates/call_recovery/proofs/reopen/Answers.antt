-- `call_recovery::reopen` meets its contract: the tables of counts start at zeros (`no_counts`), and each pass has what the one before it leaves.
use Rattle.call_recovery.proofs.Owning.{no_counts}
use Rattle.call_recovery.proofs.reopen.Goals as goal

pub count_rows-requires : goal.count_rows-requires
count_rows-requires c = let pre = c.requires in record { room = pre.room; owners = pre.owners; none = no_counts }

pub reopen_rows-requires : goal.reopen_rows-requires
reopen_rows-requires c = record { may = c.requires; counted = c.count_rows.ensures; none = no_counts }
