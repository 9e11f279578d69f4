-- `log_records::put_first` meets its contract: the one byte that it is lent (`one_set`).
use Rattle.log_records.proofs.Stores.{one_set}
use Rattle.log_records.proofs.put_first.Goals as goal

pub returns : goal.returns
returns c = one_set c.args.part.now c.args.first c.requires
