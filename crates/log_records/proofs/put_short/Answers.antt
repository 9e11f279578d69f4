-- `log_records::put_short` meets its contract: one byte stands behind the first (`one_set`).
use Rattle.basics.proofs.Kit.{◌%◌}
use Rattle.log_records.proofs.Stores.{one_set}
use Rattle.log_records.proofs.put_short.Goals as goal

pub returns : goal.returns
returns c = rw (c.first_byte.ensures, one_set c.args.part.now (c.args.transaction % 256) c.requires.size)
