-- `log_records::entry_at` meets its contract: what stands at the front of what is left.
use Rattle.basics.proofs.Kit.{◌∙◌, ap}
use Rattle.log_records.specs.Entries.{entry_in}
use Rattle.log_records.proofs.Stores.{rest_part}
use Rattle.log_records.proofs.entry_at.Goals as goal

pub returns : goal.returns
returns c = c.front.ensures ∙ ap entry_in (rest_part c.args.log.now c.args.at)
