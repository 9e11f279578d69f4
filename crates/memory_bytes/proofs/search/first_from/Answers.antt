-- `memory_bytes::search::first_from` meets its contract: that of `first_where`, with the closure's test.
use Rattle.basics.proofs.Kit.{rules}
use Rattle.memory_bytes.specs.Columns.{at_least}
use Rattle.memory_bytes.proofs.search.first_from.Goals as goal

pub returns : goal.returns
returns c = c.first_where.ensures (at_least c.args.key) (λ x b r e. search rules)
