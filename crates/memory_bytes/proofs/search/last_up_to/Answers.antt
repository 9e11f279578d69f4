-- `memory_bytes::search::last_up_to` meets its contract: that of `last_where`, with the closure's test.
use Rattle.basics.proofs.Kit.{rules}
use Rattle.memory_bytes.specs.Columns.{up_to}
use Rattle.memory_bytes.proofs.search.last_up_to.Goals as goal

pub returns : goal.returns
returns c = c.last_where.ensures (up_to c.args.key) (λ x b r e. search rules)
