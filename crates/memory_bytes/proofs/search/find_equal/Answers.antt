-- `memory_bytes::search::find_equal` meets its contract: that of `first_where`, with the closure's test.
use Rattle.basics.proofs.Kit.{rules}
use Rattle.memory_bytes.specs.Columns.{equals}
use Rattle.memory_bytes.proofs.search.find_equal.Goals as goal

pub returns : goal.returns
returns c = c.first_where.ensures (equals c.args.key) (λ x b r e. search rules)
