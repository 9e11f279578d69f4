-- `call_transactions::one_more` meets its contract: below the limit one more (`more_one`), at it the same (`more_full`).
use Rattle.basics.proofs.Kit.{arith}
use Rattle.call_transactions.proofs.Writing.{more_one, more_full}
use Rattle.call_transactions.proofs.one_more.Goals as goal

pub returns-then-o-lt-WRITTEN_LIMIT : goal.returns-then-o-lt-WRITTEN_LIMIT
returns-then-o-lt-WRITTEN_LIMIT c = (more_one _ c.if-o-lt-WRITTEN_LIMIT.true, record { transaction = c.requires.transaction; written = omega (arith, c.if-o-lt-WRITTEN_LIMIT.true) })

pub returns : goal.returns
returns c = (more_full _ c.requires c.if-o-lt-WRITTEN_LIMIT.false, c.requires)
