-- `call_forward::abort_each` meets its contract: those from i on are left to abort (`Aborting`).
use Rattle.call_forward.proofs.Listed.{aborting_start, aborting_next, aborting_end}
use Rattle.call_forward.proofs.abort_each.Goals as goal

pub loop-transaction-init : goal.loop-transaction-init
loop-transaction-init c = aborting_start c.args.s.now c.args.numbers.now c.requires

pub repeat-requires : goal.repeat-requires
repeat-requires c = c.loop-transaction.invariant.1.has_store

pub loop-transaction-preserved : goal.loop-transaction-preserved
loop-transaction-preserved c =
    aborting_next c.args.s.now c.args.numbers.now c.loop-transaction.s c.loop-transaction.transaction-index c.loop-transaction.invariant c.loop-transaction-test.true c.repeat.ensures

pub returns : goal.returns
returns c = aborting_end c.args.s.now c.args.numbers.now c.loop-transaction.s c.loop-transaction.transaction-index c.loop-transaction.invariant c.loop-transaction-test.false
