-- `call_transactions::close` meets its contract. The invariant (`Closed`): only the list of open transactions has changed, by entries of this one.
use Rattle.basics.proofs.Kit.{◌∙◌}
use Rattle.call_transactions.proofs.Closing.{closed_out, closed_end}
use Rattle.call_transactions.proofs.close.Goals as goal

pub loop-i-preserved : goal.loop-i-preserved
loop-i-preserved c = let b = c.remove_open.ensures in
    (b.size ∙ c.loop-i.invariant.0, closed_out c.loop-i.invariant.1 c.in-Some.ensures.0 c.in-Some.ensures.1 b)

pub returns : goal.returns
returns c = closed_end c.loop-i.invariant.1 c.in_default.ensures
