-- `call_transactions::delete` meets its contract: a write of a mark with empty payload (`delete_is`).
use Rattle.basics.proofs.Kit.{arith}
use Rattle.call_transactions.proofs.Called.{delete_is}
use Rattle.call_transactions.proofs.delete.Goals as goal

pub returns : goal.returns
returns c = delete_is _ _ _ _ _ _ _ c.write_if.ensures (omega arith)
