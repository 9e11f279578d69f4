-- `call_checked::insert_checked` meets its contract: where no test of the calendar holds it is the insert (`is_insert`), else it is refused.
use Rattle.basics.proofs.Kit.{true}
use Rattle.call_checked.proofs.Checking.{is_insert, refuses}
use Rattle.call_checked.proofs.insert_checked.Goals as goal

pub returns-in-Err : goal.returns-in-Err
returns-in-Err c = let a = c.args in
    refuses a.table a.key a.payload.now a.hours.now a.transaction _ true _ c.in-Err.ensures _ c.refused.ensures

pub returns : goal.returns
returns c = let a = c.args in
    is_insert a.table a.key a.payload.now a.hours.now a.transaction _ true c.in_default.ensures _ _ c.insert.ensures
