-- `call_logged::logged_abort` meets its contract: an abort with room for its record, which is appended where it was done (`logged_by`).
use Rattle.basics.proofs.Kit.{◌%◌, []}
use Rattle.model.specs.Calls.{aborts, transact}
use Rattle.log_records.specs.Records.{aborted_by}
use Rattle.log_records.specs.declared.Change.TheVariants.{Abort}
use Rattle.call_logged.proofs.Logging.{Writes, ready, logged_by, writes_abort}
use Rattle.call_logged.proofs.logged_abort.Goals as goal

pub append_accepted-requires : goal.append_accepted-requires
unfolding transact
append_accepted-requires c = let appends : let a = c.args in Writes (aborts a.transaction) (aborted_by a.transaction) (Abort (a.transaction % 4096)) [] (2) = let a = c.args in writes_abort a.transaction in
    ready _ _ _ _ _ appends _ _ _ _ c.has_room-room.ensures _ _ c.end_if-answer.ensures

pub returns : goal.returns
unfolding transact
returns c = let appends : let a = c.args in Writes (aborts a.transaction) (aborted_by a.transaction) (Abort (a.transaction % 4096)) [] (2) = let a = c.args in writes_abort a.transaction in
    logged_by _ _ _ _ _ appends _ _ _ _ c.has_room-room.ensures _ _ c.end_if-answer.ensures _ _ c.append_accepted.ensures
