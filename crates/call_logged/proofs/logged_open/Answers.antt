-- `call_logged::logged_open` meets its contract: an open with room for its record, which is appended where it was done (`logged_by`).
use Rattle.basics.proofs.Kit.{◌%◌, []}
use Rattle.model.specs.Calls.{opens, transact}
use Rattle.log_records.specs.Records.{opened_by}
use Rattle.log_records.specs.declared.Change.TheVariants.{Open}
use Rattle.call_logged.proofs.Logging.{Writes, ready, logged_by, writes_open}
use Rattle.call_logged.proofs.logged_open.Goals as goal

pub append_accepted-requires : goal.append_accepted-requires
unfolding transact
append_accepted-requires c = let appends : let a = c.args in Writes (opens a.transaction) (opened_by a.transaction) (Open (a.transaction % 4096)) [] (2) = let a = c.args in writes_open a.transaction in
    ready _ _ _ _ _ appends _ _ _ _ c.has_room-room.ensures _ _ c.open_if-answer.ensures

pub returns : goal.returns
unfolding transact
returns c = let appends : let a = c.args in Writes (opens a.transaction) (opened_by a.transaction) (Open (a.transaction % 4096)) [] (2) = let a = c.args in writes_open a.transaction in
    logged_by _ _ _ _ _ appends _ _ _ _ c.has_room-room.ensures _ _ c.open_if-answer.ensures _ _ c.append_accepted.ensures
