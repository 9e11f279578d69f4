-- `call_logged::logged_commit` meets its contract: a commit with room for its record, which is appended where it was done (`logged_by`).
use Rattle.basics.proofs.Kit.{◌%◌, []}
use Rattle.model.specs.Calls.{commits, transact}
use Rattle.log_records.specs.Records.{committed_by}
use Rattle.log_records.specs.declared.Change.TheVariants.{Commit}
use Rattle.call_logged.proofs.Logging.{Writes, ready, logged_by, writes_commit}
use Rattle.call_logged.proofs.logged_commit.Goals as goal

pub append_accepted-requires : goal.append_accepted-requires
unfolding transact
append_accepted-requires c = let appends : let a = c.args in Writes (commits a.transaction) (committed_by a.transaction) (Commit (a.transaction % 4096)) [] (2) = let a = c.args in writes_commit a.transaction in
    ready _ _ _ _ _ appends _ _ _ _ c.has_room-room.ensures _ _ c.end_if-answer.ensures

pub returns : goal.returns
unfolding transact
returns c = let appends : let a = c.args in Writes (commits a.transaction) (committed_by a.transaction) (Commit (a.transaction % 4096)) [] (2) = let a = c.args in writes_commit a.transaction in
    logged_by _ _ _ _ _ appends _ _ _ _ c.has_room-room.ensures _ _ c.end_if-answer.ensures _ _ c.append_accepted.ensures
