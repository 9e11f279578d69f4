-- `call_logged::logged_delete` meets its contract: a delete with room for its record, which is appended where it was done (`logged_by`).
use Rattle.basics.proofs.Kit.{◌%◌, [], arith}
use Rattle.model.specs.Calls.{deletes, transact}
use Rattle.log_records.specs.Records.{deleted_by}
use Rattle.log_records.specs.declared.Change.TheVariants.{Delete}
use Rattle.call_logged.proofs.Logging.{Writes, ready, logged_by, writes_delete}
use Rattle.call_logged.proofs.logged_delete.Goals as goal

pub append_accepted-requires : goal.append_accepted-requires
unfolding transact
append_accepted-requires c = let appends : let a = c.args in Writes (deletes a.transaction a.table a.key) (deleted_by a.transaction a.table a.key) (Delete (a.transaction % 4096) (a.table % 8) a.key) [] (8) = let a = c.args in writes_delete a.transaction a.table a.key (omega arith) in
    ready _ _ _ _ _ appends _ _ _ _ c.has_room-room.ensures _ _ c.write_if-answer.ensures

pub returns : goal.returns
unfolding transact
returns c = let appends : let a = c.args in Writes (deletes a.transaction a.table a.key) (deleted_by a.transaction a.table a.key) (Delete (a.transaction % 4096) (a.table % 8) a.key) [] (8) = let a = c.args in writes_delete a.transaction a.table a.key (omega arith) in
    logged_by _ _ _ _ _ appends _ _ _ _ c.has_room-room.ensures _ _ c.write_if-answer.ensures _ _ c.append_accepted.ensures
