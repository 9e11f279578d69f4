-- `call_logged::logged_insert` meets its contract: an insert with room for its record, which is appended where it was done (`logged_by`).
use Rattle.basics.proofs.Kit.{◌+◌, ◌%◌, length, arith}
use Rattle.block_forms.proofs.Spelled.{all_bytes}
use Rattle.model.specs.Calls.{inserts, transact}
use Rattle.log_records.specs.Records.{inserted_by}
use Rattle.log_records.specs.declared.Change.TheVariants.{Insert}
use Rattle.call_logged.proofs.Logging.{Writes, ready, logged_by, writes_insert}
use Rattle.call_logged.proofs.logged_insert.Goals as goal

pub append_accepted-requires : goal.append_accepted-requires
unfolding transact
append_accepted-requires c = let appends : let a = c.args in Writes (inserts a.transaction a.table a.key a.payload.now) (inserted_by a.transaction a.table a.key a.payload.now) (Insert (a.transaction % 4096) (a.table % 8) a.key (length a.payload.now)) a.payload.now (8 + length a.payload.now) = let a = c.args in writes_insert a.transaction a.table a.key a.payload.now (omega arith) (all_bytes a.payload.now (λ j. omega (arith, c.type_inv.payload j))) in
    ready _ _ _ _ _ appends _ _ _ _ c.has_room-room.ensures _ _ c.write_if-answer.ensures

pub returns : goal.returns
unfolding transact
returns c = let appends : let a = c.args in Writes (inserts a.transaction a.table a.key a.payload.now) (inserted_by a.transaction a.table a.key a.payload.now) (Insert (a.transaction % 4096) (a.table % 8) a.key (length a.payload.now)) a.payload.now (8 + length a.payload.now) = let a = c.args in writes_insert a.transaction a.table a.key a.payload.now (omega arith) (all_bytes a.payload.now (λ j. omega (arith, c.type_inv.payload j))) in
    logged_by _ _ _ _ _ appends _ _ _ _ c.has_room-room.ensures _ _ c.write_if-answer.ensures _ _ c.append_accepted.ensures
