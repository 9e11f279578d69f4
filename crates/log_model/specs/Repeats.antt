-- Records as calls: the call that a record says, and the store after the calls of records.
use Rattle.std.specs.Prelude.{Bool, true, ◌&&◌, List, [], ◌∷◌}
use Rattle.std.proofs.Math.Option.{Option, none, some}
use Rattle.model.specs.State.{Store, Outcome, done}
use Rattle.model.specs.Transactions.{gives}
use Rattle.model.specs.Calls.{TransactionCall, opens, inserts, replaces, deletes, commits, aborts, transact, accepted}
use Rattle.log_records.specs.Records.{LogRecord, opened_by, committed_by, aborted_by, inserted_by, replaced_by, deleted_by, mark_of}

-- the call that a record says; a mark is none
unfoldable pub call_of : LogRecord → Option TransactionCall
call_of (opened_by tx) = some (opens tx)
call_of (inserted_by tx t k bs) = some (inserts tx t k bs)
call_of (replaced_by tx t k bs) = some (replaces tx t k bs)
call_of (deleted_by tx t k) = some (deletes tx t k)
call_of (committed_by tx) = some (commits tx)
call_of (aborted_by tx) = some (aborts tx)
call_of (mark_of l txs) = none

-- that call on a store; without one nothing changes
unfoldable pub call_if : Option TransactionCall → Store → Outcome
call_if none s = gives done s
call_if (some c) s = transact c s

-- a record repeated: marks are passed over
unfoldable pub repeat : LogRecord → Store → Outcome
repeat r s = call_if (call_of r) s

-- the store after the calls of records, one after another
unfoldable pub repeat_all : List LogRecord → Store → Store
repeat_all [] s = s
repeat_all (r ∷ rs) s = repeat_all rs (repeat r s).store

-- each of these calls is accepted
unfoldable pub all_accepted : List LogRecord → Store → Bool
all_accepted [] s = true
all_accepted (r ∷ rs) s = accepted (repeat r s).answer && all_accepted rs (repeat r s).store
