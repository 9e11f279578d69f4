-- Logged calls: an accepted call appends its record to the log.
use Rattle.std.specs.Prelude.{ℕ, suc, ◌+◌, List, [], ◌∷◌, length, ltb, eqb}
use Rattle.std.proofs.Math.Option.{Option, none, some}
use Rattle.basics.specs.Basics.{if'◌then◌else◌, keep, sorted}
use Rattle.basics.specs.Lists.{over}
use Rattle.model.specs.State.{Active, Store, Outcome, refused}
use Rattle.model.specs.Transactions.{gives, open_numbers}
use Rattle.model.specs.Calls.{TransactionCall, opens, inserts, inserts_checked, replaces, deletes, commits, aborts, reads, lists, crossings, Call, transacts, begins, steps, runs, call}
use Rattle.model.specs.Calls.{accepted}
use Rattle.log_records.specs.Records.{LogRecord, opened_by, committed_by, aborted_by, inserted_by, replaced_by, deleted_by, mark_of, log_size, encode_record}

-- ---- the record of a call

-- of a call of transactions; those that only answer have none
unfoldable pub record_of : TransactionCall → Option LogRecord
record_of (opens tx) = some (opened_by tx)
record_of (inserts tx t k bs) = some (inserted_by tx t k bs)
record_of (inserts_checked tx t k bs hours) = some (inserted_by tx t k bs)
record_of (replaces tx t k bs) = some (replaced_by tx t k bs)
record_of (deletes tx t k) = some (deleted_by tx t k)
record_of (commits tx) = some (committed_by tx)
record_of (aborts tx) = some (aborted_by tx)
record_of (reads tx t k room) = none
record_of (lists room) = none
record_of (crossings tx t first end room) = none

-- the transactions open without writes, by rising number
unfoldable pub unwritten : List Active → List ℕ
unwritten os = sorted (open_numbers (keep (λ o. eqb o.written 0) os))

-- the mark of a begin: the level of the checkpoint begun, and the transactions open without writes
unfoldable pub mark_for : Store → LogRecord
mark_for s = mark_of (suc s.level) (unwritten s.active)

-- of every call; step and run have none
unfoldable pub record_for : Call → Store → Option LogRecord
record_for (transacts c) s = record_of c
record_for begins s = some (mark_for s)
record_for (steps len) s = none
record_for (runs limit len) s = none

-- ---- a logged call

-- the call's outcome, the records appended, and the log with its new end
pub record LoggedOutcome : Type 0 where
  pub outcome : Outcome
  pub records : List LogRecord
  pub log : List ℕ
  pub end : ℕ

-- nothing is appended
unfoldable pub unlogged : Outcome → List ℕ → ℕ → LoggedOutcome
unlogged o log e = record { outcome = o; records = []; log = log; end = e }

-- 29 the record does not fit the log, after all other tests of the call; e is where the log ends
unfoldable pub appending : LogRecord → Outcome → Store → List ℕ → ℕ → LoggedOutcome
appending r o s log e =
    if' ltb (length log) (e + log_size r) then unlogged (gives (refused 29) s) log e
    else record { outcome = o; records = r ∷ []; log = over log e (encode_record r); end = e + log_size r }

-- a call with the outcome o on the store s, and its record: a refused call leaves the log as found
unfoldable pub logging : LogRecord → Outcome → Store → List ℕ → ℕ → LoggedOutcome
logging r o s log e = if' accepted o.answer then appending r o s log e else unlogged o log e

-- the same of a call that may have no record
unfoldable pub logging_if : Option LogRecord → Outcome → Store → List ℕ → ℕ → LoggedOutcome
logging_if none o s log e = unlogged o log e
logging_if (some r) o s log e = logging r o s log e

-- every call, logged if it has a record
unfoldable pub logged_call : Call → Store → List ℕ → ℕ → LoggedOutcome
logged_call c s log e = logging_if (record_for c s) (call c s) s log e
