-- A record appended where a call was accepted.
use Rattle.std.specs.Prelude.{◌≡◌, true, false, List, ℕ, ◌+◌}
use Rattle.basics.specs.Lists.{over}
use Rattle.log_records.specs.Records.{LogRecord, log_size, encode_record}
use Rattle.log_records.specs.Entries.{Room, MarkRoom}
use Rattle.log_records.specs.declared.Change.{Change}
use Rattle.call_contracts.specs.Shape.{Answer, is_accepted}
use Rattle.call_contracts.specs.declared.Logged.{Logged}

-- where the call was accepted, its record has room at the log's end, and its fields are in range
abbrev pub Ready : Answer → List ℕ → ℕ → Change → List ℕ → Type 0
Ready a log e c bs = is_accepted a ≡ true → Room log e c bs

-- the same of a mark
abbrev pub ReadyMark : Answer → List ℕ → ℕ → ℕ → List ℕ → Type 0
ReadyMark a log e l txs = is_accepted a ≡ true → MarkRoom log e l txs

-- the call's answer is handed on; where it was accepted, the record is appended, else the log stays
pub record Appended (a : Answer) (r : LogRecord) (log : List ℕ) (e : ℕ) (res : Logged) (log' : List ℕ) : Type 0 where
  pub answer : res.answer ≡ a
  pub done : is_accepted a ≡ true → (log' ≡ over log e (encode_record r)) × (res.end ≡ e + log_size r)
  pub other : is_accepted a ≡ false → (log' ≡ log) × (res.end ≡ e)
