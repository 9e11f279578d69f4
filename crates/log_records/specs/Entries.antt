-- Records as values of the code, and what the code asks for.
use Rattle.std.specs.Prelude.{ℕ, ◌+◌, ◌*◌, ◌/◌, ◌≤◌, ◌<◌, ◌-◌, ◌≡◌, List, length, get_or, Some, None}
use Rattle.std.specs.Prelude.{Option as Place}
use Rattle.std.proofs.Math.Option.{Option, none, some}
use Rattle.basics.specs.Basics.{if'◌then◌else◌}
use Rattle.block_forms.specs.Limits.{payload_limit, transaction_limit, most_number}
use Rattle.image_rows.specs.Rows.{open_limit}
use Rattle.log_records.specs.Records.{LogRecord, opened_by, committed_by, aborted_by, inserted_by, replaced_by, deleted_by, mark_of, RecordFits, decode_record, ended, end_of, from_mark}
use Rattle.log_records.specs.Kinds.{number_of, IsShort, IsTuple}
use Rattle.log_records.specs.declared.Kind.{Kind}
use Rattle.log_records.specs.declared.Change.{Change}
use Rattle.log_records.specs.declared.Change.TheVariants.{Open, Insert, Replace, Delete, Commit, Abort}
use Rattle.log_records.specs.declared.Entry.{Entry}
use Rattle.log_records.specs.declared.Entry.TheVariants.{End, Malformed, Call, Mark}

-- ---- values of the code and of the specification

-- the record of a change whose payload is bs
unfoldable pub change_is : Change → List ℕ → LogRecord
change_is (Open tx) bs = opened_by tx
change_is (Insert tx t k n) bs = inserted_by tx t k bs
change_is (Replace tx t k n) bs = replaced_by tx t k bs
change_is (Delete tx t k) bs = deleted_by tx t k
change_is (Commit tx) bs = committed_by tx
change_is (Abort tx) bs = aborted_by tx

-- a record as a value of the code: its payload and the transactions of a mark stay in the log
unfoldable pub entry_as : LogRecord → Entry
entry_as (opened_by tx) = Call (Open tx)
entry_as (inserted_by tx t k bs) = Call (Insert tx t k (length bs))
entry_as (replaced_by tx t k bs) = Call (Replace tx t k (length bs))
entry_as (deleted_by tx t k) = Call (Delete tx t k)
entry_as (committed_by tx) = Call (Commit tx)
entry_as (aborted_by tx) = Call (Abort tx)
entry_as (mark_of l txs) = Mark l (length txs)

-- ---- reading

-- a record as a value of the code, or that it is malformed
unfoldable pub entry_of : Option LogRecord → Entry
entry_of none = Malformed
entry_of (some r) = entry_as r

-- what stands at the front of xs
unfoldable pub entry_in : List ℕ → Entry
entry_in xs = if' ended xs then End else entry_of (decode_record xs)

-- how many bytes a change's record takes
unfoldable pub change_size : Change → ℕ
change_size (Open tx) = 2
change_size (Insert tx t k n) = 8 + n
change_size (Replace tx t k n) = 8 + n
change_size (Delete tx t k) = 8
change_size (Commit tx) = 2
change_size (Abort tx) = 2

-- how many bytes a mark with n transactions takes
unfoldable pub mark_size : ℕ → ℕ
mark_size n = 6 + (3 * n + 1) / 2

-- a payload's length has 32 bits
abbrev pub Small : Change → Type 0
Small (Open tx) = Unit {0}
Small (Insert tx t k n) = n ≤ most_number
Small (Replace tx t k n) = n ≤ most_number
Small (Delete tx t k) = Unit {0}
Small (Commit tx) = Unit {0}
Small (Abort tx) = Unit {0}

-- so has a count
abbrev pub SmallEntry : Entry → Type 0
SmallEntry End = Unit {0}
SmallEntry Malformed = Unit {0}
SmallEntry (Call c) = Small c
SmallEntry (Mark l n) = n ≤ most_number

-- how many bytes what stands there takes
unfoldable pub entry_size : Entry → ℕ
entry_size End = 0
entry_size Malformed = 0
entry_size (Call c) = change_size c
entry_size (Mark l n) = mark_size n

-- where a log ends; none if it is malformed
unfoldable pub log_end : Option (List LogRecord) → Place ℕ
log_end none = None
log_end (some rs) = Some (end_of rs)

-- ---- writing

-- the record of a change has room in the log at its end, and its fields are in range
pub record Room (log : List ℕ) (end : ℕ) (c : Change) (bs : List ℕ) : Type 0 where
  pub fits : RecordFits (change_is c bs)
  -- the change tells its payload's length
  pub told : entry_as (change_is c bs) ≡ Call c
  pub room : end + change_size c ≤ length log

-- so has a mark
pub record MarkRoom (log : List ℕ) (end l : ℕ) (txs : List ℕ) : Type 0 where
  pub fits : RecordFits (mark_of l txs)
  pub room : end + mark_size (length txs) ≤ length log

-- ---- what each part of the writing asks for: the part of the log that it is lent has just the bytes behind the first

-- a change, whose record's fields are in range
pub record ChangePart (part : List ℕ) (c : Change) (bs : List ℕ) : Type 0 where
  pub fits : RecordFits (change_is c bs)
  pub told : entry_as (change_is c bs) ≡ Call c
  pub size : length part + 1 ≡ change_size c

-- kind and transaction
pub record ShortPart (part : List ℕ) (tx : ℕ) : Type 0 where
  pub transaction : tx < transaction_limit
  pub size : length part ≡ 1

-- transaction, table, payload length and key, and perhaps more behind them
pub record PlacePart (part : List ℕ) (t len : ℕ) : Type 0 where
  pub table : t < 8
  pub limit : len ≤ payload_limit
  pub size : 7 ≤ length part

-- kind, transaction, table, payload length, key and payload
pub record TuplePart (part : List ℕ) (tx t len : ℕ) : Type 0 where
  pub transaction : tx < transaction_limit
  pub table : t < 8
  pub limit : len ≤ payload_limit
  pub size : length part ≡ 7 + len

-- a mark
pub record MarkPart (part : List ℕ) (l : ℕ) (txs : List ℕ) : Type 0 where
  pub fits : RecordFits (mark_of l txs)
  pub size : length part + 1 ≡ mark_size (length txs)

-- a mark's transactions
pub record EntriesPart (part txs : List ℕ) : Type 0 where
  pub count : length txs ≤ open_limit
  pub size : length part ≡ (3 * length txs + 1) / 2

-- ---- what each part of the reading asks for: bytes whose first one has the kind that it is for

-- open, commit or abort
pub record ShortFront (xs : List ℕ) (k : Kind) : Type 0 where
  pub first : get_or xs 0 0 / 16 ≡ number_of k
  pub short : IsShort k

-- insert or replace
pub record TupleFront (xs : List ℕ) (k : Kind) : Type 0 where
  pub first : get_or xs 0 0 / 16 ≡ number_of k
  pub tuple : IsTuple k

-- a mark's transaction i stands in the log whose mark is at byte at
pub record MarkAt (log : List ℕ) (at i : ℕ) : Type 0 where
  pub few : i < open_limit
  pub inside : 8 * at + (48 + 12 * (i + 1)) ≤ 8 * length log

-- ---- whole logs

-- the place of the last mark of level l in a log with these records, if there is one
unfoldable pub last_mark : ℕ → Option (List LogRecord) → Place ℕ
last_mark l none = None
last_mark l (some rs) = elim (from_mark l rs) [ none ↦ None | some qs ↦ Some (end_of rs - end_of qs) ]
