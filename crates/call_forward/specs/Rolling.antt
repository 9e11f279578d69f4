-- What each part of roll-forward needs and leaves.
use Rattle.std.specs.Prelude.{ℕ, ◌+◌, ◌*◌, ◌≤◌, ◌<◌, ◌≡◌, Bool, true, List, [], ◌∷◌, length, drop, Result, Ok, Err}
use Rattle.std.proofs.Math.Option.{Option, none, some}
use Rattle.basics.specs.Basics.{if'◌then◌else◌, AllOf}
use Rattle.basics.specs.Lists.{over}
use Rattle.block_forms.specs.Limits.{transaction_limit}
use Rattle.block_forms.specs.Decode.{read_entries}
use Rattle.image_rows.specs.Rows.{open_limit}
use Rattle.image.specs.Stages.{Stage, refuses, holds}
use Rattle.model.specs.State.{Store}
use Rattle.model.specs.Calls.{accepted}
use Rattle.log_records.specs.Records.{LogRecord, mark_of, read_log, encode_records}
use Rattle.log_records.specs.Entries.{change_is}
use Rattle.log_records.specs.declared.Entry.{Entry}
use Rattle.log_records.specs.declared.Entry.TheVariants.{End, Malformed, Call, Mark}
use Rattle.log_model.specs.Repeats.{repeat, repeat_all, all_accepted}
use Rattle.log_model.specs.RollForward.{Forward, aborts_of, zeroed_from}
use Rattle.memory_layout.specs.Flat.{flat_of}
use Rattle.memory_layout.specs.Store.{holds_store, store_of, HoldsNow}
use Rattle.refusals.specs.declared.Refusal.{Refusal}
use Rattle.refusals.specs.Numbers.{number}

-- the store in a memory that holds one
abbrev pub store_now : List ℕ → Store
store_now m = store_of (flat_of m)

-- ---- records repeated

-- the record of what stands in a log, with the payload bs; what is no call is passed over as a mark is
unfoldable pub entry_is : Entry → List ℕ → LogRecord
entry_is End bs = mark_of 0 []
entry_is Malformed bs = mark_of 0 []
entry_is (Call c) bs = change_is c bs
entry_is (Mark l n) bs = mark_of l []

-- the record r was repeated: whether it was accepted, and the store
pub record OneRepeated (r : LogRecord) (m : List ℕ) (ok : Bool) (m' : List ℕ) : Type 0 where
  pub answer : ok ≡ accepted (repeat r (store_now m)).answer
  pub memory : HoldsNow m m' (repeat r (store_now m)).store

-- the records qs were repeated: whether all were accepted, and then the store
pub record AllRepeated (qs : List LogRecord) (m : List ℕ) (ok : Bool) (m' : List ℕ) : Type 0 where
  pub answer : ok ≡ all_accepted qs (store_now m)
  pub memory : ok ≡ true → HoldsNow m m' (repeat_all qs (store_now m))

-- the records read, none where they are malformed
unfoldable pub records_in : Option (List LogRecord) → List LogRecord
records_in none = []
records_in (some rs) = rs

-- a memory that holds a store, and records from byte `at` of a log on
pub record MayRepeat (m log : List ℕ) (at : ℕ) : Type 0 where
  pub has_store : holds_store m ≡ true
  pub inside : at ≤ length log
  pub records : List LogRecord
  pub read : read_log (drop at log) ≡ some records

-- the transactions of a mark at byte `at` of a log, of which there are n
abbrev pub marked_by : List ℕ → ℕ → ℕ → List ℕ
marked_by log at n = read_entries (drop at log) 48 n

-- a memory that holds a store, and a mark with n transactions at byte `at` of a log
pub record MayOpen (m log : List ℕ) (at n : ℕ) : Type 0 where
  pub has_store : holds_store m ≡ true
  pub few : n ≤ open_limit
  pub inside : 8 * at + (48 + 12 * n) ≤ 8 * length log

-- a memory that holds a store, and a mark and records behind it at byte `at` of a log
pub record MayRepeatMarked (m log : List ℕ) (at : ℕ) : Type 0 where
  pub has_store : holds_store m ≡ true
  pub inside : at ≤ length log
  pub level : ℕ
  pub transactions : List ℕ
  pub records : List LogRecord
  pub read : read_log (drop at log) ≡ some (mark_of level transactions ∷ records)

-- what is to be repeated was repeated: 30 if there is no mark, 31 if a record was refused, else 0
unfoldable pub SinceBy : Option (List LogRecord) → List ℕ → ℕ → List ℕ → Type 0
SinceBy none m v m' = v ≡ 30
SinceBy (some qs) m v m' = (v ≡ (if' all_accepted qs (store_now m) then 0 else 31)) × (v ≡ 0 → HoldsNow m m' (repeat_all qs (store_now m)))

-- ---- aborts

-- numbers of transactions, whose aborts have room in the log from byte e on
pub record AbortsFit (log : List ℕ) (e : ℕ) (txs : List ℕ) : Type 0 where
  pub low : AllOf (λ tx. tx < transaction_limit) txs
  pub room : e + 2 * length txs ≤ length log

-- a memory that holds a store, the aborts of whose n open transactions have room in the log from byte e on
pub record MayAbort (m log : List ℕ) (e n : ℕ) : Type 0 where
  pub has_store : holds_store m ≡ true
  pub count : n ≡ length (flat_of m).opens
  pub room : e + 2 * n ≤ length log

-- what is open was aborted, and the aborts stand in the log from byte e on, with zeros behind them
pub record Aborted (m log : List ℕ) (e : ℕ) (m' log' : List ℕ) : Type 0 where
  pub memory : HoldsNow m m' (repeat_all (aborts_of (store_now m)) (store_now m))
  pub bytes : log' ≡ over (zeroed_from e log) e (encode_records (aborts_of (store_now m)))

-- ---- all of it

-- refused: the log as found; else the memory holds the store, and log and end are those of the definition
unfoldable pub RestoredBy : Stage Forward → List ℕ → List ℕ → Result ℕ Refusal → List ℕ → List ℕ → Type 0
RestoredBy (refuses k) m log (Ok end) m' log' = ⊥
RestoredBy (refuses k) m log (Err e) m' log' = (number e ≡ k) × (log' ≡ log)
RestoredBy (holds f) m log (Ok end) m' log' = (end ≡ f.end) × HoldsNow m m' f.store × (log' ≡ f.log)
RestoredBy (holds f) m log (Err e) m' log' = ⊥
