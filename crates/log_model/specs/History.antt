-- No booking whose commit was answered is lost: histories of lives, cut anywhere, in which every restart is a roll-forward.
use Rattle.std.specs.Prelude.{ℕ, ◌≤◌, ◌≡◌, true, List, [], ◌++◌, map, length, take, ◌⊎◌}
use Rattle.std.proofs.Math.Option.{some}
use Rattle.block_forms.specs.Tuple.{AllBytes}
use Rattle.block_forms.specs.Spell.{zeros}
use Rattle.image.specs.Stages.{refuses, holds}
use Rattle.model.specs.State.{Store}
use Rattle.model.specs.Sight.{rows}
use Rattle.model.specs.Calls.{Call, Typed}
use Rattle.model.specs.Recover.{memory_for, image_after, make, made_image}
use Rattle.log_records.specs.Records.{LogRecord, read_log, end_of}
use Rattle.log_model.specs.Repeats.{repeat_all, all_accepted}
use Rattle.log_model.specs.Logged.{LoggedOutcome, logged_call}
use Rattle.log_model.specs.RollForward.{Forward, aborts_of, roll_forward}
use Rattle.log_model.specs.Disk.{DiskStore, block_store, records_stores, forward_stores, Cuts}

-- ---- histories

-- the disk stores of a logged call: of the outcome o, from the log's end e on
unfoldable pub stores_of : ℕ → LoggedOutcome → List DiskStore
stores_of e o = map block_store o.outcome.writes ++ records_stores e o.records

-- running: the store in memory, the log's end, and the records of the calls accepted so far; stopped: power has failed
pub data Phase : Type 0 where
  running : Store → ℕ → List LogRecord → Phase
  stopped : Phase

-- what image and log may be in a history that starts with a make of the store s₀ and a zeroed log
pub data History (s₀ : Store) : List ℕ → List ℕ → Phase → Type 0 where
  made : (img : List ℕ) (m n size : ℕ) → AllBytes img → make (length img) m n ≡ holds s₀ → History s₀ (made_image img n) (zeros size) (running s₀ 0 [])
  -- a call, logged if it has a record, with image, memory, log and end as last left
  calls : {img log : List ℕ} {s : Store} {e : ℕ} {rs : List LogRecord} → History s₀ img log (running s e rs) → (c : Call) → Typed c
      → {o : LoggedOutcome} → logged_call c s log e ≡ o
      → History s₀ (image_after o.outcome.writes img) o.log (running o.outcome.store o.end (rs ++ o.records))
  -- power fails before, after or inside any store of a call
  fails : {img log : List ℕ} {s : Store} {e : ℕ} {rs : List LogRecord} → History s₀ img log (running s e rs) → (c : Call) → Typed c
      → {img' log' : List ℕ} → Cuts img log (stores_of e (logged_call c s log e)) img' log' → History s₀ img' log' stopped
  -- a longer copy of the log is lent, zeroed behind the old bytes
  lengthens : {img log : List ℕ} {ph : Phase} → History s₀ img log ph → (n : ℕ) → History s₀ img (log ++ zeros n) ph
  -- an accepted roll-forward starts the next life
  restarts : {img log : List ℕ} → History s₀ img log stopped → (m second : ℕ) {f : Forward} → roll_forward m second img log ≡ holds f
      → History s₀ img f.log (running f.store f.end (f.whole ++ f.aborts))
  -- power fails before, after or inside any store of a roll-forward
  fails_again : {img log : List ℕ} → History s₀ img log stopped → (m second : ℕ) {f : Forward} → roll_forward m second img log ≡ holds f
      → {log' : List ℕ} → Cuts img log (forward_stores (length log) (end_of f.whole) f.aborts) img log' → History s₀ img log' stopped

-- ---- the promise

-- the store after the calls of records, run by the rules from s₀, with what is left open aborted at the end
unfoldable pub completed : List LogRecord → Store → Store
completed rs s₀ = repeat_all (aborts_of (repeat_all rs s₀)) (repeat_all rs s₀)

-- r has the rows of t, each with its table and all its fields, and its next number; nobody is open
pub record BringsBack (r t : Store) : Type 0 where
  pub rows : rows r.pages ≡ rows t.pages
  pub next : r.next ≡ t.next
  pub nobody : r.active ≡ []

-- what a roll-forward of this image and log does, with memories long enough: it brings back what the whole records committed, or meets 29
pub record Restart (s₀ : Store) (img log : List ℕ) : Type 0 where
  -- the whole records, as the log's bytes give them
  pub records : List LogRecord
  pub read : read_log log ≡ some records
  -- each of their calls was accepted
  pub accepted : all_accepted records s₀ ≡ true
  pub forward : (m second : ℕ) → memory_for s₀.capacity ≤ m → memory_for s₀.capacity ≤ second
      → (roll_forward m second img log ≡ refuses 29) ⊎ ((f : Forward) × (roll_forward m second img log ≡ holds f) × BringsBack f.store (completed records s₀))

-- wherever power fails, in whatever life
abbrev pub NothingLost : Type 0
NothingLost = (s₀ : Store) (img log : List ℕ) → History s₀ img log stopped → Restart s₀ img log

-- in a life the whole records are those of the accepted calls: a call that was answered has its record whole
abbrev pub AnsweredIsWhole : Type 0
AnsweredIsWhole =
    (s₀ : Store) (img log : List ℕ) (s : Store) (e : ℕ) (rs : List LogRecord) → History s₀ img log (running s e rs) → (read_log log ≡ some rs) × (e ≡ end_of rs)

-- after a cut they are those, with the record of the call that was cut or without it
abbrev pub RecordsOfCut : Type 0
RecordsOfCut =
    (s₀ : Store) (img log : List ℕ) (s : Store) (e : ℕ) (rs : List LogRecord) → History s₀ img log (running s e rs) → (c : Call) → Typed c
    → (img' log' : List ℕ) → Cuts img log (stores_of e (logged_call c s log e)) img' log'
    → (read_log log' ≡ some rs) ⊎ (read_log log' ≡ some (rs ++ (logged_call c s log e).records))

-- after a cut of a roll-forward they are those that it found, and so many of its aborts
abbrev pub RecordsOfForwardCut : Type 0
RecordsOfForwardCut =
    (s₀ : Store) (img log : List ℕ) → History s₀ img log stopped → (m second : ℕ) (f : Forward) → roll_forward m second img log ≡ holds f
    → (log' : List ℕ) → Cuts img log (forward_stores (length log) (end_of f.whole) f.aborts) img log'
    → (read_log log ≡ some f.whole) × ((n : ℕ) × (read_log log' ≡ some (f.whole ++ take n f.aborts)))
