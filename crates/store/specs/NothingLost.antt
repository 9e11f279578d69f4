-- No booking whose commit was answered is lost: about every program that logs its calls, each of which does what its contract says, about every cut, and
-- about every number of lives, each of which but the first starts with a roll-forward.
use Rattle.std.specs.Prelude.{ℕ, ◌≤◌, ◌≡◌, true, List, ◌++◌, ◌⊎◌, length, take, Ok, Err}
use Rattle.std.proofs.Math.Option.{none, some}
use Rattle.block_forms.specs.Tuple.{AllBytes}
use Rattle.block_forms.specs.Spell.{zeros}
use Rattle.image.specs.Stages.{holds}
use Rattle.model.specs.State.{Store}
use Rattle.model.specs.Checkpoint.{begin_call}
use Rattle.model.specs.Calls.{TransactionCall, transact, TypedCall, Call, transacts, begins}
use Rattle.model.specs.Recover.{memory_for, make}
use Rattle.log_records.specs.Records.{LogRecord, read_log, end_of}
use Rattle.log_model.specs.Repeats.{all_accepted}
use Rattle.log_model.specs.Logged.{record_of, mark_for, record_for, logged_call}
use Rattle.log_model.specs.RollForward.{Forward, roll_forward}
use Rattle.log_model.specs.Disk.{forward_stores, Cuts}
use Rattle.log_model.specs.History.{stores_of, completed, BringsBack}
use Rattle.memory_layout.specs.Store.{store_in}
use Rattle.call_contracts.specs.Shape.{Made}
use Rattle.call_contracts.specs.Logged.{Logs, Forwards}
use Rattle.call_contracts.specs.declared.Reply.TheVariants.{Done}
use Rattle.refusals.specs.declared.Refusal.TheVariants.{LogFull}
use Rattle.call_contracts.specs.declared.Logged.{Logged}
use Rattle.store.specs.CrashRecovery.{Executes}

-- ---- one call of a life

-- `Acts c img m log e img' m' log' e'`: the call c, with the image img, the memory m and the log, which ends at e, leaves these, as the contract of its
-- function says
pub data Acts : Call → List ℕ → List ℕ → List ℕ → ℕ → List ℕ → List ℕ → List ℕ → ℕ → Type 0 where
  -- logged_open, logged_insert (checked or not), logged_replace, logged_delete, logged_commit, logged_abort
  logging : {c : TransactionCall} {img m log m' log' : List ℕ} {e : ℕ} {x : LogRecord} (r : Logged) → record_of c ≡ some x → TypedCall c
      → Logs (transact c) (λ s. x) m log e r m' log' → Acts (transacts c) img m log e img m' log' r.end
  -- logged_begin
  marking : {img m log m' log' : List ℕ} {e : ℕ} (r : Logged) → Logs begin_call mark_for m log e r m' log' → Acts begins img m log e img m' log' r.end
  -- every call that has no record: read, list, crossing, step, run
  acting : {c : Call} {img m log img' m' : List ℕ} {e : ℕ} → ((s : Store) → record_for c s ≡ none) → Executes c img m img' m' → Acts c img m log e img' m' log e

-- ---- lives

-- alive: the memory and the log's end; off: power has failed
pub data Phase : Type 0 where
  alive : List ℕ → ℕ → Phase
  off : Phase

-- what image and log may be in a history that starts with an accepted make of the store s₀ and a zeroed log
pub data Lives (s₀ : Store) : List ℕ → List ℕ → Phase → Type 0 where
  starts : (img₀ m₀ : List ℕ) (n size : ℕ) {img m : List ℕ} → AllBytes img₀ → make (length img₀) (length m₀) n ≡ holds s₀ → Made n img₀ m₀ (Ok Done) img m
      → Lives s₀ img (zeros size) (alive m 0)
  -- a call, with image, memory, log and end as last left
  goes_on : {c : Call} {img m log img' m' log' : List ℕ} {e e' : ℕ} → Lives s₀ img log (alive m e) → Acts c img m log e img' m' log' e'
      → Lives s₀ img' log' (alive m' e')
  -- power fails before, after or inside any store of a call
  stops : {c : Call} {img m log img₁ m₁ log₁ img' log' : List ℕ} {e e₁ : ℕ} → Lives s₀ img log (alive m e) → Acts c img m log e img₁ m₁ log₁ e₁
      → {s : Store} → store_in m ≡ some s → Cuts img log (stores_of e (logged_call c s log e)) img' log' → Lives s₀ img' log' off
  -- a longer copy of the log is lent, zeroed behind the old bytes
  lengthens : {img log : List ℕ} {ph : Phase} → Lives s₀ img log ph → (n : ℕ) → Lives s₀ img (log ++ zeros n) ph
  -- an accepted roll-forward, in whatever memories
  restarts : {img log m log' : List ℕ} → Lives s₀ img log off → (m₀ : List ℕ) (n : ℕ) {r : Logged} → Forwards img m₀ n log r m log' → r.answer ≡ Ok Done
      → Lives s₀ img log' (alive m r.end)
  -- power fails before, after or inside any store of a roll-forward
  stops_again : {img log log' : List ℕ} → Lives s₀ img log off → (m n : ℕ) {f : Forward} → roll_forward m n img log ≡ holds f
      → Cuts img log (forward_stores (length log) (end_of f.whole) f.aborts) img log' → Lives s₀ img log' off

-- ---- the claim

-- a roll-forward answers r and leaves m: it meets 29, or m holds what the whole records committed
pub record BroughtBack (s₀ : Store) (records : List LogRecord) (r : Logged) (m : List ℕ) : Type 0 where
  pub result : (r.answer ≡ Err LogFull) ⊎ ((r.answer ≡ Ok Done) × ((t : Store) × (store_in m ≡ some t) × BringsBack t (completed records s₀)))

-- what is promised of an image and a log as power left them
pub record RestartPromise (s₀ : Store) (img log : List ℕ) : Type 0 where
  -- the whole records, as the log's bytes give them; each of their calls was accepted
  pub records : List LogRecord
  pub read : read_log log ≡ some records
  pub accepted : all_accepted records s₀ ≡ true
  pub restart : (m m' log' : List ℕ) (n : ℕ) (r : Logged) → memory_for s₀.capacity ≤ length m → memory_for s₀.capacity ≤ n
      → Forwards img m n log r m' log' → BroughtBack s₀ records r m'
  -- wherever power fails in a roll-forward, the whole records are then these and so many of its aborts
  pub cut : (m n : ℕ) (f : Forward) → roll_forward m n img log ≡ holds f → (log' : List ℕ)
      → Cuts img log (forward_stores (length log) (end_of f.whole) f.aborts) img log' → (k : ℕ) × (read_log log' ≡ some (records ++ take k f.aborts))

-- from any make, for all lives, all lists of calls in them and all cuts
abbrev pub NothingLost : Type 0
NothingLost = (s₀ : Store) (img log : List ℕ) → Lives s₀ img log off → RestartPromise s₀ img log

-- what is promised of image, log, memory and end in a life
pub record LifePromise (img log m : List ℕ) (e : ℕ) : Type 0 where
  -- the memory holds a store: 4 is never given
  pub store : Store
  pub has_store : store_in m ≡ some store
  -- the whole records, as the log's bytes give them; the log ends behind them
  pub records : List LogRecord
  pub read : read_log log ≡ some records
  pub end : e ≡ end_of records
  -- a call that was answered has its record whole
  pub answered : {c : Call} {img' m' log' : List ℕ} {e' : ℕ} → Acts c img m log e img' m' log' e'
      → read_log log' ≡ some (records ++ (logged_call c store log e).records)
  -- one that was cut has it whole or has none
  pub cut : {c : Call} {img₁ m₁ log₁ img' log' : List ℕ} {e₁ : ℕ} → Acts c img m log e img₁ m₁ log₁ e₁
      → Cuts img log (stores_of e (logged_call c store log e)) img' log'
      → (read_log log' ≡ some records) ⊎ (read_log log' ≡ some (records ++ (logged_call c store log e).records))

-- in every life the whole records are those of the calls accepted so far
abbrev pub AnsweredIsWhole : Type 0
AnsweredIsWhole = (s₀ : Store) (img log m : List ℕ) (e : ℕ) → Lives s₀ img log (alive m e) → LifePromise img log m e
