-- The shape of the contracts of logged calls and of roll-forward: what they answer and leave in memory and log.
use Rattle.std.specs.Prelude.{◌≡◌, List, [], ℕ, length}
use Rattle.std.proofs.Math.Option.{Option, none, some}
use Rattle.image.specs.Stages.{Stage, refuses, holds}
use Rattle.model.specs.State.{Store, Outcome}
use Rattle.log_records.specs.Records.{LogRecord}
use Rattle.log_model.specs.Logged.{LoggedOutcome, logging}
use Rattle.log_model.specs.RollForward.{Forward, roll_forward}
use Rattle.memory_layout.specs.Store.{store_in, HoldsNow}
use Rattle.call_contracts.specs.Shape.{meaning, bytes_of, MemoryAfter}
use Rattle.call_contracts.specs.declared.Logged.{Logged}
use Rattle.model.specs.State as model

-- ---- logged calls

-- answer, memory, log and end are the outcome's
pub record LoggedAfter (o : LoggedOutcome) (m : List ℕ) (r : Logged) (m' log' : List ℕ) : Type 0 where
  pub answer : meaning r.answer (bytes_of o.outcome.answer) ≡ o.outcome.answer
  pub memory : MemoryAfter o.outcome.answer o.outcome.store m m'
  pub log : log' ≡ o.log
  pub end : r.end ≡ o.end

-- without a store: 4, and all as found
unfoldable pub LogsAt : Option Store → (Store → LoggedOutcome) → List ℕ → List ℕ → ℕ → Logged → List ℕ → List ℕ → Type 0
LogsAt none f m log e r m' log' = (meaning r.answer [] ≡ model.refused 4) × (r.end ≡ e) × (m' ≡ m) × (log' ≡ log)
LogsAt (some s) f m log e r m' log' = LoggedAfter (f s) m r m' log'

-- the call with this record, on the memory m and the log, which ends at e, answers r and leaves m' and log'
unfoldable pub Logs : (Store → Outcome) → (Store → LogRecord) → List ℕ → List ℕ → ℕ → Logged → List ℕ → List ℕ → Type 0
Logs call record' m log e r m' log' = LogsAt (store_in m) (λ s. logging (record' s) (call s) s log e) m log e r m' log'

-- ---- roll-forward

-- refused: memory and log as found, and 0 for the end; else the memory holds the store, and log and end are those of the definition
unfoldable pub ForwardsBy : Stage Forward → List ℕ → List ℕ → Logged → List ℕ → List ℕ → Type 0
ForwardsBy (refuses k) m log r m' log' = (meaning r.answer [] ≡ model.refused k) × (r.end ≡ 0) × (m' ≡ m) × (log' ≡ log)
ForwardsBy (holds f) m log r m' log' = (meaning r.answer [] ≡ model.done) × (r.end ≡ f.end) × HoldsNow m m' f.store × (log' ≡ f.log)

-- image and log are rolled forward into the memory m, with a second memory of n bytes
abbrev pub Forwards : List ℕ → List ℕ → ℕ → List ℕ → Logged → List ℕ → List ℕ → Type 0
Forwards img m n log r m' log' = ForwardsBy (roll_forward (length m) n img log) m log r m' log'
