-- Crash recovery (document 01: the quoted line), whole: about every program that makes the calls, each of which does what its contract says, and about every cut.
use Rattle.std.specs.Prelude.{ℕ, ◌≤◌, ◌≡◌, List, [], ◌∷◌, map, length, Ok, Err}
use Rattle.std.proofs.Math.Option.{some}
use Rattle.block_forms.specs.Tuple.{AllBytes}
use Rattle.image.specs.Stages.{holds}
use Rattle.model.specs.State.{Store, Outcome}
use Rattle.model.specs.Transactions.{read_call, list_call}
use Rattle.model.specs.Crossing.{crossing_call}
use Rattle.model.specs.Checkpoint.{begin_call, step_call, run_call}
use Rattle.model.specs.Calls.{TransactionCall, reads, lists, crossings, transact, no_effect, effect, TypedCall, Call, transacts, begins, steps, runs, after_calls}
use Rattle.model.specs.Recover.{memory_for, image_after, make, recover}
use Rattle.model.specs.CrashRecovery.{log, Cut, Same}
use Rattle.log_records.specs.Records.{LogRecord}
use Rattle.log_model.specs.Logged.{record_of, mark_for}
use Rattle.memory_layout.specs.Store.{store_in}
use Rattle.call_contracts.specs.Shape.{Answer, Answers, Replies, Stores, Made, Recovered}
use Rattle.call_contracts.specs.Logged.{Logs}
use Rattle.call_contracts.specs.declared.Reply.TheVariants.{Done}
use Rattle.refusals.specs.declared.Refusal.TheVariants.{LogFull}
use Rattle.call_contracts.specs.declared.Logged.{Logged}

-- ---- where a run starts

-- the image img and the memory m after an accepted make or recovery; s: the store that the rules start with
pub data Started : List ℕ → List ℕ → Store → Type 0 where
  made : (img₀ m₀ : List ℕ) (n : ℕ) {img m : List ℕ} {s : Store} → make (length img₀) (length m₀) n ≡ holds s → Made n img₀ m₀ (Ok Done) img m → Started img m s
  recovered : (m₀ : List ℕ) {img m : List ℕ} {s : Store} → recover (length m₀) img ≡ holds s → Recovered img m₀ (Ok Done) m → Started img m s

-- every accepted make and every accepted recovery is such a start
pub record Starts : Type 0 where
  pub make : (img₀ m₀ : List ℕ) (n : ℕ) (img m : List ℕ) → Made n img₀ m₀ (Ok Done) img m → (s : Store) × Started img m s
  pub recovery : (img m₀ m : List ℕ) → Recovered img m₀ (Ok Done) m → (s : Store) × Started img m s

-- ---- one call

-- `Executes c img m img' m'`: the call c, with the image img and the memory m, leaves img' and m', as the contract of its function says
pub data Executes : Call → List ℕ → List ℕ → List ℕ → List ℕ → Type 0 where
  -- open, insert (checked or not), replace, delete, commit, abort: all calls of transactions but those that only answer
  transacting : {c : TransactionCall} {img m m' : List ℕ} (r : Answer) → (effect c ≡ no_effect → ⊥) → TypedCall c → Answers (transact c) m r m'
      → Executes (transacts c) img m img m'
  reading : {tx t k : ℕ} {img m : List ℕ} (p p' : List ℕ) (r : Answer) → Replies (read_call tx t k (length p)) m r p p'
      → Executes (transacts (reads tx t k (length p))) img m img m
  crossing : {tx t first end : ℕ} {img m : List ℕ} (p p' : List ℕ) (r : Answer) → Replies (crossing_call tx t first end (length p)) m r p p'
      → Executes (transacts (crossings tx t first end (length p))) img m img m
  listing : {img m : List ℕ} (p p' : List ℕ) (r : Answer) → Replies (list_call (length p)) m r p p' → Executes (transacts (lists (length p))) img m img m
  beginning : {img m m' : List ℕ} (r : Answer) → Answers begin_call m r m' → Executes begins img m img m'
  stepping : {img m img' m' : List ℕ} (r : Answer) → Stores (step_call (length img)) img m r img' m' → Executes (steps (length img)) img m img' m'
  running : {limit : ℕ} {img m img' m' : List ℕ} (r : Answer) → Stores (run_call limit (length img)) img m r img' m' → Executes (runs limit (length img)) img m img' m'
  -- the same calls, logged, and a logged begin: what their log is does not matter, as long as they are not refused for it
  logging : {c : TransactionCall} {img m m' : List ℕ} {x : LogRecord} (redo redo' : List ℕ) (e : ℕ) (r : Logged) → record_of c ≡ some x → TypedCall c
      → Logs (transact c) (λ s. x) m redo e r m' redo' → (r.answer ≡ Err LogFull → ⊥) → Executes (transacts c) img m img m'
  marking : {img m m' : List ℕ} (redo redo' : List ℕ) (e : ℕ) (r : Logged) → Logs begin_call mark_for m redo e r m' redo' → (r.answer ≡ Err LogFull → ⊥)
      → Executes begins img m img m'
  -- a step or run that is lent something of another length than the image
  stepping_elsewhere : {img m m' : List ℕ} (p p' : List ℕ) (r : Answer) → (length p ≡ length img → ⊥) → Stores (step_call (length p)) p m r p' m'
      → Executes (steps (length p)) img m img m'
  running_elsewhere : {limit : ℕ} {img m m' : List ℕ} (p p' : List ℕ) (r : Answer) → (length p ≡ length img → ⊥) → Stores (run_call limit (length p)) p m r p' m'
      → Executes (runs limit (length p)) img m img m'

-- a list of calls, each with image and memory as the last one left them
pub data ExecutesAll : List Call → List ℕ → List ℕ → List ℕ → List ℕ → Type 0 where
  ends : {img m : List ℕ} → ExecutesAll [] img m img m
  -- a logged call, whatever call it is, for whose record there is no room changes nothing: it counts for no call
  full : {cs : List Call} {img m m₁ img' m' : List ℕ} (f : Store → Outcome) (x : Store → LogRecord) (redo redo' : List ℕ) (e : ℕ) (r : Logged)
      → Logs f x m redo e r m₁ redo' → r.answer ≡ Err LogFull → ExecutesAll cs img m₁ img' m' → ExecutesAll cs img m img' m'
  next : {c : Call} {cs : List Call} {img m img₁ m₁ img' m' : List ℕ} → Executes c img m img₁ m₁ → ExecutesAll cs img₁ m₁ img' m' → ExecutesAll (c ∷ cs) img m img' m'

-- ---- the claim

-- recovery is accepted, and the memory then holds what the rules' own run of the calls base from s had
pub record Restored (s : Store) (base : List Call) (r : Answer) (m : List ℕ) : Type 0 where
  pub accepted : r ≡ Ok Done
  pub store : Store
  pub has_store : store_in m ≡ some store
  pub same : Same store s base

-- what is promised of a list of calls from img and m, where s is the store at the start, to img' and m'
pub record RunPromise (img m : List ℕ) (s : Store) (calls : List Call) (img' m' : List ℕ) : Type 0 where
  -- the memory holds the store of the rules' own run: 4 is never given
  pub memory : store_in m' ≡ some (after_calls calls s)
  -- the image is the first one with the block stores of the rules' own run, made one after another
  pub image : img' ≡ image_after (map (λ w. w.write) (log [] [] s calls)) img
  -- wherever power fails in these stores: recovering what is left, with memory enough, restores what the run had just before the
  -- checkpoint whose header landed last began
  pub restart : (cut : List ℕ) (base : List Call) → Cut img [] (log [] [] s calls) cut base
      → (m₀ m₁ : List ℕ) (r : Answer) → memory_for s.capacity ≤ length m₀ → Recovered cut m₀ r m₁ → Restored s base r m₁

-- from any start, for every list of calls and every cut
abbrev pub CrashRecovery : Type 0
CrashRecovery =
    (img m : List ℕ) → AllBytes img → (s : Store) → Started img m s → (calls : List Call) (img' m' : List ℕ) → ExecutesAll calls img m img' m'
    → RunPromise img m s calls img' m'
