-- A call that does what its contract says follows the rules: in memory and image.
use Rattle.block_forms.specs.Limits.{block_size}
use Rattle.basics.proofs.Kit.{◌≡◌, refl, sym, ap, ◌∙◌, subst, false, some, none, Option, List, [], ◌∷◌, ℕ, ◌+◌, ◌*◌, eqb, ltb, length, arith}
use Rattle.basics.specs.Basics.{if'◌then◌else◌}
use Rattle.basics.specs.Lists.{over}
use Rattle.basics.proofs.Facts.{by, lie}
use Rattle.model.specs.State.{Store, Write, Answer, refused, done, count, filled, Outcome}
use Rattle.model.specs.Calls.{reads, lists, crossings, effect, Call, transacts, begins, steps, runs, call, accepted, is_step, Typed, AllTyped}
use Rattle.model.specs.Transactions.{gives, unless}
use Rattle.model.specs.Checkpoint.{bad_image, step_call, run_call}
use Rattle.model.specs.Recover.{image_after}
use Rattle.basics.proofs.Elements.{eqb-true}
use Rattle.model.proofs.NoStores.{call_leaves}
use Rattle.model.proofs.Laws.{refused_keeps, reads_only}
use Rattle.memory_layout.specs.Store.{store_in}
use Rattle.log_records.specs.Records.{LogRecord, log_size, encode_record}
use Rattle.log_model.specs.Logged.{LoggedOutcome, unlogged, appending, logging, mark_for}
use Rattle.std.specs.Prelude.{Ok, Err}
use Rattle.refusals.specs.declared.Refusal.{Refusal}
use Rattle.refusals.specs.declared.Refusal.TheVariants.{LogFull}
use Rattle.refusals.specs.Numbers.{number}
use Rattle.refusals.proofs.Numbers.{only_log_full}
use Rattle.call_contracts.specs.Shape.{Answer as Answered, meaning, bytes_of, MemoryAfter, Afterwards, Answers, AnswersAt, StoredBy, Stores, StoresAt}
use Rattle.call_contracts.specs.Logged.{LoggedAfter, LogsAt, Logs}
use Rattle.call_contracts.specs.declared.Reply.TheVariants.{Done, Count, Filled}
use Rattle.call_contracts.specs.declared.Logged.{Logged}
use Rattle.model.specs.State as model
use Rattle.store.specs.CrashRecovery.{Executes, transacting, reading, crossing, listing, beginning, logging as logged, marking, stepping, running, stepping_elsewhere}
use Rattle.store.specs.CrashRecovery.{running_elsewhere, ExecutesAll, ends, full, next}

-- the memory after a call: the store of its outcome, also when it is refused
pub leaves : (a : Answer) (t s : Store) (m m' : List ℕ) → MemoryAfter a t m m' → store_in m ≡ some s → (accepted a ≡ false → t ≡ s) → store_in m' ≡ some t
unfolding accepted
leaves (refused n) t s m m' l e h = ap store_in l ∙ e ∙ ap some (sym (h refl))
leaves done t s m m' l e h = l.store
leaves (count n) t s m m' l e h = l.store
leaves (filled n bs) t s m m' l e h = l.store

-- ---- answers

-- what an answer that means this is
abbrev pub code_of : model.Answer → ℕ × ℕ
code_of (model.refused n) = (0, n)
code_of model.done = (1, 0)
code_of (model.count n) = (2, n)
code_of (model.filled n bs) = (3, n)

pub means_done : (a : Answered) → meaning a [] ≡ model.done → a ≡ Ok Done
means_done (Ok Done) e = refl
means_done (Ok (Count n)) e = absurd (differ (ap (λ x. (code_of x).0) e))
  where
    differ : ◌≡◌ {A = ℕ} 2 1 → ⊥
    differ k = omega (arith, k)
means_done (Ok (Filled n)) e = absurd (differ (ap (λ x. (code_of x).0) e))
  where
    differ : ◌≡◌ {A = ℕ} 3 1 → ⊥
    differ k = omega (arith, k)
means_done (Err r) e = absurd (differ (ap (λ x. (code_of x).0) e))
  where
    differ : ◌≡◌ {A = ℕ} 0 1 → ⊥
    differ k = omega (arith, k)

-- an answer that means the refusal n is that refusal
pub means_refused : (a : Answered) (n : ℕ) → meaning a [] ≡ model.refused n → (r : Refusal) × (a ≡ Err r) × (number r ≡ n)
means_refused (Ok Done) n e = absurd (differ (ap (λ x. (code_of x).0) e))
  where
    differ : ◌≡◌ {A = ℕ} 1 0 → ⊥
    differ k = omega (arith, k)
means_refused (Ok (Count m)) n e = absurd (differ (ap (λ x. (code_of x).0) e))
  where
    differ : ◌≡◌ {A = ℕ} 2 0 → ⊥
    differ k = omega (arith, k)
means_refused (Ok (Filled m)) n e = absurd (differ (ap (λ x. (code_of x).0) e))
  where
    differ : ◌≡◌ {A = ℕ} 3 0 → ⊥
    differ k = omega (arith, k)
means_refused (Err r) n e = (r, refl, ap (λ x. (code_of x).1) e)

pub means_full : (a : Answered) → meaning a [] ≡ model.refused 29 → a ≡ Err LogFull
means_full a e = let q = means_refused a 29 e in q.1 ∙ ap Err (only_log_full q.0 q.2)

-- ---- logged calls

-- a refused logged call leaves the store, and none stores a block
module _ (x : LogRecord) (o : Outcome) (s : Store) (log : List ℕ) (e : ℕ) (keeps : accepted o.answer ≡ false → o.store ≡ s) (none-stored : o.writes ≡ []) where
  abbrev L : LoggedOutcome
  L = logging x o s log e

  pub logged_keeps : accepted L.outcome.answer ≡ false → L.outcome.store ≡ s
  unfolding logging appending unlogged gives if'◌then◌else◌
  logged_keeps h =
      by (accepted o.answer)
      (λ a. by (ltb (length log) (e + log_size x)) (λ k. rw (a, k)) (λ k. lie (sym (rw (a, k) at h) ∙ a)))
      (λ a. rw a (keeps a))

  pub logged_stores : L.outcome.writes ≡ []
  unfolding logging appending unlogged gives if'◌then◌else◌
  logged_stores = by (accepted o.answer) (λ a. by (ltb (length log) (e + log_size x)) (λ k. rw (a, k)) (λ k. rw (a, k) none-stored)) (λ a. rw a none-stored)

  -- not refused for want of room, it has done what the plain call does
  pub logged_is : (m m' log' : List ℕ) (r : Logged) → LoggedAfter L m r m' log' → (r.answer ≡ Err LogFull → ⊥) → Afterwards o m r.answer m'
  unfolding logging appending unlogged gives if'◌then◌else◌
  logged_is m m' log' r l n = go (logging x o s log e) refl l
    where
      go : (q : LoggedOutcome) → logging x o s log e ≡ q → LoggedAfter q m r m' log' → Afterwards o m r.answer m'
      go q h l =
          by (accepted o.answer)
          (λ a. by (ltb (length log) (e + log_size x))
          (λ k. let z : LoggedOutcome = unlogged (gives (model.refused 29) s) log e in
          let y : LoggedAfter z m r m' log' = subst (λ w. LoggedAfter w m r m' log') (sym h ∙ (rw (a, k))) l in
          absurd (n (means_full r.answer y.answer)))
          (λ k. let z : LoggedOutcome = record { outcome = o; records = x ∷ []; log = over log e (encode_record x); end = e + log_size x } in
          let y : LoggedAfter z m r m' log' = subst (λ w. LoggedAfter w m r m' log') (sym h ∙ (rw (a, k))) l in
          record { answer = y.answer; memory = y.memory }))
          (λ a. let z : LoggedOutcome = unlogged o log e in
          let y : LoggedAfter z m r m' log' = subst (λ w. LoggedAfter w m r m' log') (sym h ∙ (rw a)) l in
          record { answer = y.answer; memory = y.memory })

-- refused for want of room, it leaves the memory
pub full_leaves : (f : Store → Outcome) (x : Store → LogRecord) (m m₁ log log' : List ℕ) (e : ℕ) (r : Logged) → Logs f x m log e r m₁ log' → r.answer ≡ Err LogFull → m₁ ≡ m
unfolding Logs LogsAt
full_leaves f x m m₁ log log' e r l h = go (store_in m) l
  where
    left : (o : LoggedOutcome) (a : model.Answer) → o.outcome.answer ≡ a → a ≡ model.refused 29 → LoggedAfter o m r m₁ log' → m₁ ≡ m
    left o a k z y = subst (λ w. MemoryAfter w o.outcome.store m m₁) (k ∙ z) y.memory

    go : (o : Option Store) → LogsAt o (λ s. logging (x s) (f s) s log e) m log e r m₁ log' → m₁ ≡ m
    go none y = y.2
    go (some s) y =
        let o = logging (x s) (f s) s log e in
        left o o.outcome.answer refl (sym y.answer ∙ ap (λ w. meaning w (bytes_of o.outcome.answer)) h) y

-- ---- every call

module _ (c : Call) (s : Store) (m : List ℕ) (e : store_in m ≡ some s) where
  answered : (r : Answered) (m' : List ℕ) → Answers (call c) m r m' → store_in m' ≡ some (call c s).store
  unfolding Answers AnswersAt
  answered r m' a =
      let o : Outcome = call c s in
      let k : Afterwards o m r m' = rw e at a in leaves o.answer o.store s m m' k.memory e (λ h. (refused_keeps c s h).0)

  -- with its record, if there was room
  answered_logged : (x : Store → LogRecord) (log log' : List ℕ) (n : ℕ) (r : Logged) (m' : List ℕ) → is_step c ≡ false → Logs (call c) x m log n r m' log'
      → (r.answer ≡ Err LogFull → ⊥) → store_in m' ≡ some (call c s).store
  unfolding Logs LogsAt
  answered_logged x log log' n r m' i a h =
      let o : Outcome = call c s in
      let l : LoggedAfter (logging (x s) o s log n) m r m' log' = rw e at a in
      let k = logged_is (x s) o s log n (λ q. (refused_keeps c s q).0) ((call_leaves c s).image i) m m' log' r l h in
      leaves o.answer o.store s m m' k.memory e (λ q. (refused_keeps c s q).0)

  stored : (img : List ℕ) (r : Answered) (img' m' : List ℕ) → Stores (call c) img m r img' m' → (store_in m' ≡ some (call c s).store) × (img' ≡ image_after (call c s).writes img)
  unfolding Stores StoresAt
  stored img r img' m' a =
      let o : Outcome = call c s in
      let k : StoredBy o img m r img' m' = rw e at a in (leaves o.answer o.store s m m' k.memory e (λ h. (refused_keeps c s h).0), k.image)

-- no block store, no change of the image
pub still : (ws : List Write) (img : List ℕ) → ws ≡ [] → img ≡ image_after ws img
unfolding image_after
still ws img e = rw e refl

-- lent something else, a step is refused
module _ (len : ℕ) (img : List ℕ) (s : Store) (e : length img ≡ block_size * s.blocks) (h : len ≡ length img → ⊥) where
  other : eqb len (block_size * s.blocks) ≡ false
  other = by (eqb len (block_size * s.blocks)) (λ q. absurd (h (eqb-true len (block_size * s.blocks) q ∙ sym e))) (λ q. q)

  bad_step : (call (steps len) s).writes ≡ []
  unfolding call step_call bad_image unless if'◌then◌else◌ gives
  bad_step = rw other refl

  bad_run : (limit : ℕ) → (call (runs limit len) s).writes ≡ []
  unfolding call run_call bad_image unless if'◌then◌else◌ gives
  bad_run limit = rw other refl

module _ (s : Store) (img m : List ℕ) (e : store_in m ≡ some s) where
  -- a call that stores no block
  without_stores : (c : Call) (m' : List ℕ) → is_step c ≡ false → store_in m' ≡ some (call c s).store
      → (store_in m' ≡ some (call c s).store) × (img ≡ image_after (call c s).writes img)
  without_stores c m' h k = (k, still (call c s).writes img ((call_leaves c s).image h))

  pub does : (c : Call) (img' m' : List ℕ) → length img ≡ block_size * s.blocks → Executes c img m img' m'
      → (store_in m' ≡ some (call c s).store) × (img' ≡ image_after (call c s).writes img)
  unfolding call is_step effect
  does c img' m' l (transacting {c = d} r h ty a) = without_stores (transacts d) m' refl (answered (transacts d) s m e r m' a)
  does c img' m' l (reading {tx = tx} {t = t} {k = k} p p' r a) =
      let d = reads tx t k (length p) in without_stores (transacts d) m refl (e ∙ ap some (sym (reads_only d s refl).0))
  does c img' m' l (crossing {tx = tx} {t = t} {first = first} {end = end} p p' r a) =
      let d = crossings tx t first end (length p) in without_stores (transacts d) m refl (e ∙ ap some (sym (reads_only d s refl).0))
  does c img' m' l (listing p p' r a) = let d = lists (length p) in without_stores (transacts d) m refl (e ∙ ap some (sym (reads_only d s refl).0))
  does c img' m' l (beginning r a) = without_stores begins m' refl (answered begins s m e r m' a)
  does c img' m' l (logged {c = d} {x = x} g g' n r h ty a q) = without_stores (transacts d) m' refl (answered_logged (transacts d) s m e (λ s. x) g g' n r m' refl a q)
  does c img' m' l (marking g g' n r a q) = without_stores begins m' refl (answered_logged begins s m e mark_for g g' n r m' refl a q)
  does c img' m' l (stepping r a) = stored (steps (length img)) s m e img r img' m' a
  does c img' m' l (running {limit = limit} r a) = stored (runs limit (length img)) s m e img r img' m' a
  does c img' m' l (stepping_elsewhere p p' r h a) = ((stored (steps (length p)) s m e p r p' m' a).0, still _ img (bad_step (length p) img s l h))
  does c img' m' l (running_elsewhere {limit = limit} p p' r h a) =
      ((stored (runs limit (length p)) s m e p r p' m' a).0, still _ img (bad_run (length p) img s l h limit))

-- the arguments are numbers and bytes of their types
pub typed : {c : Call} {img m img' m' : List ℕ} → Executes c img m img' m' → Typed c
typed (transacting r h ty a) = ty
typed (reading p p' r a) = tt
typed (crossing p p' r a) = tt
typed (listing p p' r a) = tt
typed (beginning r a) = tt
typed (logged g g' n r h ty a q) = ty
typed (marking g g' n r a q) = tt
typed (stepping r a) = tt
typed (running r a) = tt
typed (stepping_elsewhere p p' r h a) = tt
typed (running_elsewhere p p' r h a) = tt

pub all_typed : {cs : List Call} {img m img' m' : List ℕ} → ExecutesAll cs img m img' m' → AllTyped cs
all_typed ends = tt
all_typed (full f x log log' e r l h rs) = all_typed rs
all_typed (next d rs) = (typed d, all_typed rs)
