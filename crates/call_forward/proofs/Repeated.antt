-- Records repeated on the store in a memory: one by its call, and one after another (`left_start`, `left_next`, `left_stop`, `left_end`).
use Rattle.basics.proofs.Kit.{◌≡◌, refl, sym, ap, ◌∙◌, subst, Bool, true, false, ◌&&◌, some, List, [], ◌∷◌, ℕ, length}
use Rattle.basics.proofs.Facts.{lie}
use Rattle.model.specs.State.{Store, Outcome}
use Rattle.model.specs.Transactions.{gives}
use Rattle.model.specs.Calls.{TransactionCall, transact, transacts, call, accepted}
use Rattle.model.proofs.Laws.{refused_keeps}
use Rattle.log_records.specs.Records.{LogRecord, mark_of}
use Rattle.log_model.specs.Repeats.{call_of, call_if, repeat, repeat_all, all_accepted}
use Rattle.memory_layout.specs.Store.{holds_store, store_in, HoldsNow}
use Rattle.memory_layout.proofs.Laws.{in_some, in_sound}
use Rattle.call_contracts.specs.Shape.{Answer, MemoryAfter, Afterwards, Answers, AnswersAt}
use Rattle.std.specs.Result.{is_ok}
use Rattle.call_contracts.proofs.Answering.{accepted_means, accepted_ok}
use Rattle.call_forward.specs.Rolling.{store_now, OneRepeated, AllRepeated}
use Rattle.model.specs.State as model

-- ---- one record

-- a memory that holds a store is left holding the outcome's, also by a call that is refused
holds_after : (a : model.Answer) (z : Store) (m m' : List ℕ) → holds_store m ≡ true → (accepted a ≡ false → z ≡ store_now m) → MemoryAfter a z m m' → HoldsNow m m' z
unfolding accepted
holds_after (model.refused n) z m m' h k e = record { size = ap length e; store = ap store_in e ∙ in_some m h ∙ ap some (sym (k refl)) }
holds_after model.done z m m' h k e = e
holds_after (model.count n) z m m' h k e = e
holds_after (model.filled n bs) z m m' h k e = e

-- the call f, which is c, was made: c is what the record q says
module _ (q : LogRecord) (c : TransactionCall) (e : call_of q ≡ some c) (f : Store → Outcome) (g : (z : Store) → f z ≡ transact c z) (m : List ℕ) (h : holds_store m ≡ true) where
  is_repeat : f (store_now m) ≡ repeat q (store_now m)
  unfolding repeat call_if
  is_repeat = g (store_now m) ∙ sym (ap (λ o. call_if o (store_now m)) e)

  keeps : accepted (repeat q (store_now m)).answer ≡ false → (repeat q (store_now m)).store ≡ store_now m
  unfolding repeat call_if call
  keeps a =
      let k = ap (λ o. call_if o (store_now m)) e in
      ap (λ (o : Outcome). o.store) k ∙ (refused_keeps (transacts c) (store_now m) (ap (λ (o : Outcome). accepted o.answer) (sym k) ∙ a)).0

  after_repeat : (r : Answer) (m' : List ℕ) → Answers f m r m' → Afterwards (repeat q (store_now m)) m r m'
  unfolding Answers AnswersAt
  after_repeat r m' a =
      subst (λ o. Afterwards o m r m') is_repeat (subst (λ o. AnswersAt o f m r m') (in_some m h) a)

  pub one_repeated : (r : Answer) {m' : List ℕ} → Answers f m r m' → OneRepeated q m (is_ok r) m'
  one_repeated r {m'} a =
      let o = repeat q (store_now m) in
      let b = after_repeat r m' a in
      record {
        answer = sym (accepted_ok r) ∙ accepted_means r _ _ b.answer;
        memory = holds_after o.answer o.store m m' h keeps b.memory;
      }

-- a mark is passed over
pub mark_repeated : (l : ℕ) (txs : List ℕ) (m : List ℕ) → holds_store m ≡ true → OneRepeated (mark_of l txs) m true m
unfolding repeat call_of call_if gives accepted
mark_repeated l txs m h = record { answer = refl; memory = record { size = refl; store = in_some m h } }

-- ---- one after another

-- the store in m and the records qs that are left give the store that those of all qs₀ give on the one in m₀
pub record Stored (m₀ : List ℕ) (qs₀ : List LogRecord) (m : List ℕ) (qs : List LogRecord) : Type 0 where
  pub size : length m ≡ length m₀
  pub has_store : holds_store m ≡ true
  pub store : repeat_all qs (store_now m) ≡ repeat_all qs₀ (store_now m₀)

pub stored_start : (m : List ℕ) (qs : List LogRecord) → holds_store m ≡ true → Stored m qs m qs
stored_start m qs h = record { size = refl; has_store = h; store = refl }

-- the store in a memory left by a repeated record
pub now_is : (m m' : List ℕ) (z : Store) → HoldsNow m m' z → (holds_store m' ≡ true) × (store_now m' ≡ z)
now_is m m' z h = let s = in_sound m' z h.store in (s.has_store, s.means)

module _ {m₀ : List ℕ} {qs₀ : List LogRecord} {m : List ℕ} {r : LogRecord} {qs : List LogRecord} where
  pub stored_next : Stored m₀ qs₀ m (r ∷ qs) → {ok : Bool} {m' : List ℕ} → OneRepeated r m ok m' → Stored m₀ qs₀ m' qs
  unfolding repeat_all
  stored_next s {ok} {m'} o =
      let k = now_is m m' _ o.memory in
      record { size = o.memory.size ∙ s.size; has_store = k.0; store = ap (repeat_all qs) k.1 ∙ s.store }

pub stored_end : {m₀ : List ℕ} {qs₀ : List LogRecord} {m : List ℕ} → Stored m₀ qs₀ m [] → HoldsNow m₀ m (repeat_all qs₀ (store_now m₀))
unfolding repeat_all
stored_end {m₀} {qs₀} {m} s = record { size = s.size; store = in_some m s.has_store ∙ ap some s.store }

-- the same, and those repeated so far were accepted
pub record Left (m₀ : List ℕ) (qs₀ : List LogRecord) (m : List ℕ) (qs : List LogRecord) : Type 0 where
  pub stored : Stored m₀ qs₀ m qs
  pub answer : all_accepted qs (store_now m) ≡ all_accepted qs₀ (store_now m₀)

pub left_start : (m : List ℕ) (qs : List LogRecord) → holds_store m ≡ true → Left m qs m qs
left_start m qs h = record { stored = stored_start m qs h; answer = refl }

module _ {m₀ : List ℕ} {qs₀ : List LogRecord} {m : List ℕ} {r : LogRecord} {qs : List LogRecord} (l : Left m₀ qs₀ m (r ∷ qs)) where
  first_answer : {ok : Bool} {m' : List ℕ} → OneRepeated r m ok m' → (ok && all_accepted qs (store_now m')) ≡ all_accepted qs₀ (store_now m₀)
  unfolding all_accepted
  first_answer {ok} {m'} o =
      let k = now_is m m' _ o.memory in
      ap (λ b. b && all_accepted qs (store_now m')) o.answer ∙ ap (λ z. accepted (repeat r (store_now m)).answer && all_accepted qs z) k.1 ∙ l.answer

  pub left_next : {ok : Bool} {m' : List ℕ} → OneRepeated r m ok m' → ok ≡ true → Left m₀ qs₀ m' qs
  left_next {ok} {m'} o e = record { stored = stored_next l.stored o; answer = sym (ap (λ b. b && all_accepted qs (store_now m')) e) ∙ first_answer o }

  pub left_stop : {ok : Bool} {m' : List ℕ} → OneRepeated r m ok m' → ok ≡ false → AllRepeated qs₀ m₀ false m'
  left_stop {ok} {m'} o e = record { answer = sym (ap (λ b. b && all_accepted qs (store_now m')) e) ∙ first_answer o; memory = λ k. lie k }

pub left_end : {m₀ : List ℕ} {qs₀ : List LogRecord} {m : List ℕ} → Left m₀ qs₀ m [] → AllRepeated qs₀ m₀ true m
unfolding all_accepted
left_end l = record { answer = l.answer; memory = λ e. stored_end l.stored }
