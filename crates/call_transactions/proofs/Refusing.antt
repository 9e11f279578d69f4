-- The first test that holds, and what a call that was tested does.
use Rattle.block_forms.specs.Limits.{most_transaction}
use Rattle.basics.proofs.Kit.{◌≡◌, refl, sym, ap, ◌∙◌, Bool, true, false, not, List, [], ◌∷◌, ◌++◌, ℕ, ◌≤◌, ◌<◌, ltb, length, lt-ltb, le-ltb, arith}
use Rattle.basics.specs.Basics.{if'◌then◌else◌}
use Rattle.basics.proofs.Facts.{by}
use Rattle.model.specs.State.{Store, Outcome}
use Rattle.model.specs.Transactions.{Test, ◌when◌, gives, unless, not_open}
use Rattle.memory_layout.specs.Flat.{Flat, flat_of}
use Rattle.memory_layout.specs.Store.{holds_store, store_of, store_in}
use Rattle.memory_layout.proofs.Laws.{in_none, in_some}
use Rattle.memory_layout.specs.Opens.{find_open}
use Rattle.call_transactions.proofs.Opens.{found_open, not_found_open}
use Rattle.call_contracts.specs.Shape.{Answers, AnswersAt, Replies, RepliesAt}
use Rattle.call_transactions.specs.Refusals.{first_refusal, refusal_in}
use Rattle.refusals.specs.declared.Refusal.{Refusal}
use Rattle.refusals.specs.Numbers.{number}
use Rattle.refusals.proofs.Numbers.{number_positive}
use Rattle.std.specs.Prelude.{Err}
use Rattle.call_contracts.proofs.Answering.{passed_4, answers_refused, replies_refused}
use Rattle.model.specs.State as model

-- ---- one test after the other

module _ (n : ℕ) (b : Bool) (ts : List Test) where
  pub stop_here : b ≡ true → first_refusal (n when b ∷ ts) ≡ n
  unfolding first_refusal if'◌then◌else◌
  stop_here e = rw e

  pub go_on : b ≡ false → first_refusal (n when b ∷ ts) ≡ first_refusal ts
  unfolding first_refusal if'◌then◌else◌
  go_on e = rw e

  module _ (s : Store) (o : Outcome) where
    pub refused_here : b ≡ true → unless (n when b ∷ ts) s o ≡ gives (model.refused n) s
    unfolding unless if'◌then◌else◌
    refused_here e = rw e

    pub passed_on : b ≡ false → unless (n when b ∷ ts) s o ≡ unless ts s o
    unfolding unless if'◌then◌else◌
    passed_on e = rw e

pub refusal_none : first_refusal [] ≡ 0
unfolding first_refusal
refusal_none = refl

pub unless_none : (s : Store) (o : Outcome) → unless [] s o ≡ o
unfolding unless
unless_none s o = refl

-- no test has the number 0
abbrev pub Numbered : List Test → Type 0
Numbered [] = Unit {0}
Numbered ((n when b) ∷ ts) = (0 < n) × Numbered ts

pub unless_append : (xs ys : List Test) (s : Store) (o : Outcome) → unless (xs ++ ys) s o ≡ unless xs s (unless ys s o)
unfolding unless
unless_append [] ys s o = refl
unless_append ((n when b) ∷ xs) ys s o = ap (λ (z : Outcome). if' b then gives (model.refused n) s else z) (unless_append xs ys s o)

pub unless_stop : (ts : List Test) (s : Store) (o : Outcome) → (first_refusal ts ≡ 0 → ⊥) → unless ts s o ≡ gives (model.refused (first_refusal ts)) s
unfolding first_refusal unless if'◌then◌else◌
unless_stop [] s o h = absurd (h refl)
unless_stop ((n when b) ∷ ts) s o h = by b (λ e. rw e) (λ e. rw e (unless_stop ts s o (rw e at h)))

pub unless_pass : (ts : List Test) (s : Store) (o : Outcome) → Numbered ts → first_refusal ts ≡ 0 → unless ts s o ≡ o
unfolding first_refusal unless if'◌then◌else◌
unless_pass [] s o a h = refl
unless_pass ((n when b) ∷ ts) s o a h = by b (λ e. let z : n ≡ 0 = rw e at h in absurd (omega (arith, a.0))) (λ e. rw e (unless_pass ts s o a.1 (rw e at h)))

pub refusal_append : (xs ys : List Test) → first_refusal xs ≡ 0 → Numbered xs → first_refusal (xs ++ ys) ≡ first_refusal ys
unfolding first_refusal if'◌then◌else◌
refusal_append [] ys h a = refl
refusal_append ((n when b) ∷ xs) ys h a = by b (λ e. let z : n ≡ 0 = rw e at h in absurd (omega (arith, a.0))) (λ e. rw e (refusal_append xs ys (rw e at h) a.1))

pub refusal_first : (xs ys : List Test) → (first_refusal xs ≡ 0 → ⊥) → first_refusal (xs ++ ys) ≡ first_refusal xs
unfolding first_refusal if'◌then◌else◌
refusal_first [] ys h = absurd (h refl)
refusal_first ((n when b) ∷ xs) ys h = by b (λ e. rw e) (λ e. rw e (refusal_first xs ys (rw e at h)))

-- ---- in the memory

module _ (m : List ℕ) (tests : Store → List Test) where
  pub refusal_4 : holds_store m ≡ false → refusal_in (store_in m) tests ≡ 4
  unfolding refusal_in
  refusal_4 h = rw (in_none m h)

  pub refusal_in_lem : holds_store m ≡ true → refusal_in (store_in m) tests ≡ first_refusal (tests (store_of (flat_of m)))
  unfolding refusal_in
  refusal_in_lem h = rw (in_some m h)

  -- none of them holds
  module _ (e : 0 ≡ refusal_in (store_in m) tests) where
    pub passed_held : holds_store m ≡ true
    passed_held = passed_4 m (λ h. e ∙ refusal_4 h) refl

    pub passed_tests : first_refusal (tests (store_of (flat_of m))) ≡ 0
    passed_tests = sym (refusal_in_lem passed_held) ∙ sym e

    -- a call with these tests first does what comes after them
    pub call_after : (call after : Store → Outcome) → ((s : Store) → call s ≡ unless (tests s) s (after s)) → ((s : Store) → Numbered (tests s))
        → call (store_of (flat_of m)) ≡ after (store_of (flat_of m))
    call_after call after q a = q (store_of (flat_of m)) ∙ unless_pass (tests (store_of (flat_of m))) (store_of (flat_of m)) _ (a (store_of (flat_of m))) passed_tests

  -- one of them refuses
  module _ (r : Refusal) (e : number r ≡ refusal_in (store_in m) tests) (call after : Store → Outcome) (q : (s : Store) → call s ≡ unless (tests s) s (after s)) where
    refused_call : holds_store m ≡ true → call (store_of (flat_of m)) ≡ gives (model.refused (number r)) (store_of (flat_of m))
    refused_call h =
        let s : Store = store_of (flat_of m) in
        let ev : number r ≡ first_refusal (tests s) = e ∙ refusal_in_lem h in
        q s ∙ unless_stop (tests s) s (after s) (λ z. omega (arith, ev, z, number_positive r)) ∙ ap (λ (k : ℕ). gives (model.refused k) s) (sym ev)

    pub answers_stopped : Answers call m (Err r) m
    unfolding Answers AnswersAt
    answers_stopped =
        by (holds_store m) (λ h. answers_refused call m r h (refused_call h)) (λ h. rw (in_none m h) (ap model.refused (e ∙ refusal_4 h), refl))

    pub replies_stopped : (p : List ℕ) → Replies call m (Err r) p p
    unfolding Replies RepliesAt
    replies_stopped p =
        by (holds_store m) (λ h. replies_refused call m p r h (refused_call h)) (λ h. rw (in_none m h) (ap model.refused (e ∙ refusal_4 h), refl))

-- ---- 6, 7

module _ (tx : ℕ) (f : Flat) where
  pub stop_6 : most_transaction < tx → first_refusal (not_open tx (store_of f)) ≡ 6
  unfolding not_open
  stop_6 h = stop_here 6 (ltb most_transaction tx) _ (lt-ltb most_transaction tx h)

  module _ (h : tx ≤ most_transaction) where
    pub stop_7 : length f.opens ≤ find_open tx f.opens → first_refusal (not_open tx (store_of f)) ≡ 7
    unfolding not_open store_of
    stop_7 k = go_on 6 (ltb most_transaction tx) _ (le-ltb most_transaction tx h) ∙ stop_here 7 _ _ (ap not (not_found_open tx f.opens k))

    pub none_7 : find_open tx f.opens < length f.opens → first_refusal (not_open tx (store_of f)) ≡ 0
    unfolding not_open store_of
    none_7 k = go_on 6 (ltb most_transaction tx) _ (le-ltb most_transaction tx h) ∙ go_on 7 _ _ (ap not (found_open tx f.opens k)) ∙ refusal_none

pub open_numbered : (tx : ℕ) (s : Store) → Numbered (not_open tx s)
unfolding not_open
open_numbered tx s = (omega arith, (omega arith, tt))
