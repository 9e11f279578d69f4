-- The lemmas that close every return of every call: without a store, refused, accepted.
use Rattle.basics.proofs.Kit.{◌≡◌, refl, sym, ap, ◌∙◌, subst, Bool, true, false, some, none, Option, List, ◌++◌, ℕ, ◌≤◌, ◌<◌, length, drop, lt-ltb, le-ltb, arith}
use Rattle.basics.specs.Basics.{if'◌then◌else◌}
use Rattle.basics.proofs.Facts.{by}
use Rattle.model.specs.State.{Store, Write, Outcome}
use Rattle.model.specs.Transactions.{gives, unless, replied}
use Rattle.model.specs.Calls.{accepted, with_room}
use Rattle.model.specs.Recover.{image_after}
use Rattle.memory_layout.specs.Flat.{flat_of}
use Rattle.memory_layout.specs.Store.{holds_store, store_of, store_in, HoldsNow}
use Rattle.memory_layout.proofs.Laws.{in_none, in_some}
use Rattle.call_contracts.specs.Shape.{Answer, meaning, is_accepted, Afterwards, Answers, AnswersAt, Replies, RepliesAt, Stores, StoresAt}
use Rattle.std.specs.Prelude.{Ok, Err, is_ok}
use Rattle.refusals.specs.declared.Refusal.{Refusal}
use Rattle.refusals.specs.declared.Refusal.TheVariants.{NoStore, ReplyShort, LogFull}
use Rattle.refusals.specs.Numbers.{number}
use Rattle.call_contracts.specs.declared.Reply.TheVariants.{Done, Count, Filled}
use Rattle.model.specs.State as model

-- an answer is no refusal exactly if the model's is none
pub accepted_means : (a : Answer) (bs : List ℕ) (o : model.Answer) → meaning a bs ≡ o → is_accepted a ≡ accepted o
unfolding is_accepted accepted
accepted_means (Ok Done) bs o e = ap accepted e
accepted_means (Ok (Count n)) bs o e = ap accepted e
accepted_means (Ok (Filled n)) bs o e = ap accepted e
accepted_means (Err r) bs o e = ap accepted e

-- the code asks whether there is a reply
pub accepted_ok : (a : Answer) → is_accepted a ≡ is_ok a
unfolding is_accepted
accepted_ok (Ok r) = refl
accepted_ok (Err e) = refl

-- where the tests that refuse a memory without a store by 4 have passed, there is one
pub passed_4 : (m : List ℕ) {v : ℕ} → (holds_store m ≡ false → v ≡ 4) → v ≡ 0 → holds_store m ≡ true
passed_4 m f z = by (holds_store m) (λ h. h) (λ h. absurd (omega (arith, f h)))

module _ (call : Store → Outcome) (m : List ℕ) where
  pub answers_4 : holds_store m ≡ false → Answers call m (Err NoStore) m
  unfolding Answers AnswersAt
  answers_4 h = rw (in_none m h) (refl, refl)

  pub answers_refused : (e : Refusal) → holds_store m ≡ true → call (store_of (flat_of m)) ≡ gives (model.refused (number e)) (store_of (flat_of m)) → Answers call m (Err e) m
  unfolding Answers AnswersAt gives
  answers_refused e h q = rw (in_some m h, q) (record { answer = refl; memory = refl })

  pub answers_done : (m' : List ℕ) (s : Store) → holds_store m ≡ true → call (store_of (flat_of m)) ≡ gives model.done s
      → HoldsNow m m' s → Answers call m (Ok Done) m'
  unfolding Answers AnswersAt gives
  answers_done m' s h e k = rw (in_some m h, e) (record { answer = refl; memory = k })

  pub answers_count : (m' : List ℕ) (n : ℕ) (s : Store) → holds_store m ≡ true → call (store_of (flat_of m)) ≡ gives (model.count n) s
      → HoldsNow m m' s → Answers call m (Ok (Count n)) m'
  unfolding Answers AnswersAt gives
  answers_count m' n s h e k = rw (in_some m h, e) (record { answer = refl; memory = k })

  module _ (img : List ℕ) where
    pub stores_4 : holds_store m ≡ false → Stores call img m (Err NoStore) img m
    unfolding Stores StoresAt
    stores_4 h = rw (in_none m h) (refl, (refl, refl))

    pub stores_refused : (e : Refusal) → holds_store m ≡ true → call (store_of (flat_of m)) ≡ gives (model.refused (number e)) (store_of (flat_of m)) → Stores call img m (Err e) img m
    unfolding Stores StoresAt gives image_after
    stores_refused e h q = rw (in_some m h, q) (record { answer = refl; memory = refl; image = refl })

    pub stores_count : (img' m' : List ℕ) (n : ℕ) (s : Store) (ws : List Write) → holds_store m ≡ true
        → call (store_of (flat_of m)) ≡ record { answer = model.count n; store = s; writes = ws }
        → HoldsNow m m' s → img' ≡ image_after ws img → Stores call img m (Ok (Count n)) img' m'
    unfolding Stores StoresAt
    stores_count img' m' n s ws h e k q = rw (in_some m h, e) (record { answer = refl; memory = k; image = q })

  module _ (p : List ℕ) where
    pub replies_4 : holds_store m ≡ false → Replies call m (Err NoStore) p p
    unfolding Replies RepliesAt
    replies_4 h = rw (in_none m h) (refl, refl)

    pub replies_refused : (e : Refusal) → holds_store m ≡ true → call (store_of (flat_of m)) ≡ gives (model.refused (number e)) (store_of (flat_of m)) → Replies call m (Err e) p p
    unfolding Replies RepliesAt gives
    replies_refused e h q = rw (in_some m h, q) (record { answer = refl; reply = refl })

    pub replies_filled : (n : ℕ) (bs p' : List ℕ) → holds_store m ≡ true → call (store_of (flat_of m)) ≡ gives (model.filled n bs) (store_of (flat_of m))
        → p' ≡ bs ++ drop (length bs) p → Replies call m (Ok (Filled n)) p p'
    unfolding Replies RepliesAt gives
    replies_filled n bs p' h e q = rw (in_some m h, e) (record { answer = refl; reply = q })

    -- a call that puts the bytes bs into the reply, with the count n
    module _ (n : ℕ) (bs : List ℕ) (h : holds_store m ≡ true) (e : call (store_of (flat_of m)) ≡ replied (length p) n bs (store_of (flat_of m))) where
      pub replies_21 : length p < length bs → Replies call m (Err ReplyShort) p p
      unfolding replied unless if'◌then◌else◌
      replies_21 l = replies_refused ReplyShort h (e ∙ rw (lt-ltb (length p) (length bs) l))

      pub replies_with : length bs ≤ length p → (p' : List ℕ) → p' ≡ bs ++ drop (length bs) p → Replies call m (Ok (Filled n)) p p'
      unfolding replied unless if'◌then◌else◌
      replies_with l p' q = replies_filled n bs p' h (e ∙ rw (le-ltb (length p) (length bs) l)) q

-- ---- calls that may lack room for a record

-- 29 is given only in the place of an accepted answer
refused_stays : (room : Bool) (call : Store → Outcome) (s : Store) → accepted (call s).answer ≡ false → with_room room call s ≡ call s
unfolding if'◌then◌else◌
refused_stays true call s h = refl
refused_stays false call s h = rw h

module _ (room : Bool) (call : Store → Outcome) (m : List ℕ) where
  pub room_refused : (e : Refusal) (m' : List ℕ) → Answers call m (Err e) m' → Answers (with_room room call) m (Err e) m'
  unfolding Answers AnswersAt
  room_refused e m' a = go (store_in m) a
    where
      go : (o : Option Store) → AnswersAt o call m (Err e) m' → AnswersAt o (with_room room call) m (Err e) m'
      go none a = a
      go (some s) a = subst (λ o. Afterwards o m (Err e) m') (sym (refused_stays room call s (unfold accepted in ap accepted (sym a.answer)))) a

  pub room_kept : room ≡ true → (r : Answer) (m' : List ℕ) → Answers call m r m' → Answers (with_room room call) m r m'
  room_kept h r m' a = subst (λ b. Answers (with_room b call) m r m') (sym h) a

  module _ (h : room ≡ false) (k : holds_store m ≡ true) (z : Store) where
    no_room : (a : model.Answer) → accepted a ≡ true → call (store_of (flat_of m)) ≡ gives a z → Answers (with_room room call) m (Err LogFull) m
    unfolding gives if'◌then◌else◌
    no_room a t e =
        let q : accepted (call (store_of (flat_of m))).answer ≡ true = ap (λ (o : Outcome). accepted o.answer) e ∙ t in
        answers_refused (with_room room call) m LogFull k (ap (λ (b : Bool). with_room b call (store_of (flat_of m))) h ∙ rw q)

    pub no_room_done : call (store_of (flat_of m)) ≡ gives model.done z → Answers (with_room room call) m (Err LogFull) m
    unfolding accepted
    no_room_done e = no_room model.done refl e

    pub no_room_count : (n : ℕ) → call (store_of (flat_of m)) ≡ gives (model.count n) z → Answers (with_room room call) m (Err LogFull) m
    unfolding accepted
    no_room_count n e = no_room (model.count n) refl e
