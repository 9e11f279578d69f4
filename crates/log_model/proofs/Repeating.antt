-- Records repeated: the stores that this gives are well formed, no checkpoint begins, and stores that agree go on agreeing.
use Rattle.basics.proofs.Kit.{◌≡◌, refl, sym, ap, ◌∙◌, true, false, ◌&&◌, some, none, Option, List, [], ◌∷◌, ◌++◌}
use Rattle.basics.proofs.Facts.{by, AllOf, and_true}
use Rattle.model.specs.State.{Store, Outcome}
use Rattle.model.specs.Transactions.{gives}
use Rattle.model.specs.Checkpoint.{is_running}
use Rattle.model.specs.Calls.{TransactionCall, transact, TypedCall, Call, transacts, call, AllTyped, is_transaction, accepted, after_calls}
use Rattle.model.specs.WellFormed.{WellFormed}
use Rattle.model.specs.Agree.{Agree}
use Rattle.model.proofs.NoStores.{call_leaves}
use Rattle.model.proofs.Starts.{kept_well}
use Rattle.model.proofs.Agree.{accepted_idle}
use Rattle.log_records.specs.Records.{LogRecord, opened_by, committed_by, aborted_by, inserted_by, replaced_by, deleted_by, mark_of, RecordFits}
use Rattle.log_model.specs.Repeats.{call_of, call_if, repeat, repeat_all, all_accepted}

-- ---- one record

abbrev pub TypedIf : Option TransactionCall → Type 0
TypedIf none = Unit {0}
TypedIf (some c) = TypedCall c

pub record_typed : (r : LogRecord) → RecordFits r → TypedIf (call_of r)
unfolding call_of
record_typed (opened_by tx) f = tt
record_typed (committed_by tx) f = tt
record_typed (aborted_by tx) f = tt
record_typed (inserted_by tx t k bs) f = (f.0.key, f.1.bytes)
record_typed (replaced_by tx t k bs) f = (f.0.key, f.1.bytes)
record_typed (deleted_by tx t k) f = (f.key, tt)
record_typed (mark_of l txs) f = tt

if_well : (o : Option TransactionCall) (s : Store) → TypedIf o → WellFormed s → WellFormed (call_if o s).store
unfolding call_if gives call
if_well none s t w = w
if_well (some c) s t w = kept_well (transacts c) s t w

-- what a repeated call leaves
pub record Stays (s z : Store) : Type 0 where
  pub checkpoint : is_running z.checkpoint ≡ is_running s.checkpoint
  pub capacity : z.capacity ≡ s.capacity
  pub level : z.level ≡ s.level

if_stays : (o : Option TransactionCall) (s : Store) → Stays s (call_if o s).store
unfolding call_if gives call is_transaction
if_stays none s = record { checkpoint = refl; capacity = refl; level = refl }
if_stays (some c) s =
    let l = call_leaves (transacts c) s in
    record { checkpoint = ap is_running (l.checkpoint refl); capacity = l.capacity; level = l.level refl }

pub if_agree : (o : Option TransactionCall) (s z : Store) → WellFormed s → WellFormed z → Agree s z → is_running z.checkpoint ≡ false
    → accepted (call_if o s).answer ≡ true → (accepted (call_if o z).answer ≡ true) × Agree (call_if o s).store (call_if o z).store
unfolding call_if gives accepted
if_agree none s z w v a i h = (refl, a)
if_agree (some c) s z w v a i h = accepted_idle c s z w v a i h

-- ---- lists of records

abbrev pub AllRecordsFit : List LogRecord → Type 0
AllRecordsFit rs = AllOf RecordFits rs

-- the first of records, whose outcome is known
pub repeat_first : (r : LogRecord) (rs : List LogRecord) (s : Store) (o : Outcome) → repeat r s ≡ o → repeat_all (r ∷ rs) s ≡ repeat_all rs o.store
unfolding repeat_all
repeat_first r rs s o e = ap (λ z. repeat_all rs z.store) e

pub accepted_first : (r : LogRecord) (rs : List LogRecord) (s : Store) (o : Outcome) → repeat r s ≡ o → accepted o.answer ≡ true
    → all_accepted rs o.store ≡ true → all_accepted (r ∷ rs) s ≡ true
unfolding all_accepted
accepted_first r rs s o e h k = ap (λ z. accepted z.answer && all_accepted rs z.store) e ∙ rw (h, k)

pub repeat_well : (rs : List LogRecord) (s : Store) → AllRecordsFit rs → WellFormed s → WellFormed (repeat_all rs s)
unfolding repeat_all repeat
repeat_well [] s f w = w
repeat_well (r ∷ rs) s f w = repeat_well rs _ f.1 (if_well (call_of r) s (record_typed r f.0) w)

pub repeat_stays : (rs : List LogRecord) (s : Store) → Stays s (repeat_all rs s)
unfolding repeat_all repeat
repeat_stays [] s = record { checkpoint = refl; capacity = refl; level = refl }
repeat_stays (r ∷ rs) s =
    let a = if_stays (call_of r) s in
    let b = repeat_stays rs (call_if (call_of r) s).store in
    record { checkpoint = b.checkpoint ∙ a.checkpoint; capacity = b.capacity ∙ a.capacity; level = b.level ∙ a.level }

pub repeat_idle : (rs : List LogRecord) (s : Store) → is_running s.checkpoint ≡ false → is_running (repeat_all rs s).checkpoint ≡ false
repeat_idle rs s i = (repeat_stays rs s).checkpoint ∙ i

pub repeat_append : (a b : List LogRecord) (s : Store) → repeat_all (a ++ b) s ≡ repeat_all b (repeat_all a s)
unfolding repeat_all
repeat_append [] b s = refl
repeat_append (r ∷ a) b s = repeat_append a b (repeat r s).store

pub repeat_one : (a : List LogRecord) (r : LogRecord) (s : Store) → repeat_all (a ++ r ∷ []) s ≡ (repeat r (repeat_all a s)).store
unfolding repeat_all
repeat_one a r s = repeat_append a (r ∷ []) s

pub accepted_append : (a b : List LogRecord) (s : Store) → all_accepted (a ++ b) s ≡ (all_accepted a s && all_accepted b (repeat_all a s))
unfolding repeat_all all_accepted
accepted_append [] b s = refl
accepted_append (r ∷ a) b s = by (accepted (repeat r s).answer) (λ h. rw h (accepted_append a b (repeat r s).store)) (λ h. rw h)

pub accepted_parts : (a b : List LogRecord) (s : Store) → all_accepted (a ++ b) s ≡ true → (all_accepted a s ≡ true) × (all_accepted b (repeat_all a s) ≡ true)
accepted_parts a b s h = and_true _ _ (sym (accepted_append a b s) ∙ h)

pub accepted_both : (a b : List LogRecord) (s : Store) → all_accepted a s ≡ true → all_accepted b (repeat_all a s) ≡ true → all_accepted (a ++ b) s ≡ true
accepted_both a b s h k = accepted_append a b s ∙ rw (h, k)

-- accepted on a store, with a checkpoint running or not, they are accepted on one that agrees and has none, and both agree afterwards
pub repeat_agree : (rs : List LogRecord) (s z : Store) → AllRecordsFit rs → WellFormed s → WellFormed z → Agree s z → is_running z.checkpoint ≡ false
    → all_accepted rs s ≡ true → (all_accepted rs z ≡ true) × Agree (repeat_all rs s) (repeat_all rs z)
unfolding repeat_all all_accepted repeat
repeat_agree [] s z f w v a i h = (refl, a)
repeat_agree (r ∷ rs) s z f w v a i h =
    let o = call_of r in
    let t = record_typed r f.0 in
    let k = and_true (accepted (call_if o s).answer) (all_accepted rs (call_if o s).store) h in
    let b = if_agree o s z w v a i k.0 in
    let c = repeat_agree rs (call_if o s).store (call_if o z).store f.1 (if_well o s t w) (if_well o z t v) b.1 ((if_stays o z).checkpoint ∙ i) k.1 in
    (rw b.0 c.0, c.1)

-- ---- as a list of calls

abbrev pub list_of : Option TransactionCall → List Call
list_of none = []
list_of (some c) = transacts c ∷ []

unfoldable pub calls_of : List LogRecord → List Call
calls_of [] = []
calls_of (r ∷ rs) = list_of (call_of r) ++ calls_of rs

pub calls_after : (rs : List LogRecord) (s : Store) → after_calls (calls_of rs) s ≡ repeat_all rs s
unfolding after_calls calls_of repeat_all repeat
calls_after [] s = refl
calls_after (r ∷ rs) s = go (call_of r) (calls_after rs)
  where
    go : (o : Option TransactionCall) → ((z : Store) → after_calls (calls_of rs) z ≡ repeat_all rs z)
        → after_calls (list_of o ++ calls_of rs) s ≡ repeat_all rs (call_if o s).store
    go none h = unfold call_if gives in h s
    go (some c) h = unfold call_if call in h (transact c s).store

pub calls_typed : (rs : List LogRecord) → AllRecordsFit rs → AllTyped (calls_of rs)
unfolding calls_of
calls_typed [] f = tt
calls_typed (r ∷ rs) f = go (call_of r) (record_typed r f.0) (calls_typed rs f.1)
  where
    go : (o : Option TransactionCall) → TypedIf o → AllTyped (calls_of rs) → AllTyped (list_of o ++ calls_of rs)
    go none t h = h
    go (some c) t h = (t, h)
