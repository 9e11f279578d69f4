-- Opening the transactions that a mark carries, and aborting what is left open: all of these calls are accepted.
use Rattle.basics.proofs.Kit.{◌≡◌, refl, sym, ap, ◌∙◌, subst, ap₂, Bool, true, false, not, ◌&&◌, ◌||◌, List, [], ◌∷◌, ◌++◌, append_assoc, append-nil, map, ℕ, ◌+◌, ◌≤◌, ◌<◌, eqb, leb, ltb}
use Rattle.basics.proofs.Kit.{length, length-append, arith}
use Rattle.basics.specs.Basics.{if'◌then◌else◌, any, all, keep, is_in, distinct, sorted, how_many}
use Rattle.basics.proofs.Facts.{by, lie, AllOf, and_true, same_truth, or_else}
use Rattle.basics.proofs.Ands.{and_yes, and_no}
use Rattle.basics.proofs.Elements.{in_here, in_past, eqb-true, eqb_self, eqb_sym, in_append, all_in, all_two, all_append, leb-true, le_true, lt_false, not-true, in_all}
use Rattle.basics.proofs.Elements.{any_many, not_zero, keep_cons, keep_past, or_right}
use Rattle.basics.proofs.Members.{pigeon, distinct_first, distinct_more, distinct_mid, distinct_both, member_apart}
use Rattle.basics.proofs.Sorted.{in_sorted, sorted_distinct, same_sorted}
use Rattle.block_forms.specs.Limits.{most_transaction}
use Rattle.block_forms.specs.Tuple.{Owner, committed, tentative}
use Rattle.image_rows.specs.Rows.{Row, is_by, is_own, open_limit}
use Rattle.model.specs.State.{Store, Active, done}
use Rattle.model.specs.Sight.{rows}
use Rattle.model.specs.Transactions.{unless, gives, changed, open_numbers, written_by, is_for, without, with_open, open_call, not_open, abort_call, closing, aborted_pages}
use Rattle.model.specs.Calls.{transact, accepted}
use Rattle.model.specs.WellFormed.{WellFormed, owner_in}
use Rattle.model.specs.Agree.{Agree}
use Rattle.model.proofs.Owners.{numbers_append, numbers_length}
use Rattle.model.proofs.Well.{sound}
use Rattle.model.proofs.Agree.{without_in, count_none}
use Rattle.log_records.specs.Records.{opened_by, aborted_by}
use Rattle.log_model.specs.Repeats.{call_of, call_if, repeat, repeat_all, all_accepted}
use Rattle.log_model.specs.Logged.{unwritten}
use Rattle.log_model.specs.RollForward.{aborts_of}
use Rattle.log_model.proofs.Repeating.{AllRecordsFit, repeat_well, repeat_first, accepted_first}

-- ---- opens

-- nothing but the open transactions has changed: these are open too
pub record Opened (s z : Store) (txs : List ℕ) : Type 0 where
  pub capacity : z.capacity ≡ s.capacity
  pub next : z.next ≡ s.next
  pub pages : z.pages ≡ s.pages
  pub numbers : open_numbers z.active ≡ open_numbers s.active ++ txs

open_one : (tx : ℕ) (s : Store) → tx ≤ most_transaction → is_in tx (open_numbers s.active) ≡ false → length s.active < open_limit → open_call tx s ≡ gives done (with_open tx s)
unfolding open_call unless if'◌then◌else◌
open_one tx s l h f = rw (lt_false most_transaction tx l, h, not_le open_limit (length s.active) f)
  where
    not_le : (a b : ℕ) → b < a → leb a b ≡ false
    not_le a b k = by (leb a b) (λ e. absurd (omega (arith, leb-true a b e))) (λ e. e)

-- each of txs can be opened: it is in range, not open, and there is room for all
pub record Openable (s : Store) (txs : List ℕ) : Type 0 where
  pub low : AllOf (λ tx. tx ≤ most_transaction) txs
  pub once : distinct (open_numbers s.active ++ txs) ≡ true
  pub room : length s.active + length txs ≤ open_limit

-- the open of tx
opening : (tx : ℕ) (s : Store) → repeat (opened_by tx) s ≡ open_call tx s
unfolding repeat call_of call_if transact
opening tx s = refl

opened_numbers : (tx : ℕ) (s : Store) → open_numbers (with_open tx s).active ≡ open_numbers s.active ++ tx ∷ []
unfolding changed
opened_numbers tx s = numbers_append s.active (record { transaction = tx; written = 0 })

opened_one : (tx : ℕ) (s : Store) → Opened s (with_open tx s) (tx ∷ [])
unfolding changed
opened_one tx s = record { capacity = refl; next = refl; pages = refl; numbers = opened_numbers tx s }

pub opens_all : (txs : List ℕ) (s : Store) → Openable s txs → (all_accepted (map opened_by txs) s ≡ true) × Opened s (repeat_all (map opened_by txs) s) txs
unfolding gives
opens_all [] s o = (unfold all_accepted in refl, unfold repeat_all in record { capacity = refl; next = refl; pages = refl; numbers = sym (append-nil (open_numbers s.active)) })
opens_all (tx ∷ txs) s o =
    let h = opening tx s ∙ open_one tx s o.low.0 (distinct_mid (open_numbers s.active) tx txs o.once) (omega (arith, o.room)) in
    let one = opened_one tx s in
    let e : open_numbers (with_open tx s).active ++ txs ≡ open_numbers s.active ++ tx ∷ txs = ap (λ l. l ++ txs) one.numbers ∙ append_assoc (open_numbers s.active) (tx ∷ []) txs in
    let l : length (with_open tx s).active ≡ length s.active + 1 =
    sym (numbers_length (with_open tx s).active) ∙ ap length one.numbers ∙ length-append (open_numbers s.active) (tx ∷ []) ∙ ap (λ n. n + 1) (numbers_length s.active) in
    let r = opens_all txs (with_open tx s) (record { low = o.low.1; once = ap distinct e ∙ o.once; room = omega (arith, l, o.room) }) in
    let q = r.1 in (
      accepted_first (opened_by tx) (map opened_by txs) s (gives done (with_open tx s)) h accepts r.0,
      subst (λ z. Opened s z (tx ∷ txs)) (sym (repeat_first (opened_by tx) (map opened_by txs) s (gives done (with_open tx s)) h))
          (record { capacity = q.capacity ∙ one.capacity; next = q.next ∙ one.next; pages = q.pages ∙ one.pages; numbers = q.numbers ∙ e }),
    )
  where
    accepts : accepted done ≡ true
    accepts = unfold accepted in refl

-- ---- the transactions open without writes

is_unwritten : Active → Bool
is_unwritten o = eqb o.written 0

kept_in : (f : Active → Bool) (u : ℕ) (os : List Active) → is_in u (open_numbers (keep f os)) ≡ true → is_in u (open_numbers os) ≡ true
unfolding open_numbers keep if'◌then◌else◌
kept_in f u [] h = h
kept_in f u (o ∷ os) h =
    by (eqb u o.transaction) (λ e. in_here u o.transaction (open_numbers os) e)
    (λ e. in_past u o.transaction (open_numbers os) e
    ∙ kept_in f u os (by (f o) (λ k. sym (in_past u o.transaction (open_numbers (keep f os)) e) ∙ (rw k at h)) (λ k. rw k at h)))

kept_distinct : (f : Active → Bool) (os : List Active) → distinct (open_numbers os) ≡ true → distinct (open_numbers (keep f os)) ≡ true
unfolding open_numbers keep if'◌then◌else◌
kept_distinct f [] h = h
kept_distinct f (o ∷ os) h =
    let d = distinct_first o.transaction (open_numbers os) h in
    let n : is_in o.transaction (open_numbers (keep f os)) ≡ false =
    by (is_in o.transaction (open_numbers (keep f os))) (λ k. lie (sym (not-true _ d.0) ∙ kept_in f o.transaction os k)) (λ k. k) in
    by (f o) (λ k. rw k (distinct_more o.transaction (open_numbers (keep f os)) n (kept_distinct f os d.1))) (λ k. rw k (kept_distinct f os d.1))

written_here : (u : ℕ) (o : Active) (os : List Active) → eqb o.transaction u ≡ true → written_by u (o ∷ os) ≡ o.written
unfolding written_by is_for if'◌then◌else◌
written_here u o os h = rw h

written_past : (u : ℕ) (o : Active) (os : List Active) → eqb o.transaction u ≡ false → written_by u (o ∷ os) ≡ written_by u os
unfolding written_by is_for if'◌then◌else◌
written_past u o os h = rw h

-- u is among these and has written nothing
abbrev Bare : ℕ → List Active → Bool
Bare u os = is_in u (open_numbers os) && eqb (written_by u os) 0

unwritten_one : (u : ℕ) (os : List Active) → distinct (open_numbers os) ≡ true → is_in u (open_numbers (keep is_unwritten os)) ≡ Bare u os
unfolding open_numbers
unwritten_one u [] h = unfold is_in any keep in refl
unwritten_one u (o ∷ os) h =
    let d = distinct_first o.transaction (open_numbers os) h in
    let off = not-true _ d.0 in
    let ks = open_numbers (keep is_unwritten os) in
    let ih = unwritten_one u os d.1 in
    by (eqb u o.transaction)
    (λ e. let q : eqb o.transaction u ≡ true = ap (λ v. eqb v u) (sym (eqb-true u o.transaction e)) ∙ eqb_self u in
    let away : is_in u (open_numbers os) ≡ false = ap (λ v. is_in v (open_numbers os)) (eqb-true u o.transaction e) ∙ off in
    let gone : is_in u (open_numbers (keep is_unwritten os)) ≡ false =
    by (is_in u (open_numbers (keep is_unwritten os))) (λ k. lie (sym away ∙ kept_in is_unwritten u os k)) (λ k. k) in
    let bare : Bare u (o ∷ os) ≡ (true && eqb o.written 0) =
    ap₂ (λ b n. b && eqb n 0) (in_here u o.transaction (open_numbers os) e) (written_here u o os q) in
    by (is_unwritten o)
    (λ k. ap (λ l. is_in u (open_numbers l)) (keep_cons is_unwritten o os k) ∙ in_here u o.transaction ks e ∙ sym (bare ∙ (unfold is_unwritten in k)))
    (λ k. ap (λ l. is_in u (open_numbers l)) (keep_past is_unwritten o os k) ∙ gone ∙ sym (bare ∙ (unfold is_unwritten in k))))
    (λ e. let q : eqb o.transaction u ≡ false = eqb_sym u o.transaction e in
    let bare : Bare u (o ∷ os) ≡ Bare u os = ap₂ (λ b n. b && eqb n 0) (in_past u o.transaction (open_numbers os) e) (written_past u o os q) in
    by (is_unwritten o)
    (λ k. ap (λ l. is_in u (open_numbers l)) (keep_cons is_unwritten o os k) ∙ in_past u o.transaction ks e ∙ ih ∙ sym bare)
    (λ k. ap (λ l. is_in u (open_numbers l)) (keep_past is_unwritten o os k) ∙ ih ∙ sym bare))

pub in_unwritten : (u : ℕ) (os : List Active) → distinct (open_numbers os) ≡ true → is_in u (unwritten os) ≡ (is_in u (open_numbers os) && eqb (written_by u os) 0)
unfolding unwritten is_unwritten
in_unwritten u os h = in_sorted u (open_numbers (keep is_unwritten os)) ∙ unwritten_one u os h

pub unwritten_distinct : (os : List Active) → distinct (open_numbers os) ≡ true → distinct (unwritten os) ≡ true
unfolding unwritten
unwritten_distinct os h = sorted_distinct (open_numbers (keep (λ o. eqb o.written 0) os)) (kept_distinct (λ o. eqb o.written 0) os h)

-- stores that agree have the same
pub agree_unwritten : (s z : Store) → WellFormed s → WellFormed z → Agree s z → unwritten s.active ≡ unwritten z.active
unfolding unwritten is_unwritten
agree_unwritten s z w v a =
    let p = (sound s w).listed.0 in
    let q = (sound z v).listed.0 in
    same_sorted _ _ (kept_distinct is_unwritten s.active p) (kept_distinct is_unwritten z.active q)
    (λ u. unwritten_one u s.active p ∙ ap₂ (λ b n. b && eqb n 0) (a.opened u) (a.counts u) ∙ sym (unwritten_one u z.active q))

-- ---- stores with the same rows and the same open transactions agree

pub agree_of : (s z : Store) → WellFormed s → WellFormed z → s.capacity ≡ z.capacity → s.next ≡ z.next → rows s.pages ≡ rows z.pages
    → ((u : ℕ) → is_in u (open_numbers s.active) ≡ is_in u (open_numbers z.active)) → Agree s z
agree_of s z w v c n r o =
    record {
      capacity = c;
      next = n;
      rows = r;
      opened = o;
      counts = λ u. by (is_in u (open_numbers s.active))
          (λ h. w.counts u h ∙ ap (how_many (is_own u)) r ∙ sym (v.counts u (sym (o u) ∙ h)))
          (λ h. count_none u s.active h ∙ sym (count_none u z.active (sym (o u) ∙ h)));
    }

-- a transaction with rows is open
own_open : (u : ℕ) (os : List ℕ) (rs : List Row) → all (λ r. owner_in os r.1.owner) rs ≡ true → any (is_own u) rs ≡ true → is_in u os ≡ true
unfolding any all is_own
own_open u os [] a h = lie h
own_open u os (r ∷ rs) a h =
    let p = and_true (owner_in os r.1.owner) (all (λ r. owner_in os r.1.owner) rs) a in
    by (is_by u r.1.owner) (λ k. one r.1.owner p.0 k) (λ k. own_open u os rs p.1 (rw (k, any) at h))
  where
    one : (o : Owner) → owner_in os o ≡ true → is_by u o ≡ true → is_in u os ≡ true
    one committed p k = lie (unfold is_by in k)
    one (tentative t n) p k = ap (λ v. is_in v os) (sym (eqb-true t u (unfold is_by in k))) ∙ (unfold owner_in in p)

-- ---- the opens of a mark

pub opens_fit : (txs : List ℕ) → AllOf (λ tx. tx ≤ most_transaction) txs → AllRecordsFit (map opened_by txs)
opens_fit [] a = tt
opens_fit (tx ∷ txs) a = (omega (arith, a.0), opens_fit txs a.1)

-- r has the rows of z, and open are the transactions that have written them; once those of z without writes are opened, both agree
module _ (r z : Store) (w : WellFormed r) (v : WellFormed z) (c : r.capacity ≡ z.capacity) (n : r.next ≡ z.next) (e : rows r.pages ≡ rows z.pages)
    (o : (u : ℕ) → is_in u (open_numbers r.active) ≡ any (is_own u) (rows r.pages)) where
  abbrev T : List ℕ
  T = unwritten z.active

  open_z : (u : ℕ) → is_in u (open_numbers r.active) ≡ true → is_in u (open_numbers z.active) ≡ true
  open_z u h = own_open u (open_numbers z.active) (rows z.pages) v.owners (ap (any (is_own u)) (sym e) ∙ sym (o u) ∙ h)

  mark_z : (u : ℕ) → is_in u (unwritten z.active) ≡ true → (is_in u (open_numbers z.active) ≡ true) × (eqb (written_by u z.active) 0 ≡ true)
  mark_z u h = and_true _ _ (sym (in_unwritten u z.active (sound z v).listed.0) ∙ h)

  -- without writes it has no row
  mark_r : (u : ℕ) → is_in u (unwritten z.active) ≡ true → is_in u (open_numbers r.active) ≡ false
  mark_r u h =
      let m = mark_z u h in
      let k : how_many (is_own u) (rows r.pages) ≡ 0 = ap (how_many (is_own u)) e ∙ sym (v.counts u m.0) ∙ eqb-true _ 0 m.1 in
      o u ∙ any_many (is_own u) (rows r.pages) ∙ ap (ltb 0) k

  pub may_open : Openable r (unwritten z.active)
  may_open =
      let once = distinct_both (open_numbers r.active) T (sound r w).listed.0 (unwritten_distinct z.active (sound z v).listed.0) (all_in _ T mark_r) in
      let inside = all_append (λ x. is_in x (open_numbers z.active) ≡ true) (open_numbers r.active) T (all_in _ (open_numbers r.active) open_z) (all_in _ T (λ u h. (mark_z u h).0)) in
      let few = pigeon (open_numbers r.active ++ T) (open_numbers z.active) once inside in
      record {
        low = all_in _ T (λ u h. in_all _ u (open_numbers z.active) (mark_z u h).0 (sound z v).listed.1);
        once = once;
        room = omega (arith, few, length-append (open_numbers r.active) T, numbers_length r.active, numbers_length z.active, (sound z v).valid.opened);
      }

  same_open : (u : ℕ) → is_in u (open_numbers r.active ++ unwritten z.active) ≡ is_in u (open_numbers z.active)
  same_open u =
      in_append u (open_numbers r.active) T
      ∙ same_truth _ _
      (λ h. by (is_in u (open_numbers r.active)) (λ k. open_z u k) (λ k. (mark_z u (or_else (is_in u (open_numbers r.active)) (is_in u T) h k)).0))
      (λ h. by (eqb (written_by u z.active) 0)
      (λ k. ap (λ b. is_in u (open_numbers r.active) || b) (bare_in u h k) ∙ or_right (is_in u (open_numbers r.active)) true refl)
      (λ k. ap (λ b. b || is_in u T) (o u ∙ ap (any (is_own u)) e ∙ any_many (is_own u) (rows z.pages) ∙ some_own u h k)))
    where
      bare_in : (u : ℕ) → is_in u (open_numbers z.active) ≡ true → eqb (written_by u z.active) 0 ≡ true → is_in u (unwritten z.active) ≡ true
      bare_in u h k = in_unwritten u z.active (sound z v).listed.0 ∙ rw (h, k)

      some_own : (u : ℕ) → is_in u (open_numbers z.active) ≡ true → eqb (written_by u z.active) 0 ≡ false → ltb 0 (how_many (is_own u) (rows z.pages)) ≡ true
      some_own u h k = le_true 1 _ (not_zero (how_many (is_own u) (rows z.pages)) (ap (λ n. eqb n 0) (sym (v.counts u h)) ∙ k))

  pub mark_opens : (all_accepted (map opened_by T) r ≡ true) × Agree (repeat_all (map opened_by T) r) z
  mark_opens =
      let k = opens_all T r may_open in
      let q = k.1 in (
        k.0,
        agree_of _ z (repeat_well (map opened_by T) r (opens_fit T may_open.low) w) v (q.capacity ∙ c) (q.next ∙ n) (ap rows q.pages ∙ e)
            (λ u. ap (is_in u) q.numbers ∙ same_open u),
      )

-- ---- aborts

pub aborts_fit : (txs : List ℕ) → AllOf (λ tx. tx ≤ most_transaction) txs → AllRecordsFit (map aborted_by txs)
aborts_fit [] a = tt
aborts_fit (tx ∷ txs) a = (omega (arith, a.0), aborts_fit txs a.1)

abort_one : (tx : ℕ) (s : Store) → tx ≤ most_transaction → is_in tx (open_numbers s.active) ≡ true → repeat (aborted_by tx) s ≡ closing tx (aborted_pages tx s.pages) s
unfolding repeat call_of call_if transact abort_call not_open unless if'◌then◌else◌
abort_one tx s l h = rw (lt_false most_transaction tx l, h)

-- those of txs are no longer open
abbrev Left : Store → Store → List ℕ → Type 0
Left s z txs = (u : ℕ) → is_in u (open_numbers z.active) ≡ (is_in u (open_numbers s.active) && not (is_in u txs))

pub aborts_all : (txs : List ℕ) (s : Store) → AllOf (λ tx. tx ≤ most_transaction) txs → distinct txs ≡ true → AllOf (λ tx. is_in tx (open_numbers s.active) ≡ true) txs
    → (all_accepted (map aborted_by txs) s ≡ true) × Left s (repeat_all (map aborted_by txs) s) txs
unfolding gives changed
aborts_all [] s l d o = (unfold all_accepted in refl, λ u. unfold repeat_all is_in any in sym (and_yes (any (eqb u) (open_numbers s.active))))
aborts_all (tx ∷ txs) s l d o =
    let z = changed s s.next (aborted_pages tx s.pages) (without tx s.active) in
    let h = abort_one tx s l.0 o.0 in
    let k = distinct_first tx txs d in
    let out : (u : ℕ) → is_in u (open_numbers (without tx s.active)) ≡ (is_in u (open_numbers s.active) && not (eqb u tx)) = λ u. without_in tx u s.active in
    let still : AllOf (λ u. is_in u (open_numbers (without tx s.active)) ≡ true) txs =
    all_two (λ u. is_in u txs ≡ true) (λ u. is_in u (open_numbers s.active) ≡ true) _
    (λ u i q. out u ∙ ap₂ (λ a b. a && not b) q (member_apart u tx txs i (not-true _ k.0))) txs (all_in (λ u. is_in u txs ≡ true) txs (λ u i. i)) o.1 in
    let r = aborts_all txs z l.1 k.1 still in (
      accepted_first (aborted_by tx) (map aborted_by txs) s (gives done z) h accepts r.0,
      subst (λ y. Left s y (tx ∷ txs)) (sym (repeat_first (aborted_by tx) (map aborted_by txs) s (gives done z) h))
          (λ u. r.1 u ∙ ap (λ b. b && not (is_in u txs)) (out u) ∙ both (is_in u (open_numbers s.active)) u),
    )
  where
    accepts : accepted done ≡ true
    accepts = unfold accepted in refl

    both : (b : Bool) (u : ℕ) → ((b && not (eqb u tx)) && not (is_in u txs)) ≡ (b && not (is_in u (tx ∷ txs)))
    both b u =
        by (eqb u tx) (λ e. rw (e, in_here u tx txs e) (ap (λ c. c && not (is_in u txs)) (and_no b) ∙ sym (and_no b)))
        (λ e. rw (e, in_past u tx txs e) (ap (λ c. c && not (is_in u txs)) (and_yes b)))

-- a store in which all that is open is aborted
nobody : (os : List Active) → ((u : ℕ) → is_in u (open_numbers os) ≡ false) → os ≡ []
unfolding open_numbers
nobody [] h = refl
nobody (o ∷ os) h = lie (sym (h o.transaction) ∙ in_here o.transaction o.transaction (open_numbers os) (eqb_self o.transaction))

module _ (s : Store) (w : WellFormed s) where
  listed_low : AllOf (λ tx. tx ≤ most_transaction) (sorted (open_numbers s.active))
  listed_low = all_in _ (sorted (open_numbers s.active)) (λ u h. in_all _ u (open_numbers s.active) (sym (in_sorted u (open_numbers s.active)) ∙ h) (sound s w).listed.1)

  pub aborts_of_fit : AllRecordsFit (aborts_of s)
  unfolding aborts_of
  aborts_of_fit = aborts_fit (sorted (open_numbers s.active)) listed_low

  pub aborts_of_lem : (all_accepted (aborts_of s) s ≡ true) × ((repeat_all (aborts_of s) s).active ≡ [])
  unfolding aborts_of
  aborts_of_lem =
      let os = open_numbers s.active in
      let r = aborts_all (sorted os) s listed_low (sorted_distinct os (sound s w).listed.0) (all_in _ (sorted os) (λ u h. sym (in_sorted u os) ∙ h)) in
      (r.0, nobody _ (λ u. r.1 u ∙ ap (λ b. is_in u os && not b) (in_sorted u os) ∙ never_both (is_in u os)))
    where
      never_both : (b : Bool) → (b && not b) ≡ false
      never_both true = refl
      never_both false = refl
