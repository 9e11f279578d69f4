-- The invariant of a store, and that placing a new tuple, commit and abort keep its parts.
use Rattle.basics.proofs.Kit.{◌≡◌, refl, sym, ap, ◌∙◌, subst, ap₂, true, false, ◌&&◌, not, List, [], ◌∷◌, ◌++◌, append-nil, ℕ, suc, ◌≤◌, ◌<◌, eqb, ltb, length, arith}
use Rattle.basics.specs.Basics.{is_in, keep, how_many, any, is_empty}
use Rattle.basics.proofs.Facts.{AllOf, by, lie}
use Rattle.block_forms.specs.Limits.{most_number}
use Rattle.block_forms.specs.Tuple.{Owner, committed, tentative, Tuple, is_tentative}
use Rattle.image_rows.specs.Rows.{Row, number, owner_after, statement_ok, mark_ok, starts_well, is_at, is_own, is_by, earlier_by, statement_is}
use Rattle.image.specs.Stages.{capacity_limit}
use Rattle.model.specs.State.{Store, idle}
use Rattle.model.specs.Sight.{held, rows, is_foreign}
use Rattle.model.specs.Transactions.{open_numbers, written_by}
use Rattle.basics.proofs.Elements.{Pairs, all_parts, pairs_insert, all_two, all_map, all_insert, length_insert, lt_false, and_no, many_ext, le_true, and_yes, many_insert, eqb_self}
use Rattle.basics.proofs.Elements.{keep_append, keep_cons, keep_none, keep_past, any_keep}
use Rattle.model.proofs.Frozen.{images}
use Rattle.model.proofs.Sound.{PageOk}
use Rattle.model.proofs.Rows.{Differ, Alike, Sub, sub_pairs, sub_all, sub_length}
use Rattle.model.proofs.Placing.{Before, NotAbove, Above}
use Rattle.model.proofs.RowAfter.{With, differ_alike, at_split}

-- ---- the invariant

-- of the tuples held, pending or not
pub record HeldOk (cap nx : ℕ) (rs : List Row) : Type 0 where
  pub rising : Pairs Before rs
  pub differ : Pairs Differ rs
  pub known : AllOf (λ r. (r.1.number < nx) × (r.0 ≤ 7)) rs
  pub few : length rs ≤ cap

-- b may stand behind a: a newer version of a key is tentative, and of the transaction of an older tentative one
abbrev pub Chain : Row → Row → Type 0
Chain a b = With b a ≡ true → owner_after a.1.owner b.1.owner ≡ true

abbrev pub Opened : List ℕ → Owner → Type 0
Opened os committed = Unit {0}
Opened os (tentative t s) = is_in t os ≡ true

-- of the live rows
pub record LiveOk (os : List ℕ) (rs : List Row) : Type 0 where
  pub chain : Pairs Chain rs
  pub counted : AllOf (λ r. statement_ok rs r ≡ true) rs
  pub marked : AllOf (λ r. mark_ok r ≡ true) rs
  pub heads : (t k : ℕ) → starts_well (keep (is_at t k) rs) ≡ true
  pub open' : AllOf (λ r. Opened os r.1.owner) rs

pub record Valid (s : Store) : Type 0 where
  pub pages : AllOf PageOk s.pages
  pub still : s.checkpoint ≡ idle → images s.pages ≡ []
  pub has : HeldOk s.capacity s.next (held s.pages)
  pub sees : LiveOk (open_numbers s.active) (rows s.pages)
  pub opened : length s.active ≤ 64
  pub nx : s.next ≤ most_number
  pub cap : s.capacity ≤ capacity_limit

-- the counts of the open transactions are right
abbrev pub Counted : Store → Type 0
Counted s = (tx : ℕ) → is_in tx (open_numbers s.active) ≡ true → written_by tx s.active ≡ how_many (is_own tx) (rows s.pages)

-- ---- what is held: fewer rows

pub before_alike : (a b c d : Row) → Alike a b → Alike c d → Before b d → Before a c
before_alike a b c d e f h = (
  omega (arith, h.0, e.0, f.0),
  λ u. let v = h.1
      (omega (arith, e.0, f.0)) in (omega (arith, v.0, e.1, f.1), λ w. let z = v.1 (omega (arith, e.1, f.1)) in omega (arith, e.2, f.2)),
)

pub held_sub : (cap nx : ℕ) {a b : List Row} → Sub a b → HeldOk cap nx b → HeldOk cap nx a
held_sub cap nx s h = record {
  rising = sub_pairs Before before_alike s h.rising;
  differ = sub_pairs Differ differ_alike s h.differ;
  known = sub_all _ _ (λ a b e k. (omega (arith, e.2, k.0), omega (arith, e.0, k.1))) s h.known;
  few = let l = sub_length s in omega (arith, h.few);
}

-- ---- one row more

module _ (t k nx : ℕ) (low high : List Row) (below : AllOf (NotAbove t k) low) (above : AllOf (Above t k) high) where
  pub held_insert : (cap : ℕ) (y : Tuple) → y.key ≡ k → y.number ≡ nx → t ≤ 7 → suc (length (low ++ high)) ≤ cap → HeldOk cap nx (low ++ high)
      → HeldOk cap (suc nx) (low ++ (t, y) ∷ high)
  held_insert cap y ek en lt room h =
      let kn = all_parts (λ r. (r.1.number < nx) × (r.0 ≤ 7)) low high h.known in
      record {
        rising = pairs_insert Before low (t, y) high h.rising
            (all_two (NotAbove t k) (λ r. (r.1.number < nx) × (r.0 ≤ 7)) (λ r. Before r (t, y))
            (λ r u v. (u.0, λ w. let z = u.1 w in (omega arith, λ q. omega (arith, v.0)))) low below kn.0)
            (all_map (Above t k) (Before (t, y)) (λ r u. (u.0, λ w. let z = u.1 w in (omega arith, λ q. absurd (omega arith)))) high above);
        differ = pairs_insert Differ low (t, y) high h.differ
            (all_map _ (λ r. Differ r (t, y)) (λ r v e. absurd (omega (arith, v.0, e))) low kn.0)
            (all_map _ (Differ (t, y)) (λ r v e. absurd (omega (arith, v.0, e))) high kn.1);
        known = all_insert (λ r. (r.1.number < suc nx) × (r.0 ≤ 7)) low (t, y) high
            (all_map _ _ (λ r v. (omega (arith, v.0), v.1)) (low ++ high) h.known) (omega arith, lt);
        few = rw (length_insert low (t, y) high) room;
      }

-- an own row behind one that is not foreign
native_after : (tx s : ℕ) (o : Owner) → (is_tentative o && not (is_by tx o)) ≡ false → owner_after o (tentative tx s) ≡ true
unfolding owner_after is_tentative is_by
native_after tx s committed h = refl
native_after tx s (tentative u v) h = by (eqb u tx) (λ k. k) (λ k. lie (sym (rw k at h)))

pub above_off : (t k : ℕ) (r : Row) → Above t k r → is_at t k r ≡ false
above_off t k r h = by (is_at t k r) (λ e. let s = at_split t k r e in let z = h.1 (omega (arith, s.0)) in absurd (omega (arith, s.1))) (λ e. e)

starts_snoc : (rs : List Row) (x : Row) → starts_well rs ≡ true → (is_empty rs ≡ true → x.1.mark ≡ false) → starts_well (rs ++ x ∷ []) ≡ true
unfolding starts_well is_empty
starts_snoc [] x h e = rw (e refl)
starts_snoc (r ∷ rs) x h e = h

same_count : (rs qs : List Row) (n : ℕ) (o : Owner) → ((u : ℕ) → how_many (earlier_by u n) qs ≡ how_many (earlier_by u n) rs) → statement_is rs n o ≡ true
    → statement_is qs n o ≡ true
unfolding statement_is
same_count rs qs n committed e h = h
same_count rs qs n (tentative u s) e h = rw (e u) h

module _ (t tx : ℕ) (x : Tuple) (low high : List Row) (below : AllOf (NotAbove t x.key) low) (above : AllOf (Above t x.key) high)
    (nums : AllOf (λ r. r.1.number < x.number) (low ++ high)) (own : x.owner ≡ tentative tx (how_many (is_own tx) (low ++ high))) where
  new_late : (u n : ℕ) → n < x.number → earlier_by u n (t, x) ≡ false
  unfolding earlier_by number
  new_late u n h = rw (lt_false x.number n (omega arith)) (and_no (is_own u (t, x)))

  new_self : (u : ℕ) → earlier_by u x.number (t, x) ≡ false
  unfolding earlier_by number
  new_self u = rw (lt_false x.number x.number (omega arith)) (and_no (is_own u (t, x)))

  all_earlier : how_many (earlier_by tx x.number) (low ++ high) ≡ how_many (is_own tx) (low ++ high)
  unfolding earlier_by number
  all_earlier = many_ext _ _ (low ++ high)
      (all_map (λ r. r.1.number < x.number) (λ r. (is_own tx r && ltb r.1.number x.number) ≡ is_own tx r)
      (λ r h. rw (le_true (suc r.1.number) x.number h) (and_yes (is_own tx r))) (low ++ high) nums)

  new_counted : (o : Owner) → o ≡ tentative tx (how_many (is_own tx) (low ++ high)) → statement_is (low ++ (t, x) ∷ high) x.number o ≡ true
  unfolding statement_is
  new_counted o e = rw (e, many_insert (earlier_by tx x.number) low (t, x) high (new_self tx), all_earlier, eqb_self (how_many (is_own tx) (low ++ high)))

  keep_new : (t' k' : ℕ) → is_at t' k' (t, x) ≡ true → keep (is_at t' k') (low ++ (t, x) ∷ high) ≡ keep (is_at t' k') low ++ (t, x) ∷ []
  keep_new t' k' h =
      let s = at_split t' k' (t, x) h in
      let off : AllOf (λ r. is_at t' k' r ≡ false) high = all_map (Above t x.key) (λ r. is_at t' k' r ≡ false)
      (λ r u. ap₂ (λ a b. is_at a b r) (sym s.0) (sym s.1) ∙ above_off t x.key r u) high above in
      keep_append (is_at t' k') low ((t, x) ∷ high)
      ∙ ap (λ z. keep (is_at t' k') low ++ z) (keep_cons (is_at t' k') (t, x) high h ∙ ap (λ z. (t, x) ∷ z) (keep_none (is_at t' k') high off))

  keep_old : (t' k' : ℕ) → is_at t' k' (t, x) ≡ true → keep (is_at t' k') (low ++ high) ≡ keep (is_at t' k') low
  keep_old t' k' h =
      let s = at_split t' k' (t, x) h in
      let off : AllOf (λ r. is_at t' k' r ≡ false) high = all_map (Above t x.key) (λ r. is_at t' k' r ≡ false)
      (λ r u. ap₂ (λ a b. is_at a b r) (sym s.0) (sym s.1) ∙ above_off t x.key r u) high above in
      keep_append (is_at t' k') low high ∙ ap (λ z. keep (is_at t' k') low ++ z) (keep_none (is_at t' k') high off) ∙ append-nil _

  keep_off : (t' k' : ℕ) → is_at t' k' (t, x) ≡ false → keep (is_at t' k') (low ++ (t, x) ∷ high) ≡ keep (is_at t' k') (low ++ high)
  keep_off t' k' h = keep_append (is_at t' k') low ((t, x) ∷ high) ∙ ap (λ z. keep (is_at t' k') low ++ z) (keep_past (is_at t' k') (t, x) high h)
      ∙ sym (keep_append (is_at t' k') low high)

  new_heads : ((t' k' : ℕ) → starts_well (keep (is_at t' k') (low ++ high)) ≡ true)
      → (is_empty (keep (is_at t x.key) (low ++ high)) ≡ true → x.mark ≡ false) → (t' k' : ℕ)
      → starts_well (keep (is_at t' k') (low ++ (t, x) ∷ high)) ≡ true
  new_heads hs first t' k' =
      by (is_at t' k' (t, x))
      (λ h. let s = at_split t' k' (t, x) h in
      subst (λ z. starts_well z ≡ true) (sym (keep_new t' k' h))
      (starts_snoc (keep (is_at t' k') low) (t, x) (subst (λ z. starts_well z ≡ true) (keep_old t' k' h) (hs t' k'))
      (λ e. first (ap₂ (λ a b. is_empty (keep (is_at a b) (low ++ high))) s.0 s.1 ∙ ap is_empty (keep_old t' k' h) ∙ e))))
      (λ h. subst (λ z. starts_well z ≡ true) (sym (keep_off t' k' h)) (hs t' k'))

  new_open : (os : List ℕ) → is_in tx os ≡ true → (o : Owner) → o ≡ tentative tx (how_many (is_own tx) (low ++ high)) → Opened os o
  new_open os i o e = subst (Opened os) (sym e) i

  pub live_insert : (os : List ℕ) → is_in tx os ≡ true → mark_ok (t, x) ≡ true → any (is_foreign tx) (keep (is_at t x.key) (low ++ high)) ≡ false
      → (is_empty (keep (is_at t x.key) (low ++ high)) ≡ true → x.mark ≡ false) → LiveOk os (low ++ high) → LiveOk os (low ++ (t, x) ∷ high)
  unfolding is_foreign statement_ok number
  live_insert os i m nf first h =
      let nat = all_parts (λ r. is_at t x.key r ≡ true → is_foreign tx r ≡ false) low high (any_keep (is_foreign tx) (is_at t x.key) (low ++ high) nf) in
      record {
        chain = pairs_insert Chain low (t, x) high h.chain
            (all_map (λ r. is_at t x.key r ≡ true → is_foreign tx r ≡ false) (λ r. Chain r (t, x))
            (λ r f u. subst (λ o. owner_after r.1.owner o ≡ true) (sym own) (native_after tx _ r.1.owner (f u))) low nat.0)
            (all_map (Above t x.key) (Chain (t, x))
            (λ r u v. let s = at_split r.0 r.1.key (t, x) v in let z = u.1 (omega (arith, s.0)) in absurd (omega (arith, s.1))) high above);
        counted = all_insert (λ r. statement_is (low ++ (t, x) ∷ high) r.1.number r.1.owner ≡ true) low (t, x) high
            (all_two (λ r. r.1.number < x.number) (λ r. statement_is (low ++ high) r.1.number r.1.owner ≡ true)
            (λ r. statement_is (low ++ (t, x) ∷ high) r.1.number r.1.owner ≡ true)
            (λ r n c. same_count (low ++ high) (low ++ (t, x) ∷ high) r.1.number r.1.owner
            (λ u. many_insert (earlier_by u r.1.number) low (t, x) high (new_late u r.1.number n)) c) (low ++ high) nums h.counted)
            (new_counted x.owner own);
        marked = all_insert _ low (t, x) high h.marked m;
        heads = new_heads h.heads first;
        open' = all_insert _ low (t, x) high h.open' (new_open os i x.owner own);
      }
