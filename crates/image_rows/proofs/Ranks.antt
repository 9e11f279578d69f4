-- Statements by rising number: where each code is there once, and each statement but 0 has the one before it at a lower number, a row's statement is
-- how many rows its transaction wrote before; and the other way round.
use Rattle.basics.proofs.Kit.{◌≡◌, refl, sym, ap, ◌∙◌, Bool, true, ◌&&◌, not, List, ℕ, suc, ◌+◌, ◌%◌, ◌≤◌, ◌<◌, zero, ◌/◌, ◌-◌, eqb, ltb, get_or, lt-ltb, le-ltb, eqb-true, eq-eqb, ne_eqb}
use Rattle.basics.proofs.Kit.{eqb-false, not-true, arith}
use Rattle.basics.proofs.Facts.{by, and_true, one_most}
use Rattle.basics.specs.Basics.{one_if}
use Rattle.basics.proofs.Members.{compared}
use Rattle.block_forms.specs.Limits.{statement_limit}
use Rattle.image_rows.proofs.Totals.{total, bit_true, bit_suc, bit_none, bit_below, total_le, total_same, total_sum, total_none, total_some}
use Rattle.image_rows.proofs.Totals.{total_find, total_one}

-- transaction and statement of a code
abbrev pub tx_of : ℕ → ℕ
tx_of o = (o - 1) / statement_limit

abbrev pub st_of : ℕ → ℕ
st_of o = (o - 1) % statement_limit

-- a code of transaction t
unfoldable pub own : ℕ → ℕ → Bool
own t o = not (eqb o 0) && eqb (tx_of o) t

pub own_in : (t o : ℕ) → (o ≡ 0 → ⊥) → tx_of o ≡ t → own t o ≡ true
unfolding own
own_in t o z e = rw (ne_eqb _ _ z, eq-eqb _ _ e)

pub own_out : (t o : ℕ) → own t o ≡ true → (o ≡ 0 → ⊥) × (tx_of o ≡ t)
unfolding own
own_out t o e =
    let w = and_true (not (eqb o 0)) (eqb (tx_of o) t) e in (eqb-false o 0 (not-true _ w.0), eqb-true (tx_of o) t w.1)

same_code : (o p : ℕ) → (o ≡ 0 → ⊥) → (p ≡ 0 → ⊥) → tx_of o ≡ tx_of p → st_of o ≡ st_of p → o ≡ p
same_code o p a b d e = omega arith

module _ (os ns : List ℕ) (n : ℕ) where
  -- how many rows of t have a number below m; number m; a statement below c; statement c
  unfoldable pub rank : ℕ → ℕ → ℕ
  rank t m = total (λ k. one_if (own t (get_or os k 0) && ltb (get_or ns k 0) m)) n

  unfoldable numbered : ℕ → ℕ → ℕ
  numbered t m = total (λ k. one_if (own t (get_or os k 0) && eqb (get_or ns k 0) m)) n

  unfoldable lowest : ℕ → ℕ → ℕ
  lowest t c = total (λ k. one_if (own t (get_or os k 0) && ltb (st_of (get_or os k 0)) c)) n

  unfoldable pub placed : ℕ → ℕ → ℕ
  placed t c = total (λ k. one_if (own t (get_or os k 0) && eqb (st_of (get_or os k 0)) c)) n

  -- a row with this code
  pub record Coded (o : ℕ) : Type 0 where
    pub row : ℕ
    pub there : row < n
    pub code : get_or os row 0 ≡ o

  -- the row of the statement before row k's, at a lower number
  pub record Before (k : ℕ) : Type 0 where
    pub row : ℕ
    pub there : row < n
    pub code : get_or os row 0 ≡ get_or os k 0 - 1
    pub lower : get_or ns row 0 < get_or ns k 0

  pub record Ordered : Type 0 where
    pub once : (j k : ℕ) → j < k → k < n → get_or os j 0 ≡ get_or os k 0 → get_or os k 0 ≡ 0
    pub before : (k : ℕ) → k < n → (st_of (get_or os k 0) ≡ 0 → ⊥) → Before k

  -- the statement of each row is its rank
  abbrev pub Ranked : Type 0
  Ranked = (k : ℕ) → k < n → (get_or os k 0 ≡ 0 → ⊥) → st_of (get_or os k 0) ≡ rank (tx_of (get_or os k 0)) (get_or ns k 0)

  -- ---- ranks

  rank_none : (t : ℕ) → rank t 0 ≡ 0
  unfolding rank
  rank_none t = total_none _ n (λ k l. bit_none (own t (get_or os k 0)) (get_or ns k 0))

  rank_suc : (t m : ℕ) → rank t (suc m) ≡ rank t m + numbered t m
  unfolding rank numbered
  rank_suc t m = total_sum _ _ _ n (λ k l. bit_suc (own t (get_or os k 0)) (get_or ns k 0) m)

  rank_le : (t l m : ℕ) → l ≤ m → rank t l ≤ rank t m
  unfolding rank
  rank_le t l m h = total_le _ _ n (λ k d. bit_below (own t (get_or os k 0)) (get_or ns k 0) l m h)

  numbered_some : (t k : ℕ) → k < n → own t (get_or os k 0) ≡ true → 1 ≤ numbered t (get_or ns k 0)
  unfolding numbered
  numbered_some t k l w = total_some _ n k l (rw (w, eq-eqb (get_or ns k 0) (get_or ns k 0) refl) (omega arith))

  numbered_find : {X : Type 0} (t m : ℕ) → 1 ≤ numbered t m → ((k : ℕ) → k < n → own t (get_or os k 0) ≡ true → get_or ns k 0 ≡ m → X) → X
  unfolding numbered
  numbered_find t m h f =
      total_find _ n h (λ k l a. let b = and_true (own t (get_or os k 0)) (eqb (get_or ns k 0) m) (bit_true _ a) in f k l b.0 (eqb-true _ _ b.1))

  -- a row that comes later has a higher rank
  rank_less : (t k m : ℕ) → k < n → own t (get_or os k 0) ≡ true → get_or ns k 0 < m → rank t (get_or ns k 0) < rank t m
  rank_less t k m l w h = omega (arith, rank_suc t (get_or ns k 0), numbered_some t k l w, rank_le t (suc (get_or ns k 0)) m (omega arith))

  placed_some : (t c k : ℕ) → k < n → own t (get_or os k 0) ≡ true → st_of (get_or os k 0) ≡ c → 1 ≤ placed t c
  unfolding placed
  placed_some t c k l w e = total_some _ n k l (rw (w, eq-eqb _ _ e) (omega arith))

  -- ---- from ranks to order

  module _ (apart : (j k : ℕ) → j < k → k < n → get_or ns j 0 ≡ get_or ns k 0 → ⊥) where
    numbered_most : (t m : ℕ) → numbered t m ≤ 1
    unfolding numbered
    numbered_most t m =
        total_one _ n (λ k. one_most (own t (get_or os k 0) && eqb (get_or ns k 0) m))
        (λ j k l h a b. apart j k l h (at j a ∙ sym (at k b)))
      where
        at : (k : ℕ) → 1 ≤ one_if (own t (get_or os k 0) && eqb (get_or ns k 0) m) → get_or ns k 0 ≡ m
        at k a = eqb-true _ _ (and_true (own t (get_or os k 0)) (eqb (get_or ns k 0) m) (bit_true _ a)).1

    -- below a number of rank r + 1 is a row of rank r
    ranked_before : {X : Type 0} (t r m : ℕ) → rank t m ≡ suc r
        → ((k : ℕ) → k < n → own t (get_or os k 0) ≡ true → get_or ns k 0 < m → rank t (get_or ns k 0) ≡ r → X) → X
    ranked_before t r zero e f = absurd (omega (arith, rank_none t))
    ranked_before t r (suc m) e f =
        by (eqb (numbered t m) 0)
        (λ u. ranked_before t r m (omega (arith, rank_suc t m, eqb-true (numbered t m) 0 u)) (λ k l w h. f k l w (omega arith)))
        (λ u. let z = eqb-false (numbered t m) 0 u in let q : rank t m ≡ r = omega (arith, rank_suc t m, numbered_most t m) in
        numbered_find t m (omega arith) (λ k l w v. f k l w (omega arith) (ap (rank t) v ∙ q)))

    module _ (ranked : Ranked) where
      ranked_once : (j k : ℕ) → j < k → k < n → get_or os j 0 ≡ get_or os k 0 → get_or os k 0 ≡ 0
      ranked_once j k l h e =
          by (eqb (get_or os k 0) 0)
          (λ u. eqb-true _ _ u)
          (λ u. let z = eqb-false (get_or os k 0) 0 u in
          let t = tx_of (get_or os k 0) in
          let own = sym (ranked j (omega arith) (λ q. z (sym e ∙ q))) in
          let a : rank t (get_or ns j 0) ≡ rank t (get_or ns k 0) = ap (λ o. rank (tx_of o) (get_or ns j 0)) (sym e) ∙ own ∙ ap st_of e ∙ ranked k h z in
          compared (get_or ns j 0) (get_or ns k 0)
          (λ m. absurd (omega (arith, rank_less t j (get_or ns k 0) (omega arith) (own_in t (get_or os j 0) (λ q. z (sym e ∙ q)) (ap tx_of e)) m)))
          (λ m. absurd (apart j k l h m))
          (λ m. absurd (omega (arith, rank_less t k (get_or ns j 0) h (own_in t (get_or os k 0) z refl) m))))

      ranked_prior : (k : ℕ) → k < n → (st_of (get_or os k 0) ≡ 0 → ⊥) → Before k
      ranked_prior k l s =
          let o = get_or os k 0 in
          let z : o ≡ 0 → ⊥ = λ q. s (ap st_of q) in
          let e = ranked k l z in
          ranked_before (tx_of o) (st_of o - 1) (get_or ns k 0) (sym e ∙ before_one s) (λ p h w m r.
          let y = own_out (tx_of o) (get_or os p 0) w in
          let x = ranked p h y.0 ∙ ap (λ t. rank t (get_or ns p 0)) y.1 ∙ r in
          record { row = p; there = h; code = one_less o (get_or os p 0) y.0 y.1 x s; lower = m })
        where
          before_one : {s : ℕ} → (s ≡ 0 → ⊥) → s ≡ suc (s - 1)
          before_one h = omega arith

          one_less : (o p : ℕ) → (p ≡ 0 → ⊥) → tx_of p ≡ tx_of o → st_of p ≡ st_of o - 1 → (st_of o ≡ 0 → ⊥) → p ≡ o - 1
          one_less o p a b d f = omega arith

      pub ranked_ordered : Ordered
      ranked_ordered = record { once = ranked_once; before = ranked_prior }

  -- ---- from order to ranks

  module _ (ordered : Ordered) where
    pub same_row : (j k : ℕ) → j < n → k < n → (get_or os k 0 ≡ 0 → ⊥) → get_or os j 0 ≡ get_or os k 0 → get_or ns j 0 ≡ get_or ns k 0
    same_row j k h l z e =
        compared j k
        (λ m. absurd (z (ordered.once j k m l e)))
        (λ m. ap (λ i. get_or ns i 0) m)
        (λ m. absurd (z (sym e ∙ ordered.once k j m h (sym e))))

    -- a later statement of a transaction has a higher number
    rises : (d j k : ℕ) → j < n → k < n → (get_or os j 0 ≡ 0 → ⊥) → tx_of (get_or os k 0) ≡ tx_of (get_or os j 0) → get_or os k 0 ≡ get_or os j 0 + suc d
        → get_or ns j 0 < get_or ns k 0
    rises zero j k h l z e q =
        let b = ordered.before k l (λ f. omega arith) in
        omega (arith, b.lower, same_row b.row j b.there h z (omega (arith, b.code)))
    rises (suc d) j k h l z e q =
        let b = ordered.before k l (λ f. omega arith) in
        omega (arith, b.lower, rises d j b.row h b.there z (omega (arith, b.code)) (omega (arith, b.code)))

    -- each lower statement of a row's transaction is there
    pub lower_there : (d k : ℕ) → k < n → d ≤ st_of (get_or os k 0) → Coded (get_or os k 0 - d)
    lower_there zero k l h = record { row = k; there = l; code = omega arith }
    lower_there (suc d) k l h =
        let c = lower_there d k l (omega arith) in
        let b = ordered.before c.row c.there (λ f. omega (arith, c.code)) in
        record { row = b.row; there = b.there; code = omega (arith, b.code, c.code) }

    placed_most : (t c : ℕ) → placed t c ≤ 1
    unfolding placed
    placed_most t c =
        total_one _ n (λ k. one_most (own t (get_or os k 0) && eqb (st_of (get_or os k 0)) c)) (λ j k l h a b.
        let x = at j a in let y = at k b in y.0 (ordered.once j k l h (same_code (get_or os j 0) (get_or os k 0) x.0 y.0 (x.1.0 ∙ sym y.1.0) (x.1.1 ∙ sym y.1.1))))
      where
        at : (k : ℕ) → 1 ≤ one_if (own t (get_or os k 0) && eqb (st_of (get_or os k 0)) c) → (get_or os k 0 ≡ 0 → ⊥) × ((tx_of (get_or os k 0) ≡ t) × (st_of (get_or os k 0) ≡ c))
        at k a =
            let w = and_true (own t (get_or os k 0)) (eqb (st_of (get_or os k 0)) c) (bit_true _ a) in
            let v = own_out t (get_or os k 0) w.0 in (v.0, (v.1, eqb-true (st_of (get_or os k 0)) c w.1))

    -- one row has a statement that is not above a row's own
    pub placed_one : (k c : ℕ) → k < n → (get_or os k 0 ≡ 0 → ⊥) → c ≤ st_of (get_or os k 0) → placed (tx_of (get_or os k 0)) c ≡ 1
    placed_one k c l z h =
        let d = lower_there (st_of (get_or os k 0) - c) k l (omega arith) in
        let t = tx_of (get_or os k 0) in
        let w = own_in t (get_or os d.row 0) (λ e. omega (arith, d.code)) (omega (arith, d.code)) in
        omega (arith, placed_most t c, placed_some t c d.row d.there w (omega (arith, d.code)))

    lowest_all : (k : ℕ) → k < n → (get_or os k 0 ≡ 0 → ⊥) → (c : ℕ) → c ≤ st_of (get_or os k 0) → lowest (tx_of (get_or os k 0)) c ≡ c
    unfolding lowest placed
    lowest_all k l z zero h = total_none _ n (λ j m. bit_none (own (tx_of (get_or os k 0)) (get_or os j 0)) (st_of (get_or os j 0)))
    lowest_all k l z (suc c) h =
        total_sum _ _ _ n (λ j m. bit_suc (own (tx_of (get_or os k 0)) (get_or os j 0)) (st_of (get_or os j 0)) c)
        ∙ omega (arith, lowest_all k l z c (omega arith), placed_one k c l z (omega arith))

    -- for the rows of one transaction, lower statements are lower numbers
    pub ordered_ranked : Ranked
    unfolding rank lowest
    ordered_ranked k l z =
        let t = tx_of (get_or os k 0) in
        sym (total_same _ _ n (λ j h. by (own t (get_or os j 0)) (same j h) (λ u. rw u)) ∙ lowest_all k l z (st_of (get_or os k 0)) (omega arith))
      where
        same : (j : ℕ) → j < n → own (tx_of (get_or os k 0)) (get_or os j 0) ≡ true
            → one_if (own (tx_of (get_or os k 0)) (get_or os j 0) && ltb (get_or ns j 0) (get_or ns k 0))
            ≡ one_if (own (tx_of (get_or os k 0)) (get_or os j 0) && ltb (st_of (get_or os j 0)) (st_of (get_or os k 0)))
        same j h w =
            let x = own_out (tx_of (get_or os k 0)) (get_or os j 0) w in
            compared (st_of (get_or os j 0)) (st_of (get_or os k 0))
            (λ m. rw (w, lt-ltb _ _ m, lt-ltb _ _ (rises (st_of (get_or os k 0) - st_of (get_or os j 0) - 1) j k h l x.0 (sym x.1) (omega (arith, x.0, x.1)))))
            (λ m. rw (
              w,
              le-ltb (st_of (get_or os j 0)) (st_of (get_or os k 0)) (omega arith),
              le-ltb (get_or ns j 0) (get_or ns k 0)
                  (omega (arith, same_row j k h l z (same_code (get_or os j 0) (get_or os k 0) x.0 z x.1 m))),
            ))
            (λ m. rw (
              w,
              le-ltb (st_of (get_or os j 0)) (st_of (get_or os k 0)) (omega arith),
              le-ltb (get_or ns j 0) (get_or ns k 0)
                  (omega (arith, rises (st_of (get_or os j 0) - st_of (get_or os k 0) - 1) k j l h z x.1 (omega (arith, x.0, x.1)))),
            ))
