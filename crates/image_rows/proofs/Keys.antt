-- Numbers as keys: each is there once as a key if it is there once as a number.
use Rattle.basics.proofs.Kit.{◌≡◌, sym, ap, ◌∙◌, true, false, List, ℕ, suc, ◌+◌, ◌<◌, ◌-◌, eqb, length, get_or, set, get_or-set_same, get_or-set_other}
use Rattle.basics.proofs.Kit.{eqb-true, eq-eqb, eqb-false, arith}
use Rattle.basics.specs.Basics.{distinct}
use Rattle.basics.proofs.Facts.{by, lie}
use Rattle.image_rows.specs.Chains.{last_by, is_new, keys_once}
use Rattle.image_rows.proofs.Chains.{last_le, last_passes, last_there}
use Rattle.basics.proofs.Searches.{all_tab, tab_all}
use Rattle.basics.proofs.Members.{distinct_in, distinct_out}

-- ---- keys that are there once, by index

module _ (xs : List ℕ) (n : ℕ) where
  new_in : (k : ℕ) → ((j : ℕ) → j < k → get_or xs j 0 ≡ get_or xs k 0 → get_or xs k 0 ≡ 0) → is_new xs k ≡ true
  unfolding is_new
  new_in k w =
      by (eqb (get_or xs k 0) 0)
      (λ t. rw t)
      (λ t. rw t (by (eqb (last_by (eqb (get_or xs k 0)) xs k) 0) (λ u. u) (λ u. absurd (there t (eqb-false _ _ u)))))
    where
      there : eqb (get_or xs k 0) 0 ≡ false → (last_by (eqb (get_or xs k 0)) xs k ≡ 0 → ⊥) → ⊥
      there t u =
          let f = eqb (get_or xs k 0) in
          let j = last_by f xs k - 1 in
          let e : last_by f xs k ≡ suc j = omega arith in
          eqb-false _ _ t (w j (omega (arith, last_le f xs k)) (sym (eqb-true _ _ (last_passes f xs k j e))))

  pub once_in : ((j k : ℕ) → j < k → k < n → get_or xs j 0 ≡ get_or xs k 0 → get_or xs k 0 ≡ 0) → keys_once xs n ≡ true
  unfolding keys_once
  once_in w = all_tab (is_new xs) (λ i. i) 0 n (λ k a b. new_in k (λ j l. w j k l (omega arith)))

  new_out : (j k : ℕ) → is_new xs k ≡ true → j < k → get_or xs j 0 ≡ get_or xs k 0 → get_or xs k 0 ≡ 0
  unfolding is_new
  new_out j k e l q =
      by (eqb (get_or xs k 0) 0)
      (λ t. eqb-true _ _ t)
      (λ t. let z : last_by (eqb (get_or xs k 0)) xs k ≡ 0 = eqb-true _ _ (rw t at e) in absurd (omega (arith, last_there (eqb (get_or xs k 0)) xs k j l (eq-eqb _ _ (sym q)))))

  pub once_out : keys_once xs n ≡ true → (j k : ℕ) → j < k → k < n → get_or xs j 0 ≡ get_or xs k 0 → get_or xs k 0 ≡ 0
  unfolding keys_once
  once_out e j k l h = new_out j k (tab_all (is_new xs) (λ i. i) 0 n e k (omega arith) (omega arith)) l

-- ---- numbers as keys

-- one more key stored
pub one_key : (keys s : List ℕ) {i : ℕ} → ((k : ℕ) → k < i → get_or keys k 0 ≡ get_or s k 0 + 1) → i < length keys → {w : ℕ} → w ≡ get_or s i 0 + 1
    → (k : ℕ) → k < i + 1 → get_or (set keys i w) k 0 ≡ get_or s k 0 + 1
one_key keys s {i} old h {w} e k b =
    by (eqb k i)
    (λ t. let z = eqb-true k i t in rw z (get_or-set_same keys i w 0 h ∙ e))
    (λ t. let z = eqb-false k i t in get_or-set_other keys i k w 0 z ∙ old k (omega arith))

pub keys_distinct : (keys s : List ℕ) → ((k : ℕ) → k < length s → get_or keys k 0 ≡ get_or s k 0 + 1) → keys_once keys (length s) ≡ distinct s
keys_distinct keys s w =
    by (distinct s)
    (λ t. rw t (once_in keys (length s) (λ j k l h q. absurd (distinct_out s t j k l h (omega (arith, w j (omega arith), w k h))))))
    (λ t. rw t (by (keys_once keys (length s))
    (λ u. lie (sym t ∙ distinct_in s (λ j k l h q. omega (arith, w k h, once_out keys (length s) u j k l h (w j (omega arith) ∙ ap (λ v. v + 1) q ∙ sym (w k h))))))
    (λ u. u)))
