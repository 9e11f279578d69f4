-- What is known of the element that a search finds, and of those that it passes.
use Rattle.basics.proofs.Kit.{◌≡◌, sym, ap, ◌∙◌, Bool, true, false, cond, List, [], ◌∷◌, ℕ, suc, ◌≤◌, ◌<◌, zero, zero-le, suc-le-suc, le_of_suc-le-suc, not-suc-le-zero, length, get_or, arith}
use Rattle.basics.proofs.Facts.{by}
use Rattle.basics.specs.Lists.{first_index, last_index}
use Rattle.basics.proofs.Kit.{⊎_elim, ◌-◌}
use Rattle.basics.proofs.Tabs.{lt_or_ge}
use Rattle.basics.proofs.Facts.{lie}

module _ {A : Type 0} (f : A → Bool) (d : A) where
  pub first_most : (xs : List A) → first_index f xs ≤ length xs
  unfolding first_index
  first_most [] = zero-le
  first_most (x ∷ xs) = by (f x) (λ h. rw h zero-le) (λ h. rw h (suc-le-suc (first_most xs)))

  -- the element that is found passes
  pub first_at : (xs : List A) → first_index f xs < length xs → f (get_or xs (first_index f xs) d) ≡ true
  unfolding first_index
  first_at [] b = absurd (not-suc-le-zero b)
  first_at (x ∷ xs) b =
      by (f x) (λ h. ap (λ (t : Bool). f (get_or (x ∷ xs) (cond t 0 (suc (first_index f xs))) d)) h ∙ h)
      (λ h. ap (λ (t : Bool). f (get_or (x ∷ xs) (cond t 0 (suc (first_index f xs))) d)) h ∙ first_at xs (le_of_suc-le-suc (rw h at b)))

  -- none before it does
  pub first_before : (xs : List A) (k : ℕ) → k < first_index f xs → f (get_or xs k d) ≡ false
  unfolding first_index
  first_before [] k b = absurd (not-suc-le-zero b)
  first_before (x ∷ xs) zero b = by (f x) (λ h. absurd (not-suc-le-zero (rw h at b))) (λ h. h)
  first_before (x ∷ xs) (suc k) b = by (f x) (λ h. absurd (not-suc-le-zero (rw h at b))) (λ h. first_before xs k (le_of_suc-le-suc (rw h at b)))

  pub last_most : (xs : List A) → last_index f xs ≤ length xs
  unfolding last_index
  last_most [] = zero-le
  last_most (x ∷ xs) = step (f x) (last_index f xs) (last_most xs)
    where
      step : (t : Bool) (k : ℕ) → k ≤ length xs → elim k [ zero ↦ cond t 1 0 | suc j ↦ suc (suc j) ] ≤ suc (length xs)
      step true zero h = suc-le-suc zero-le
      step false zero h = zero-le
      step t (suc j) h = suc-le-suc h

  -- the element that is found passes
  pub last_at : (xs : List A) (k : ℕ) → last_index f xs ≡ suc k → f (get_or xs k d) ≡ true
  unfolding last_index
  last_at [] k e = absurd (omega arith)
  last_at (x ∷ xs) k e = step (last_index f xs) (last_at xs) k e
    where
      step : (r : ℕ) → ((j : ℕ) → r ≡ suc j → f (get_or xs j d) ≡ true) → (j : ℕ) → elim r [ zero ↦ cond (f x) 1 0 | suc i ↦ suc (suc i) ] ≡ suc j → f (get_or (x ∷ xs) j d) ≡ true
      step zero q zero p = by (f x) (λ h. h) (λ h. absurd (omega (arith, rw h at p)))
      step zero q (suc j) p = absurd (by (f x) (λ h. omega (arith, rw h at p)) (λ h. omega (arith, rw h at p)))
      step (suc r) q zero p = absurd (omega arith)
      step (suc r) q (suc j) p = q j (omega arith)

  -- none behind it does
  pub last_behind : (xs : List A) (k : ℕ) → last_index f xs ≤ k → k < length xs → f (get_or xs k d) ≡ false
  unfolding last_index
  last_behind [] k b h = absurd (not-suc-le-zero h)
  last_behind (x ∷ xs) k b h = step (last_index f xs) (last_behind xs) k b h
    where
      step : (r : ℕ) → ((j : ℕ) → r ≤ j → j < length xs → f (get_or xs j d) ≡ false) → (j : ℕ)
          → elim r [ zero ↦ cond (f x) 1 0 | suc i ↦ suc (suc i) ] ≤ j → j < suc (length xs) → f (get_or (x ∷ xs) j d) ≡ false
      step zero q zero p l = by (f x) (λ t. absurd (not-suc-le-zero (rw t at p))) (λ t. t)
      step zero q (suc j) p l = q j (omega arith) (le_of_suc-le-suc l)
      step (suc r) q zero p l = absurd (not-suc-le-zero p)
      step (suc r) q (suc j) p l = q j (omega arith) (le_of_suc-le-suc l)

-- the first that passes is at r: none before it passes, and it does, if it is there
pub first_is : {A : Type 0} (f : A → Bool) (d : A) (xs : List A) (r : ℕ) → r ≤ length xs → ((p : ℕ) → p < r → f (get_or xs p d) ≡ false)
    → (r < length xs → f (get_or xs r d) ≡ true) → first_index f xs ≡ r
first_is f d xs r h below here =
    ⊎_elim
    (λ a. lie (sym (below (first_index f xs) a) ∙ first_at f d xs (omega arith)))
    (λ a. ⊎_elim
    (λ b. lie (sym (first_before f d xs r b) ∙ here (omega (arith, first_most f d xs))))
    (λ b. omega arith)
    (lt_or_ge r (first_index f xs)))
    (lt_or_ge (first_index f xs) r)

-- the last that passes is before n: it does, if it is there, and none from n on does
pub last_is : {A : Type 0} (f : A → Bool) (d : A) (xs : List A) (n : ℕ) → n ≤ length xs → (0 < n → f (get_or xs (n - 1) d) ≡ true)
    → ((i : ℕ) → n ≤ i → i < length xs → f (get_or xs i d) ≡ false) → last_index f xs ≡ n
last_is f d xs n l here behind =
    ⊎_elim
    (λ a. lie (sym (last_behind f d xs (n - 1) (omega arith) (omega arith)) ∙ here (omega arith)))
    (λ a. ⊎_elim
    (λ b. let k : ℕ = last_index f xs - 1 in
    let e : last_index f xs ≡ suc k = omega arith in
    lie (sym (behind k (omega arith) (omega (arith, last_most f d xs))) ∙ last_at f d xs k e))
    (λ b. omega arith)
    (lt_or_ge n (last_index f xs)))
    (lt_or_ge (last_index f xs) n)
