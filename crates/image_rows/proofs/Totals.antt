-- Sums over the first n indices.
use Rattle.basics.proofs.Kit.{◌≡◌, refl, ap, Bool, true, false, ◌&&◌, ℕ, suc, ◌+◌, ◌≤◌, ◌<◌, zero, eqb, ltb, lt-ltb, le-ltb, eqb-true, eq-eqb, ne_eqb, eqb-false, ltb-true}
use Rattle.basics.proofs.Kit.{ltb-false, arith}
use Rattle.basics.specs.Basics.{if'◌then◌else◌, how_many, one_if}
use Rattle.basics.proofs.Facts.{by}
use Rattle.basics.specs.Lists.{tab}
use Rattle.basics.proofs.Members.{compared}

-- w 0 + .. + w (n - 1)
unfoldable pub total : (ℕ → ℕ) → ℕ → ℕ
total w zero = 0
total w (suc n) = w n + total w n

pub bit_true : (b : Bool) → 1 ≤ one_if b → b ≡ true
bit_true true h = refl
bit_true false h = absurd (omega arith)

-- below m + 1 is below m or m
pub bit_suc : (b : Bool) (x m : ℕ) → one_if (b && ltb x (suc m)) ≡ one_if (b && ltb x m) + one_if (b && eqb x m)
bit_suc false x m = refl
bit_suc true x m =
    compared x m
    (λ l. rw (lt-ltb x (suc m) (omega arith), lt-ltb x m l, ne_eqb x m (λ e. omega arith)))
    (λ e. rw (lt-ltb x (suc m) (omega arith), le-ltb x m (omega arith), eq-eqb x m e))
    (λ l. rw (le-ltb x (suc m) (omega arith), le-ltb x m (omega arith), ne_eqb x m (λ e. omega arith)))

pub bit_none : (b : Bool) (x : ℕ) → one_if (b && ltb x 0) ≡ 0
bit_none false x = refl
bit_none true x = rw (le-ltb x 0 (omega arith))

pub bit_below : (b : Bool) (x m n : ℕ) → m ≤ n → one_if (b && ltb x m) ≤ one_if (b && ltb x n)
bit_below false x m n h = omega arith
bit_below true x m n h =
    by (ltb x m)
    (λ t. rw (t, lt-ltb x n (omega (arith, ltb-true x m t))) (omega arith))
    (λ t. rw t (omega arith))

module _ (w u : ℕ → ℕ) where
  pub total_le : (n : ℕ) → ((k : ℕ) → k < n → w k ≤ u k) → total w n ≤ total u n
  unfolding total
  total_le zero h = omega arith
  total_le (suc n) h = omega (arith, h n (omega arith), total_le n (λ k l. h k (omega arith)))

  pub total_same : (n : ℕ) → ((k : ℕ) → k < n → w k ≡ u k) → total w n ≡ total u n
  unfolding total
  total_same zero h = refl
  total_same (suc n) h = omega (arith, h n (omega arith), total_same n (λ k l. h k (omega arith)))

  pub total_sum : (v : ℕ → ℕ) (n : ℕ) → ((k : ℕ) → k < n → w k ≡ u k + v k) → total w n ≡ total u n + total v n
  unfolding total
  total_sum v zero h = refl
  total_sum v (suc n) h = omega (arith, h n (omega arith), total_sum v n (λ k l. h k (omega arith)))

module _ (w : ℕ → ℕ) where
  pub total_none : (n : ℕ) → ((k : ℕ) → k < n → w k ≡ 0) → total w n ≡ 0
  unfolding total
  total_none zero h = refl
  total_none (suc n) h = omega (arith, h n (omega arith), total_none n (λ k l. h k (omega arith)))

  pub total_some : (n k : ℕ) → k < n → 1 ≤ w k → 1 ≤ total w n
  unfolding total
  total_some zero k l h = absurd (omega arith)
  total_some (suc n) k l h =
      by (eqb k n)
      (λ t. omega (arith, rw (eqb-true k n t) at h))
      (λ t. omega (arith, total_some n k (omega (arith, eqb-false k n t)) h))

  pub total_find : {X : Type 0} (n : ℕ) → 1 ≤ total w n → ((k : ℕ) → k < n → 1 ≤ w k → X) → X
  unfolding total
  total_find zero h f = absurd (omega arith)
  total_find (suc n) h f =
      by (ltb 0 (w n))
      (λ t. f n (omega arith) (omega (arith, ltb-true 0 (w n) t)))
      (λ t. total_find n (omega (arith, ltb-false 0 (w n) t)) (λ k l. f k (omega arith)))

  pub total_one : (n : ℕ) → ((k : ℕ) → w k ≤ 1) → ((j k : ℕ) → j < k → k < n → 1 ≤ w j → 1 ≤ w k → ⊥) → total w n ≤ 1
  unfolding total
  total_one zero b h = omega arith
  total_one (suc n) b h =
      by (ltb 0 (w n))
      (λ t. omega (
        arith,
        b n,
        total_none n (λ k l. by (eqb (w k) 0) (λ u. eqb-true _ _ u)
            (λ u. absurd (h k n l (omega arith) (omega (arith, eqb-false (w k) 0 u)) (omega (arith, ltb-true 0 (w n) t))))),
      ))
      (λ t. omega (arith, ltb-false 0 (w n) t, total_one n b (λ j k l m. h j k l (omega arith))))

-- a count along a list by its index
module _ {A : Type 0} (f : A → Bool) (g : ℕ → A) where
  counted : (i n : ℕ) → how_many f (tab g i n) + total (λ k. one_if (f (g k))) i ≡ total (λ k. one_if (f (g k))) (i + n)
  unfolding how_many if'◌then◌else◌
  counted i zero = let e : i + 0 ≡ i = omega arith in rw e (omega arith)
  counted i (suc n) =
      let e : i + suc n ≡ suc i + n = omega arith in
      rw e (by (f (g i))
      (λ t. rw t (omega (arith, counted (suc i) n, more i, ap one_if t)))
      (λ t. rw t (omega (arith, counted (suc i) n, more i, ap one_if t))))
    where
      more : (i : ℕ) → total (λ k. one_if (f (g k))) (suc i) ≡ one_if (f (g i)) + total (λ k. one_if (f (g k))) i
      more i = unfold total in refl

  pub count_total : (n : ℕ) → how_many f (tab g 0 n) ≡ total (λ k. one_if (f (g k))) n
  unfolding total
  count_total n = let e : 0 + n ≡ n = omega arith in omega (arith, rw e at (counted 0 n))
