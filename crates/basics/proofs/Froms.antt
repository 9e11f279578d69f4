-- Tests and counts over the numbers from one on, in a row.
use Rattle.basics.proofs.Kit.{◌≡◌, refl, sym, ap, ◌∙◌, Bool, true, false, ◌&&◌, List, ◌∷◌, ℕ, suc, ◌+◌, ◌≤◌, ◌<◌, zero, ◌-◌, add-zero, length, ne_eqb, arith}
use Rattle.basics.specs.Basics.{AllOf, if'◌then◌else◌, one_if, any, all, paired, how_many, is_in, distinct, from}
use Rattle.basics.specs.Lists.{tab}
use Rattle.basics.proofs.Ands.{and_yes, and_assoc}
use Rattle.basics.proofs.Facts.{by}
use Rattle.basics.proofs.Searches.{tab_all, all_tab, from_tab}
use Rattle.basics.proofs.Firsts.{from_iteration, from_end}
use Rattle.basics.proofs.Members.{pigeon}

-- a test of numbers in a row, number by number
module _ (f : ℕ → Bool) where
  pub all_from : (n : ℕ) → all f (from 0 n) ≡ true → (k : ℕ) → k < n → f k ≡ true
  all_from n h k b = tab_all f (λ j. j) 0 n (ap (all f) (sym (from_tab 0 n)) ∙ h) k (omega arith) (omega arith)

  pub from_all : (n : ℕ) → ((k : ℕ) → k < n → f k ≡ true) → all f (from 0 n) ≡ true
  from_all n h = ap (all f) (from_tab 0 n) ∙ all_tab f (λ j. j) 0 n (λ k p q. h k (omega arith))

  -- turn by turn
  pub all_iteration : (t n : ℕ) → t < n → all f (from t (n - t)) ≡ (f t && all f (from (t + 1) (n - (t + 1))))
  unfolding all
  all_iteration t n h = ap (all f) (from_iteration t n h)

  pub all_end : (t n : ℕ) → n ≤ t → all f (from t (n - t)) ≡ true
  unfolding all
  all_end t n h = ap (all f) (from_end t n h)

pub paired_all : (f : ℕ → ℕ → Bool) (g : ℕ → ℕ) (i k : ℕ) → paired f (tab g i (suc k)) ≡ all (λ p. f (g p) (g (suc p))) (from i k)
unfolding paired all from
paired_all f g i zero = refl
paired_all f g i (suc k) = ap (λ (z : Bool). f (g i) (g (suc i)) && z) (paired_all f g (suc i) k)

pub all_same : (f g : ℕ → Bool) (i k : ℕ) → ((p : ℕ) → i ≤ p → p < i + k → f p ≡ g p) → all f (from i k) ≡ all g (from i k)
unfolding all from
all_same f g i zero h = refl
all_same f g i (suc k) h =
    let e : f i ≡ g i = h i (omega arith) (omega arith) in
    let r : all f (from (suc i) k) ≡ all g (from (suc i) k) = all_same f g (suc i) k (λ p a b. h p (omega arith) (omega arith)) in
    λ j. e j && r j

pub all_snoc : (f : ℕ → Bool) (i k : ℕ) → all f (from i (suc k)) ≡ (all f (from i k) && f (i + k))
unfolding all from
all_snoc f i zero = and_yes (f i) ∙ ap f (sym (add-zero i))
all_snoc f i (suc k) =
    let e : suc i + k ≡ i + suc k = omega arith in
    ap (λ (z : Bool). f i && z) (all_snoc f (suc i) k ∙ ap (λ (z : ℕ). all f (from (suc i) k) && f z) e)
    ∙ sym (and_assoc (f i) (all f (from (suc i) k)) (f (i + suc k)))

-- ---- counts

pub many_cons : {A : Type 0} (f : A → Bool) (x : A) (xs : List A) → how_many f (x ∷ xs) ≡ one_if (f x) + how_many f xs
unfolding how_many if'◌then◌else◌
many_cons f x xs = by (f x) (λ e. rw e (omega arith)) (λ e. rw e (omega arith))

module _ (f : ℕ → Bool) (b n : ℕ) where
  pub tally_iteration : b < n → how_many f (from b (n - b)) ≡ one_if (f b) + how_many f (from (b + 1) (n - (b + 1)))
  tally_iteration h = ap (how_many f) (from_iteration b n h) ∙ many_cons f b (from (b + 1) (n - (b + 1)))

  pub tally_end : n ≤ b → how_many f (from b (n - b)) ≡ 0
  unfolding how_many
  tally_end h = ap (how_many f) (from_end b n h)

-- ---- they are distinct

length_from : (a k : ℕ) → length (from a k) ≡ k
unfolding from
length_from a zero = refl
length_from a (suc k) = ap suc (length_from (suc a) k)

not_in_from : (s a k : ℕ) → s < a → is_in s (from a k) ≡ false
unfolding is_in any from
not_in_from s a zero h = refl
not_in_from s a (suc k) h = rw (ne_eqb s a (λ e. omega arith), any) (not_in_from s (suc a) k (omega arith))

distinct_from : (a k : ℕ) → distinct (from a k) ≡ true
unfolding distinct from
distinct_from a zero = refl
distinct_from a (suc k) = rw (not_in_from a (suc a) k (omega arith), distinct_from (suc a) k)

each_from : (P : ℕ → Type 0) (a k : ℕ) → ((s : ℕ) → a ≤ s → s < a + k → P s) → AllOf P (from a k)
unfolding from
each_from P a zero h = tt
each_from P a (suc k) h = (h a (omega arith) (omega arith), each_from P (suc a) k (λ s l u. h s (omega arith) (omega arith)))

-- a list that has all numbers below k has k elements or more
pub pigeonhole : (k : ℕ) (xs : List ℕ) → ((s : ℕ) → s < k → is_in s xs ≡ true) → k ≤ length xs
pigeonhole k xs h = omega (arith, length_from 0 k, pigeon (from 0 k) xs (distinct_from 0 k) (each_from _ 0 k (λ s l u. h s (omega arith))))
