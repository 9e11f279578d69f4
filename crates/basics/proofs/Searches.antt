-- Searches in lists by index, and one turn of each loop that searches a list.
use Rattle.basics.proofs.Kit.{◌≡◌, refl, sym, ap, ◌∙◌, ⊎_elim, Bool, true, false, ◌&&◌, ◌||◌, cond, or_assoc, List, [], ◌∷◌, ◌++◌, ℕ, suc, ◌+◌, ◌≤◌, ◌<◌, zero, ◌-◌}
use Rattle.basics.proofs.Kit.{zero-add, suc-add, length, arith}
use Rattle.basics.specs.Basics.{any, all, how_many, paired, from, if'◌then◌else◌}
use Rattle.basics.specs.Lists.{tab, first_index, last_index}
use Rattle.basics.proofs.Ands.{and_yes, and_assoc}
use Rattle.basics.proofs.Tabs.{tab_add, tab_cong, length_tab, lt_or_ge}
use Rattle.basics.proofs.Facts.{by, lie, and_true}
use Rattle.basics.proofs.Elements.{or_right}
pub use Rattle.basics.proofs.Elements.{any_cons}

-- ---- parts of a list by index

module _ {A : Type 0} (g : ℕ → A) (i n : ℕ) where
  pub tab_next : i < n → tab g i (n - i) ≡ g i ∷ tab g (i + 1) (n - (i + 1))
  tab_next h =
      let e : n - i ≡ suc (n - (i + 1)) = omega arith in
      let e2 : suc i ≡ i + 1 = omega arith in
      ap (tab g i) e ∙ ap (λ (z : ℕ). g i ∷ tab g z (n - (i + 1))) e2

  pub tab_split : (k : ℕ) → i + k ≤ n → tab g i (n - i) ≡ tab g i k ++ tab g (i + k) (n - (i + k))
  tab_split k h = let e : n - i ≡ k + (n - (i + k)) = omega arith in ap (tab g i) e ∙ tab_add g i k (n - (i + k))

  pub tab_none : n ≤ i → tab g i (n - i) ≡ []
  tab_none h = let e : n - i ≡ 0 = omega arith in ap (tab g i) e

  pub tab_back : (k : ℕ) → i + k ≤ n → tab g i (n - i) ≡ tab g i (n - k - i) ++ tab g (n - k) k
  tab_back k h =
      let e : n - i ≡ n - k - i + k = omega arith in
      let e2 : i + (n - k - i) ≡ n - k = omega arith in
      ap (tab g i) e ∙ tab_add g i (n - k - i) k ∙ ap (λ (z : ℕ). tab g i (n - k - i) ++ tab g z k) e2

-- ---- any, first_index and last_index of a list in two parts

pub or_split : (a b : Bool) → (a || b) ≡ false → (a ≡ false) × (b ≡ false)
or_split false b h = (refl, h)
or_split true b h = let z : ◌≡◌ {A = ℕ} 0 1 = cc in absurd (omega arith)

pub or_none : (b : Bool) → (b || false) ≡ b
or_none true = refl
or_none false = refl

module _ {A : Type 0} (f : A → Bool) where
  pub any_one : (x : A) → any f (x ∷ []) ≡ f x
  unfolding any
  any_one x = any_cons f x [] ∙ or_none (f x)

  pub any_append : (xs ys : List A) → any f (xs ++ ys) ≡ (any f xs || any f ys)
  unfolding any
  any_append [] ys = refl
  any_append (x ∷ xs) ys =
      any_cons f x (xs ++ ys)
      ∙ ap (λ (b : Bool). f x || b) (any_append xs ys)
      ∙ sym (or_assoc (f x) (any f xs) (any f ys))
      ∙ ap (λ (b : Bool). b || any f ys) (sym (any_cons f x xs))

  pub first_append : (xs ys : List A) → any f xs ≡ false → first_index f (xs ++ ys) ≡ length xs + first_index f ys
  unfolding first_index
  first_append [] ys h = sym (zero-add (first_index f ys))
  first_append (x ∷ xs) ys h =
      let p = or_split (f x) (any f xs) (sym (any_cons f x xs) ∙ h) in
      ap (λ (b : Bool). cond b 0 (suc (first_index f (xs ++ ys)))) p.0
      ∙ ap suc (first_append xs ys p.1)
      ∙ sym (suc-add (length xs) (first_index f ys))

  last_none : (xs : List A) → any f xs ≡ false → last_index f xs ≡ 0
  unfolding last_index
  last_none [] h = refl
  last_none (x ∷ xs) h =
      let p = or_split (f x) (any f xs) (sym (any_cons f x xs) ∙ h) in
      ap (λ (k : ℕ). elim k [ zero ↦ cond (f x) 1 0 | suc j ↦ suc (suc j) ]) (last_none xs p.1)
      ∙ ap (λ (b : Bool). cond b 1 0) p.0

  pub last_append : (xs ys : List A) → any f ys ≡ false → last_index f (xs ++ ys) ≡ last_index f xs
  unfolding last_index
  last_append [] ys h = last_none ys h
  last_append (x ∷ xs) ys h = ap (λ (k : ℕ). elim k [ zero ↦ cond (f x) 1 0 | suc j ↦ suc (suc j) ]) (last_append xs ys h)

  pub last_snoc : (xs : List A) (x : A) → f x ≡ true → last_index f (xs ++ x ∷ []) ≡ suc (length xs)
  unfolding last_index
  last_snoc [] x h = ap (λ (b : Bool). cond b 1 0) h
  last_snoc (y ∷ xs) x h = ap (λ (k : ℕ). elim k [ zero ↦ cond (f y) 1 0 | suc j ↦ suc (suc j) ]) (last_snoc xs x h)

  pub count_cons : (x : A) (xs : List A) → how_many f (x ∷ xs) ≡ cond (f x) 1 0 + how_many f xs
  unfolding how_many if'◌then◌else◌
  count_cons x xs = by_test (f x) (how_many f xs)
    where
      by_test : (b : Bool) (k : ℕ) → (if' b then suc k else k) ≡ cond b 1 0 + k
      by_test true k = omega arith
      by_test false k = omega arith

-- ---- all numbers are tested: w is the answer, those below i are

module _ {A : Type 0} (f : A → Bool) (g : ℕ → A) (i n : ℕ) where
  -- one more was tested
  pub any_iteration : i < n → (hit : Bool) {w : Bool} {r : A} → w ≡ (hit || any f (tab g i (n - i))) → r ≡ g i
      → w ≡ ((hit || f r) || any f (tab g (i + 1) (n - (i + 1))))
  any_iteration h hit {w} {r} p e =
      let rest : Bool = any f (tab g (i + 1) (n - (i + 1))) in
      p
      ∙ ap (λ (z : List A). hit || any f z) (tab_next g i n h)
      ∙ ap (λ (z : Bool). hit || z) (any_cons f (g i) (tab g (i + 1) (n - (i + 1))))
      ∙ ap (λ (z : A). hit || (f z || rest)) (sym e)
      ∙ sym (or_assoc hit (f r) rest)

  pub any_end : n ≤ i → (hit : Bool) {w : Bool} → w ≡ (hit || any f (tab g i (n - i))) → hit ≡ w
  unfolding any
  any_end h hit p = sym (p ∙ ap (λ (z : List A). hit || any f z) (tab_none g i n h) ∙ or_none hit)

  module _ (k : ℕ) {w : Bool} (p : w ≡ any f (tab g i (n - i))) (h : i + k ≤ n) where
    next : w ≡ (any f (tab g i k) || any f (tab g (i + k) (n - (i + k))))
    next = p ∙ ap (any f) (tab_split g i n k h) ∙ any_append f (tab g i k) (tab g (i + k) (n - (i + k)))

    -- a group with a hit
    pub any_hit : any f (tab g i k) ≡ true → true ≡ w
    any_hit t = sym (next ∙ ap (λ (z : Bool). z || any f (tab g (i + k) (n - (i + k)))) t)

    -- a group without one
    pub any_pass : any f (tab g i k) ≡ false → w ≡ any f (tab g (i + k) (n - (i + k)))
    any_pass t = next ∙ ap (λ (z : Bool). z || any f (tab g (i + k) (n - (i + k)))) t

pub any_start : {A : Type 0} (f : A → Bool) (g : ℕ → A) (n : ℕ) → any f (tab g 0 n) ≡ any f (tab g 0 (n - 0))
any_start f g n = let e : n ≡ n - 0 = omega arith in ap (λ (z : ℕ). any f (tab g 0 z)) e

-- ---- from the front: w is the answer, those below i have no hit

module _ {A : Type 0} (f : A → Bool) (g : ℕ → A) (i n : ℕ) {w : ℕ} (p : w ≡ i + first_index f (tab g i (n - i))) where
  pub first_skip : (k : ℕ) → i + k ≤ n → any f (tab g i k) ≡ false → w ≡ i + k + first_index f (tab g (i + k) (n - (i + k)))
  first_skip k h t =
      let rest : List A = tab g (i + k) (n - (i + k)) in
      let e : first_index f (tab g i (n - i)) ≡ length (tab g i k) + first_index f rest =
      ap (first_index f) (tab_split g i n k h) ∙ first_append f (tab g i k) rest t in
      omega (arith, length_tab g i k)

  pub first_pass : {r : A} → i < n → r ≡ g i → f r ≡ false → w ≡ i + 1 + first_index f (tab g (i + 1) (n - (i + 1)))
  first_pass h e t = first_skip 1 (omega arith) (any_one f (g i) ∙ ap f (sym e) ∙ t)

  pub first_hit : {r : A} → i < n → r ≡ g i → f r ≡ true → i ≡ w
  unfolding first_index
  first_hit h e t =
      let rest : List A = tab g (i + 1) (n - (i + 1)) in
      let z : first_index f (tab g i (n - i)) ≡ 0 =
      ap (first_index f) (tab_next g i n h) ∙ ap (λ (b : Bool). cond b 0 (suc (first_index f rest))) (ap f (sym e) ∙ t) in
      omega arith

  pub first_end : i ≤ n → n ≤ i → n ≡ w
  unfolding first_index
  first_end h k = let z : first_index f (tab g i (n - i)) ≡ 0 = ap (first_index f) (tab_none g i n k) in omega arith

-- ---- from the end: those from k on have no hit

-- the last hit from s on, below e, is below k
abbrev pub LastBelow : {A : Type 0} → (A → Bool) → (ℕ → A) → ℕ → ℕ → ℕ → Type 0
LastBelow f g s e k = (s ≤ k) × ((k ≤ e) × (last_index f (tab g s (e - s)) ≡ last_index f (tab g s (k - s))))

module _ {A : Type 0} (f : A → Bool) (g : ℕ → A) (s e k : ℕ) (p : LastBelow f g s e k) where
  pub last_skip : (n : ℕ) → s + n ≤ k → any f (tab g (k - n) n) ≡ false → LastBelow f g s e (k - n)
  last_skip n h t =
      (omega arith, (omega (arith, p.1.0), p.1.1 ∙ ap (last_index f) (tab_back g s k n h) ∙ last_append f (tab g s (k - n - s)) (tab g (k - n) n) t))

  pub last_pass : {r : A} → s < k → r ≡ g (k - 1) → f r ≡ false → LastBelow f g s e (k - 1)
  last_pass h q t = last_skip 1 (omega arith) (any_one f (g (k - 1)) ∙ ap f (sym q) ∙ t)

  pub last_hit : {r : A} → s < k → r ≡ g (k - 1) → f r ≡ true → k ≡ s + last_index f (tab g s (e - s))
  last_hit h q t =
      let z : last_index f (tab g s (e - s)) ≡ suc (length (tab g s (k - 1 - s))) =
      p.1.1 ∙ ap (last_index f) (tab_back g s k 1 (omega arith)) ∙ last_snoc f (tab g s (k - 1 - s)) (g (k - 1)) (ap f (sym q) ∙ t) in
      omega (arith, length_tab g s (k - 1 - s))

  pub last_end : k ≤ s → s ≡ s + last_index f (tab g s (e - s))
  unfolding last_index
  last_end h = let z : last_index f (tab g s (e - s)) ≡ 0 = p.1.1 ∙ ap (last_index f) (tab_none g s k h) in omega arith

pub one_most : (b : Bool) {v : ℕ} → v ≡ cond b 1 0 → v ≤ 1
one_most true e = omega arith
one_most false e = omega arith

-- ---- a count: w is the answer, k of those below i pass

module _ {A : Type 0} (f : A → Bool) (g : ℕ → A) (i n k : ℕ) {w : ℕ} (p : w ≡ k + how_many f (tab g i (n - i))) where
  pub count_iteration : {r : A} {v : ℕ} → i < n → r ≡ g i → v ≡ cond (f r) 1 0 → w ≡ k + v + how_many f (tab g (i + 1) (n - (i + 1)))
  count_iteration {r} {v} h e q =
      let rest : List A = tab g (i + 1) (n - (i + 1)) in
      let z : how_many f (tab g i (n - i)) ≡ cond (f (g i)) 1 0 + how_many f rest =
      ap (how_many f) (tab_next g i n h) ∙ count_cons f (g i) rest in
      let y : v ≡ cond (f (g i)) 1 0 = q ∙ ap (λ (x : A). cond (f x) 1 0) e in
      omega arith

  pub count_end : n ≤ i → k ≡ w
  unfolding how_many
  count_end h = let z : how_many f (tab g i (n - i)) ≡ 0 = ap (how_many f) (tab_none g i n h) in omega arith

-- ---- neighbours: w is the answer, ok that of the pairs below i

module _ {A : Type 0} (f : A → A → Bool) (g : ℕ → A) (i n : ℕ) (ok : Bool) {w : Bool} (p : w ≡ (ok && paired f (tab g i (n - i)))) where
  pub paired_iteration : {x y : A} → i + 1 < n → x ≡ g i → y ≡ g (i + 1) → w ≡ ((ok && f x y) && paired f (tab g (i + 1) (n - (i + 1))))
  unfolding paired
  paired_iteration {x} {y} h e1 e2 =
      let rest = tab g (i + 1) (n - (i + 1)) in
      let two : rest ≡ g (i + 1) ∷ tab g (i + 1 + 1) (n - (i + 1 + 1)) = tab_next g (i + 1) n h in
      p ∙ ap (λ (l : List A). ok && paired f l) (tab_next g i n (omega arith))
      ∙ ap (λ (l : List A). ok && paired f (g i ∷ l)) two ∙ ap (λ (l : List A). ok && (f (g i) (g (i + 1)) && paired f l)) (sym two)
      ∙ ap (λ (z : A). ok && (f z (g (i + 1)) && paired f rest)) (sym e1) ∙ ap (λ (z : A). ok && (f x z && paired f rest)) (sym e2)
      ∙ sym (and_assoc ok (f x y) (paired f rest))

  -- one number, or none, has no neighbour
  paired_none : (k : ℕ) → k ≤ 1 → paired f (tab g i k) ≡ true
  unfolding paired
  paired_none zero h = refl
  paired_none (suc zero) h = refl
  paired_none (suc (suc k)) h = absurd (omega (arith, h))

  pub paired_end : n ≤ i + 1 → ok ≡ w
  paired_end h = sym (p ∙ ap (λ (z : Bool). ok && z) (paired_none (n - i) (omega (arith, h))) ∙ and_yes ok)

pub paired_start : {A : Type 0} (f : A → A → Bool) (g : ℕ → A) (n : ℕ) → paired f (tab g 0 n) ≡ paired f (tab g 0 (n - 0))
paired_start f g n = let e : n ≡ n - 0 = omega arith in ap (λ (z : ℕ). paired f (tab g 0 z)) e

-- ---- tests by index

module _ {A : Type 0} (f : A → Bool) (g : ℕ → A) where
  pub all_tab : (a n : ℕ) → ((k : ℕ) → a ≤ k → k < a + n → f (g k) ≡ true) → all f (tab g a n) ≡ true
  unfolding all
  all_tab a zero h = refl
  all_tab a (suc n) h = rw (h a (omega arith) (omega arith), all_tab (suc a) n (λ k p q. h k (omega arith) (omega arith)))

  pub tab_all : (a n : ℕ) → all f (tab g a n) ≡ true → (k : ℕ) → a ≤ k → k < a + n → f (g k) ≡ true
  unfolding all
  tab_all a zero h k p q = absurd (omega arith)
  tab_all a (suc n) h k p q =
      let t = and_true (f (g a)) (all f (tab g (suc a) n)) h in
      ⊎_elim (λ (l : a < k). tab_all (suc a) n t.1 k (omega arith) (omega arith)) (λ (l : k ≤ a). let e : k ≡ a = omega arith in ap (λ (z : ℕ). f (g z)) e ∙ t.0)
      (lt_or_ge a k)

  pub any_tab : (a n k : ℕ) → a ≤ k → k < a + n → f (g k) ≡ true → any f (tab g a n) ≡ true
  any_tab a zero k p q t = absurd (omega arith)
  any_tab a (suc n) k p q t =
      any_cons f (g a) (tab g (suc a) n)
      ∙ ⊎_elim (λ (l : a < k). rw (any_tab (suc a) n k (omega arith) (omega arith) t) (or_right (f (g a)) true refl))
      (λ (l : k ≤ a). let e : k ≡ a = omega arith in rw (ap (λ (z : ℕ). f (g z)) (sym e) ∙ t)) (lt_or_ge a k)

  -- none passes, by index
  pub none_tab : (a n : ℕ) → ((k : ℕ) → a ≤ k → k < a + n → f (g k) ≡ false) → any f (tab g a n) ≡ false
  unfolding any
  none_tab a zero h = refl
  none_tab a (suc n) h = any_cons f (g a) (tab g (suc a) n) ∙ rw (h a (omega arith) (omega arith)) (none_tab (suc a) n (λ k p q. h k (omega arith) (omega arith)))

  pub tab_none_at : (a n : ℕ) → any f (tab g a n) ≡ false → (k : ℕ) → a ≤ k → k < a + n → f (g k) ≡ false
  tab_none_at a n e k p q = by (f (g k)) (λ t. lie (sym e ∙ any_tab a n k p q t)) (λ t. t)

  pub tab_any : {X : Type 0} (a n : ℕ) → any f (tab g a n) ≡ true → ((k : ℕ) → k < a + n → f (g k) ≡ true → X) → X
  unfolding any
  tab_any a zero e w = lie e
  tab_any a (suc n) e w =
      let z = sym (any_cons f (g a) (tab g (suc a) n)) ∙ e in
      by (f (g a))
      (λ u. w a (omega arith) u)
      (λ u. tab_any (suc a) n (rw u at z) (λ k l. w k (omega arith)))

-- two tests that agree, each on a list of its own
any_bools : {A : Type 0} (f : A → Bool) (g : ℕ → A) (i n : ℕ) → any f (tab g i n) ≡ any (λ b. b) (tab (λ k. f (g k)) i n)
unfolding any
any_bools f g i zero = refl
any_bools f g i (suc n) =
    any_cons f (g i) (tab g (suc i) n) ∙ ap (λ b. f (g i) || b) (any_bools f g (suc i) n) ∙ sym (any_cons (λ b. b) (f (g i)) (tab (λ k. f (g k)) (suc i) n))

pub any_same : {A B : Type 0} (f : A → Bool) (g : ℕ → A) (t : B → Bool) (h : ℕ → B) (i j n : ℕ) → ((k : ℕ) → k < n → f (g (i + k)) ≡ t (h (j + k)))
    → any f (tab g i n) ≡ any t (tab h j n)
any_same f g t h i j n e = any_bools f g i n ∙ ap (any (λ b. b)) (tab_cong (λ k. f (g k)) (λ k. t (h k)) i j n e) ∙ sym (any_bools t h j n)

-- numbers in a row, by index
pub from_tab : (a n : ℕ) → from a n ≡ tab (λ k. k) a n
unfolding from
from_tab a zero = refl
from_tab a (suc n) = ap (λ l. a ∷ l) (from_tab (suc a) n)
