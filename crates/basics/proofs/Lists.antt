-- A function or a test over every element: of lists joined, at an index, weakened; sums over first elements; a list that may be missing behind another.
use Rattle.basics.proofs.Kit.{◌≡◌, refl, sym, ap, ◌∙◌, Bool, true, ◌&&◌, some, none, Option, Option·map, List, [], ◌∷◌, ◌++◌, append_assoc, map, ℕ, zero, suc, ◌+◌, ◌≤◌, ◌<◌}
use Rattle.basics.specs.Basics.{AllOf, all, paired, sum}
use Rattle.basics.proofs.Ands.{and_assoc}
use Rattle.basics.proofs.Elements.{Pairs, all_at, all_map, all_true, all_split, sum_append}
use Rattle.basics.proofs.Kit.{length, get_or, take, drop, take-append-drop, arith}
use Rattle.basics.proofs.Facts.{and_true}

pub map_append : {A B : Type 0} (g : A → B) (xs ys : List A) → map g (xs ++ ys) ≡ map g xs ++ map g ys
map_append g [] ys = refl
map_append g (x ∷ xs) ys = ap (λ (z : List _). g x ∷ z) (map_append g xs ys)

module _ {A : Type 0} where
  -- by index, from a property that the default has too
  pub all_each : (P : A → Type 0) (d : A) (xs : List A) → ((i : ℕ) → P (get_or xs i d)) → AllOf P xs
  all_each P d [] h = tt
  all_each P d (x ∷ xs) h = (h 0, all_each P d xs (λ i. h (suc i)))

  -- a test that all pass: at an index, weakened, on two lists
  pub all_get : (f : A → Bool) (d : A) (xs : List A) (i : ℕ) → all f xs ≡ true → i < length xs → f (get_or xs i d) ≡ true
  all_get f d xs i e h = all_at (λ x. f x ≡ true) d xs i h (all_split f xs e)

  pub all_weak : (f g : A → Bool) → ((x : A) → f x ≡ true → g x ≡ true) → (xs : List A) → all f xs ≡ true → all g xs ≡ true
  all_weak f g w xs e = all_true g xs (all_map (λ x. f x ≡ true) (λ x. g x ≡ true) w xs (all_split f xs e))

  pub all_join : (f : A → Bool) (xs ys : List A) → all f (xs ++ ys) ≡ (all f xs && all f ys)
  unfolding all
  all_join f [] ys = refl
  all_join f (x ∷ xs) ys = rw (all_join f xs ys, and_assoc)

-- the sum over the first k elements: with the next, with all others, and over more of them
module _ {A : Type 0} (f : A → ℕ) where
  pub sum_take_next : (xs : List A) (k : ℕ) → sum f (take (suc k) xs) ≡ sum f (take k xs) + get_or (map f xs) k 0
  unfolding sum
  sum_take_next [] zero = refl
  sum_take_next [] (suc k) = refl
  sum_take_next (x ∷ xs) zero = omega arith
  sum_take_next (x ∷ xs) (suc k) = omega (arith, sum_take_next xs k)

  pub sum_parts : (k : ℕ) (xs : List A) → sum f (take k xs) + sum f (drop k xs) ≡ sum f xs
  sum_parts k xs = sym (sum_append f (take k xs) (drop k xs)) ∙ ap (sum f) (take-append-drop k xs)

  pub sum_take_more : (xs : List A) (j k : ℕ) → j ≤ k → sum f (take j xs) ≤ sum f (take k xs)
  unfolding sum
  sum_take_more xs zero k h = omega arith
  sum_take_more xs (suc j) zero h = absurd (omega arith)
  sum_take_more [] (suc j) (suc k) h = omega arith
  sum_take_more (x ∷ xs) (suc j) (suc k) h = omega (arith, sum_take_more xs j k (omega arith))

-- a list that may be missing, behind another
module _ {A : Type 0} where
  pub behind_none : (o : Option (List A)) → Option·map (λ xs. [] ++ xs) o ≡ o
  behind_none none = refl
  behind_none (some xs) = refl

  pub behind_two : (a b : List A) (o : Option (List A)) → Option·map (λ xs. a ++ xs) (Option·map (λ xs. b ++ xs) o) ≡ Option·map (λ xs. (a ++ b) ++ xs) o
  behind_two a b none = refl
  behind_two a b (some xs) = ap some (sym (append_assoc a b xs))

pub some_one : {A : Type 0} (Q : Type 0) (P : A → Type 0) (xs : List A) → 0 < length xs → AllOf P xs → ((x : A) → P x → Q) → Q
some_one Q P [] l a f = absurd (omega arith)
some_one Q P (x ∷ xs) l a f = f x a.0

pub paired_tail : {A : Type 0} (f : A → A → Bool) (r s : A) (rs : List A) → paired f (r ∷ s ∷ rs) ≡ true → (f r s ≡ true) × (paired f (s ∷ rs) ≡ true)
unfolding paired
paired_tail f r s rs h = and_true (f r s) (paired f (s ∷ rs)) h

pub paired_next : {A : Type 0} (f : A → A → Bool) (r : A) (rs : List A) → paired f (r ∷ rs) ≡ true → paired f rs ≡ true
paired_next f r [] h = unfold paired in refl
paired_next f r (s ∷ rs) h = (paired_tail f r s rs h).1

pub paired_true : {A : Type 0} (f : A → A → Bool) (xs : List A) → Pairs (λ a b. f a b ≡ true) xs → paired f xs ≡ true
unfolding paired
paired_true f [] p = refl
paired_true f (x ∷ []) p = refl
paired_true f (x ∷ y ∷ ys) p = rw (p.0.0, paired_true f (y ∷ ys) p.1)
