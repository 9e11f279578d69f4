-- Tests of a list whose elements were changed but for what the test sees.
use Rattle.basics.proofs.Kit.{◌≡◌, refl, Bool, List, [], ◌∷◌, map}
use Rattle.basics.specs.Basics.{if'◌then◌else◌, all, paired, how_many}

module _ {A : Type 0} (f g : A → Bool) (h : A → A) (e : (x : A) → f (h x) ≡ g x) where
  pub all_kept : (xs : List A) → all f (map h xs) ≡ all g xs
  unfolding all
  all_kept [] = refl
  all_kept (x ∷ xs) = rw (e x, all_kept xs)

  pub count_kept : (xs : List A) → how_many f (map h xs) ≡ how_many g xs
  unfolding how_many if'◌then◌else◌
  count_kept [] = refl
  count_kept (x ∷ xs) = rw (e x, count_kept xs)

pub paired_kept : {A : Type 0} (f : A → A → Bool) (h : A → A) → ((x y : A) → f (h x) (h y) ≡ f x y) → (xs : List A) → paired f (map h xs) ≡ paired f xs
unfolding paired
paired_kept f h e [] = refl
paired_kept f h e (x ∷ []) = refl
paired_kept f h e (x ∷ y ∷ ys) = rw (e x y, paired_kept f h e (y ∷ ys))
