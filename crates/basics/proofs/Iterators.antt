-- What the library says of an iterator's tests, in the words of `Basics`.
use Rattle.basics.proofs.Kit.{◌≡◌, refl, ap, Bool, ◌&&◌, ◌||◌, List, [], ◌∷◌, length}
use Rattle.std.specs.List.{filter, list_all, list_any}
use Rattle.basics.specs.Basics.{if'◌then◌else◌, any, all, how_many}
use Rattle.basics.proofs.Facts.{by}
use Rattle.basics.proofs.Elements.{any_cons}

module _ {A : Type 0} (f : A → Bool) where
  pub all_listed : (xs : List A) → list_all f xs ≡ all f xs
  unfolding all
  all_listed [] = refl
  all_listed (x ∷ xs) = ap (λ (b : Bool). f x && b) (all_listed xs)

  pub any_listed : (xs : List A) → list_any f xs ≡ any f xs
  unfolding any
  any_listed [] = refl
  any_listed (x ∷ xs) = rw (any_cons f x xs) (ap (λ (b : Bool). f x || b) (any_listed xs))

  pub count_listed : (xs : List A) → length (filter f xs) ≡ how_many f xs
  unfolding how_many if'◌then◌else◌
  count_listed [] = refl
  count_listed (x ∷ xs) = by (f x) (λ t. rw (t, count_listed xs)) (λ t. rw (t, count_listed xs))
