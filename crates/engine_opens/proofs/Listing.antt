-- The listing of numbers, two bytes after the other.
use Rattle.basics.proofs.Kit.{◌≡◌, refl, sym, ap, ◌∙◌, List, [], ◌∷◌, ◌++◌, ℕ, ◌*◌, ◌+◌, ◌%◌, ◌/◌, ◌≤◌, ◌<◌, add-one, length, take, drop, get_or, set, take_all, take-suc, length-take-le, arith}
use Rattle.basics.proofs.Parts.{two_more}
use Rattle.model.specs.Transactions.{listing}

pub length_listing : (xs : List ℕ) → length (listing xs) ≡ 2 * length xs
unfolding listing
length_listing [] = refl
length_listing (x ∷ xs) = omega (arith, length_listing xs)

listing_last : (xs : List ℕ) (x : ℕ) → listing (xs ++ x ∷ []) ≡ listing xs ++ x / 256 % 256 ∷ x % 256 ∷ []
unfolding listing
listing_last [] x = refl
listing_last (y ∷ ys) x = ap (λ (z : List ℕ). y / 256 % 256 ∷ y % 256 ∷ z) (listing_last ys x)

-- the first i are listed over the reply p
abbrev pub listed_to : List ℕ → ℕ → List ℕ → List ℕ
listed_to xs i p = listing (take i xs) ++ drop (2 * i) p

pub list_none : (xs p : List ℕ) → p ≡ listed_to xs 0 p
unfolding listing
list_none xs p = refl

module _ (xs p : List ℕ) where
  pub list_iteration : (i : ℕ) → i < length xs → 2 * length xs ≤ length p → (q : List ℕ) → q ≡ listed_to xs i p
      → set (set q (2 * i) (get_or xs i 0 / 256 % 256)) (2 * i + 1) (get_or xs i 0 % 256) ≡ listed_to xs (i + 1) p
  list_iteration i h fits q e =
      let x : ℕ = get_or xs i 0 in
      let l : length (listing (take i xs)) ≡ 2 * i = length_listing (take i xs) ∙ ap (λ (z : ℕ). 2 * z) (length-take-le i xs (omega arith)) in
      let one : take i xs ++ x ∷ [] ≡ take (i + 1) xs = sym (take-suc xs i 0 h) ∙ ap (λ (z : ℕ). take z xs) (sym (add-one i)) in
      ap (λ (z : List ℕ). set (set z (2 * i) (x / 256 % 256)) (2 * i + 1) (x % 256)) e
      ∙ two_more (listing (take i xs)) p i (x / 256 % 256) (x % 256) l (omega arith)
      ∙ ap (λ (z : List ℕ). z ++ drop (2 * (i + 1)) p) (sym (listing_last (take i xs) x) ∙ ap listing one)

  pub list_end : (i : ℕ) → length xs ≤ i → i ≤ length xs → (q : List ℕ) → q ≡ listed_to xs i p → q ≡ listing xs ++ drop (2 * length xs) p
  list_end i a b q h =
      let z : i ≡ length xs = omega arith in
      h ∙ ap (λ (k : ℕ). listed_to xs k p) z ∙ ap (λ (u : List ℕ). listing u ++ drop (2 * length xs) p) (take_all (length xs) xs (omega arith))
