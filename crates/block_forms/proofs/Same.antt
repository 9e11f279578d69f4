-- The comparison of two lists.
use Rattle.basics.proofs.Kit.{◌≡◌, refl, true, List, [], ◌∷◌, ℕ, eqb, eqb-true, eq-eqb}
use Rattle.basics.proofs.Facts.{lie, and_true}
use Rattle.block_forms.specs.Numbers.{same}

pub same_eq : (xs ys : List ℕ) → same xs ys ≡ true → xs ≡ ys
unfolding same
same_eq [] [] e = refl
same_eq [] (y ∷ ys) e = lie e
same_eq (x ∷ xs) [] e = lie e
same_eq (x ∷ xs) (y ∷ ys) e =
    let h = and_true (eqb x y) (same xs ys) e in
    let p : x ≡ y = eqb-true x y h.0 in
    let q : xs ≡ ys = same_eq xs ys h.1 in
    λ i. p i ∷ q i

pub same_refl : (xs : List ℕ) → same xs xs ≡ true
unfolding same
same_refl [] = refl
same_refl (x ∷ xs) = rw (eq-eqb x x refl) (same_refl xs)
