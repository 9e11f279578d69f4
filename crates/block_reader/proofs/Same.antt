-- What `!=` of two blocks says: whether they are not the same.
use Rattle.std.specs.Prelude.{nat_eq}
use lib.Pointwise.{pointwise}
use Rattle.basics.proofs.Kit.{◌≡◌, refl, sym, ap, ◌∙◌, Bool, true, false, not, ◌&&◌, List, [], ◌∷◌, ℕ, eqb}
use Rattle.block_forms.specs.Numbers.{same}

pointwise_same : (a b : List ℕ) → pointwise nat_eq a b ≡ same a b
unfolding same
pointwise_same [] [] = refl
pointwise_same [] (y ∷ ys) = refl
pointwise_same (x ∷ xs) [] = refl
pointwise_same (x ∷ xs) (y ∷ ys) = ap (λ (r : Bool). eqb x y && r) (pointwise_same xs ys)

not_not : (r : Bool) → not (not r) ≡ r
not_not true = refl
not_not false = refl

module _ (a b : List ℕ) {r : Bool} (e : r ≡ not (pointwise nat_eq a b)) where
  known : same a b ≡ not r
  known = sym (ap not e ∙ not_not (pointwise nat_eq a b) ∙ pointwise_same a b)

  pub differ : r ≡ true → same a b ≡ false
  differ h = known ∙ ap not h

  pub agree : r ≡ false → same a b ≡ true
  agree h = known ∙ ap not h
