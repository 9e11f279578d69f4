-- A count of the elements that pass a test, turn by turn.
use Rattle.basics.proofs.Kit.{◌≡◌, sym, ap, ◌∙◌, Bool, cond, List, ◌∷◌, ℕ, ◌+◌, ◌≤◌, ◌<◌, add-one, length, drop, get_or, drop_of_length-le, drop-cons, arith}
use Rattle.basics.specs.Basics.{how_many}
use Rattle.basics.proofs.Froms.{many_cons}

-- k of those before place p pass, and w do in all
pub record Counted {A : Type 0} (f : A → Bool) (xs : List A) (w k p : ℕ) : Type 0 where
  pub inside : p ≤ length xs
  pub few : k ≤ p
  pub rest : w ≡ k + how_many f (drop p xs)

module _ {A : Type 0} (f : A → Bool) (xs : List A) where
  pub counted_start : (p : ℕ) → p ≤ length xs → Counted f xs (how_many f (drop p xs)) 0 p
  counted_start p h = record { inside = h; few = omega arith; rest = omega arith }

  module _ {w k p : ℕ} (c : Counted f xs w k p) where
    pub counted_iteration : (d : A) {r : ℕ} → p < length xs → r ≡ cond (f (get_or xs p d)) 1 0 → r ≤ 1 → Counted f xs w (k + r) (p + 1)
    counted_iteration d h e l =
        let t : how_many f (drop p xs) ≡ cond (f (get_or xs p d)) 1 0 + how_many f (drop (p + 1) xs) =
        ap (how_many f) (drop-cons xs p d h ∙ ap (λ (z : ℕ). get_or xs p d ∷ drop z xs) (sym (add-one p))) ∙ many_cons f (get_or xs p d) (drop (p + 1) xs) in
        record { inside = omega arith; few = omega (arith, c.few); rest = omega (arith, c.rest) }

    pub counted_end : length xs ≤ p → k ≡ w
    unfolding how_many
    counted_end h = omega (arith, c.rest, ap (how_many f) (drop_of_length-le xs {i = p} h))
