-- Blocks that are in use too: none, one, and one list after another.
use Rattle.basics.proofs.Kit.{◌≡◌, refl, sym, ap, ◌∙◌, Bool, false, ◌||◌, List, [], ◌∷◌, ◌++◌, ℕ, eqb}
use Rattle.basics.specs.Basics.{any, is_in}
use Rattle.basics.proofs.Searches.{any_cons, or_none}
use Rattle.basics.proofs.Elements.{in_append, eqb_swap}
use Rattle.call_recovery.specs.Loading.{used_by}
use Rattle.basics.proofs.Elements.{or_move}
use Rattle.model.specs.Checkpoint.{used_and}

pub used_none : (u : ℕ → Bool) → used_by [] u ≡ u
unfolding used_by is_in any
used_none u = refl

pub used_one : (b : ℕ) (u : ℕ → Bool) → used_and b u ≡ used_by (b ∷ []) u
unfolding used_by is_in any
used_one b u = λ i c. ((eqb_swap b c ∙ sym (or_none (eqb c b)) ∙ sym (any_cons (eqb c) b [])) i) || u c

pub used_then : (xs ys : List ℕ) (u : ℕ → Bool) → used_by ys (used_by xs u) ≡ used_by (xs ++ ys) u
unfolding used_by
used_then xs ys u = λ i c. (sym (or_move (is_in c xs) (is_in c ys) (u c)) ∙ ap (λ (b : Bool). b || u c) (sym (in_append c xs ys))) i

-- where no block was in use
pub used_first : (xs : List ℕ) → used_by xs (λ c. false) ≡ (λ c. is_in c xs)
unfolding used_by
used_first xs = λ i c. or_none (is_in c xs) i
