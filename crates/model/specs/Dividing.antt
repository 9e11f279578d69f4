-- The dividing tuple of a split, found from both ends: the walk over sizes, and the law that it ends the first part of the splitting rule.
use Rattle.std.specs.Prelude.{ℕ, zero, suc, ◌+◌, ◌-◌, ◌<◌, ◌≡◌, true, false, List, [], ◌∷◌, ◌++◌, map, length, get_or, replicate, ltb}
use Rattle.model.specs.State.{Held}
use Rattle.model.specs.Rules.{held_size, half}

-- Between the ends stand n + 1 of the sizes ws, from place i on; l and r are the sums of what the left and the right side took. The side whose
-- sum with its next size is smaller takes that, on a tie the right side, until one is left: its place.
unfoldable pub meet : List ℕ → ℕ → ℕ → ℕ → ℕ → ℕ
meet ws zero i l r = i
meet ws (suc n) i l r =
    elim (ltb (l + get_or ws i 0) (r + get_or ws (suc (i + n)) 0)) [
      | true ↦ meet ws n (suc i) (l + get_or ws i 0) r
      | false ↦ meet ws n i l (r + get_or ws (suc (i + n)) 0)
    ]

-- the place of the dividing tuple: the ends walk in from the first and the last size
unfoldable pub dividing : List ℕ → ℕ
dividing ws = meet ws (length ws - 1) 0 0 0

-- of any tuples, at least one, the dividing tuple ends the first part of the splitting rule
abbrev pub EndsFirstPart : Type 0
EndsFirstPart = (hs : List Held) → 0 < length hs → half hs ≡ suc (dividing (map held_size hs))

-- where the ends meet, in worked cases
pub record DividingCases : Type 0 where
  -- one tuple; on a tie the right side takes
  pub one : dividing (53 ∷ []) ≡ 0
  pub equal : dividing (9 ∷ 9 ∷ []) ≡ 0
  pub three : dividing (9 ∷ 9 ∷ 9 ∷ []) ≡ 1
  -- one large tuple, as the first or the last
  pub first : dividing (53 ∷ replicate 5 9) ≡ 0
  pub last : dividing (replicate 5 9 ++ 53 ∷ []) ≡ 5
  -- 530 bytes: 5 and 5; 1,007: 10 and 9
  pub five_and_five : dividing (replicate 10 53) ≡ 4
  pub nineteen : dividing (replicate 19 53) ≡ 9
  -- a full page of 56 committed tuples without payload, and a new one behind them
  pub fifty_seven : dividing (replicate 56 9 ++ 13 ∷ []) ≡ 28
