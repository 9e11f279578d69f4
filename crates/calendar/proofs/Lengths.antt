-- The length of a booking, from the bytes of its payload.
use Rattle.basics.proofs.Kit.{◌≡◌, refl, List, [], ◌∷◌, ◌+◌, ◌*◌, ◌≤◌, ◌<◌, ℕ, length, get_or, arith}
use Rattle.calendar.specs.Calendar.{minutes}

-- a payload of fewer than two bytes has none
pub minutes_short : (bs : List ℕ) → length bs < 2 → minutes bs ≡ 0
unfolding minutes
minutes_short [] h = refl
minutes_short (b ∷ []) h = refl
minutes_short (b ∷ c ∷ bs) h = absurd (omega arith)

-- another has two
pub minutes_two : (bs : List ℕ) → 2 ≤ length bs → minutes bs ≡ 256 * get_or bs 0 0 + get_or bs 1 0
unfolding minutes
minutes_two [] h = absurd (omega arith)
minutes_two (b ∷ []) h = absurd (omega arith)
minutes_two (b ∷ c ∷ bs) h = refl
