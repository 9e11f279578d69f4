-- Fields one after another: a field is its width and its value.
use Rattle.std.specs.Prelude.{ℕ, ◌+◌, ◌*◌, ◌^◌, ◌≤◌, ◌<◌, List, [], ◌∷◌, length, ◌⊎◌}
use Rattle.block_bits.specs.Bits.{bits_of, field}
use Rattle.basics.specs.Lists.{over}

-- bits, with the fields fs put one after another from bit at on
abbrev pub put_all : List ℕ → ℕ → List (ℕ × ℕ) → List ℕ
put_all bits at [] = bits
put_all bits at (f ∷ fs) = put_all (over bits at (bits_of f.0 f.1)) (at + f.0) fs

-- the numbers in fields of the widths ws, one after another from bit at on
abbrev pub get_all : List ℕ → ℕ → List ℕ → List ℕ
get_all bits at [] = []
get_all bits at (w ∷ ws) = field bits at w ∷ get_all bits (at + w) ws

-- the widths of fields
abbrev pub widths : List (ℕ × ℕ) → List ℕ
widths [] = []
widths (f ∷ fs) = f.0 ∷ widths fs

-- the values of fields
abbrev pub values : List (ℕ × ℕ) → List ℕ
values [] = []
values (f ∷ fs) = f.1 ∷ values fs

-- how many bits the fields take
abbrev pub total : List (ℕ × ℕ) → ℕ
total [] = 0
total (f ∷ fs) = f.0 + total fs

-- each value fits its width
abbrev pub Fit : List (ℕ × ℕ) → Type 0
Fit [] = Unit {0}
Fit (f ∷ fs) = (f.1 < 2 ^ f.0) × Fit fs

-- the w bits from at on and the w' bits from at' on have none in common
abbrev pub Apart : ℕ → ℕ → ℕ → ℕ → Type 0
Apart at w at' w' = (at' + w' ≤ at) ⊎ (at + w ≤ at')

-- the fields of the widths ws and the values vs, as many as there are of both
abbrev pub fields_of : List ℕ → List ℕ → List (ℕ × ℕ)
fields_of [] vs = []
fields_of (w ∷ ws) [] = []
fields_of (w ∷ ws) (v ∷ vs) = (w, v) ∷ fields_of ws vs

-- how many bits the widths come to
abbrev pub sum : List ℕ → ℕ
sum [] = 0
sum (w ∷ ws) = w + sum ws

-- each width is at most 56
abbrev pub Words : List ℕ → Type 0
Words [] = Unit {0}
Words (w ∷ ws) = (w ≤ 56) × Words ws

-- fields of the widths ws, from bit at on, are within the block s
pub record AllInside (s : List ℕ) (at : ℕ) (ws : List ℕ) : Type 0 where
  pub words : Words ws
  pub within : at + sum ws ≤ 8 * length s
  pub small : at + sum ws < 2 ^ 32
