-- Numbers in bytes, low byte first, and changes of some bytes, each stated byte by byte.
use Rattle.std.specs.Prelude.{ℕ, ◌+◌, ◌*◌, ◌-◌, ◌/◌, ◌%◌, ◌≤◌, ◌<◌, ◌≡◌, List, [], ◌∷◌, get_or, length}
use Rattle.basics.specs.Lists.{tab}

-- the number in the two bytes from a on
unfoldable pub le2 : List ℕ → ℕ → ℕ
le2 m a = get_or m a 0 + get_or m (a + 1) 0 * 256

-- the number in the four bytes from a on
unfoldable pub le4 : List ℕ → ℕ → ℕ
le4 m a = get_or m a 0 + get_or m (a + 1) 0 * 256 + get_or m (a + 2) 0 * 65536 + get_or m (a + 3) 0 * 16777216

-- n bytes from a on
unfoldable pub bytes : List ℕ → ℕ → ℕ → List ℕ
bytes m a n = tab (λ k. get_or m k 0) a n

-- the two bytes of a number
abbrev pub bytes2 : ℕ → List ℕ
bytes2 x = x % 256 ∷ x / 256 % 256 ∷ []

-- the four bytes of a number
abbrev pub bytes4 : ℕ → List ℕ
bytes4 x = x % 256 ∷ x / 256 % 256 ∷ x / 65536 % 256 ∷ x / 16777216 % 256 ∷ []

-- from m to m' the n bytes from a on may differ, and no other
pub record Apart (m m' : List ℕ) (a n : ℕ) : Type 0 where
  pub size : length m' ≡ length m
  pub below : (b : ℕ) → b < a → get_or m' b 0 ≡ get_or m b 0
  pub above : (b : ℕ) → a + n ≤ b → get_or m' b 0 ≡ get_or m b 0

-- the bytes from lo up to, not including, hi are w further up
pub record Raised (m m' : List ℕ) (lo hi w : ℕ) : Type 0 where
  pub apart : Apart m m' lo (hi - lo + w)
  pub moved : (b : ℕ) → lo ≤ b → b < hi → get_or m' (b + w) 0 ≡ get_or m b 0

-- the bytes from lo + w up to, not including, hi are w further down
pub record Lowered (m m' : List ℕ) (lo hi w : ℕ) : Type 0 where
  pub apart : Apart m m' lo (hi - lo)
  pub moved : (b : ℕ) → lo ≤ b → b + w < hi → get_or m' b 0 ≡ get_or m (b + w) 0

-- the bytes from a on are xs, and no other byte differs
pub record Wrote (m m' : List ℕ) (a : ℕ) (xs : List ℕ) : Type 0 where
  pub apart : Apart m m' a (length xs)
  pub here : (k : ℕ) → k < length xs → get_or m' (a + k) 0 ≡ get_or xs k 0

-- byte j of those from base on
abbrev pub column1 : List ℕ → ℕ → ℕ → ℕ
column1 m base j = get_or m (base + j) 0

-- number j of the numbers of two bytes from base on
abbrev pub column2 : List ℕ → ℕ → ℕ → ℕ
column2 m base j = le2 m (base + j * 2)

-- number j of the numbers of four bytes from base on
abbrev pub column4 : List ℕ → ℕ → ℕ → ℕ
column4 m base j = le4 m (base + j * 4)

-- the numbers of two bytes from base on are d more, modulo 65,536, from number s up to, not including, number e
pub record Added (m m' : List ℕ) (base s e d : ℕ) : Type 0 where
  pub apart : Apart m m' (base + s * 2) ((e - s) * 2)
  pub each : (j : ℕ) → s ≤ j → j < e → column2 m' base j ≡ (column2 m base j + d) % 65536
