-- Numbers of four bytes, high byte first; equal lists.
use Rattle.std.specs.Prelude.{ℕ, ◌+◌, ◌*◌, ◌/◌, ◌%◌, Bool, true, false, ◌&&◌, List, [], ◌∷◌, get_or, eqb}

-- the four bytes of a number
unfoldable pub be4 : ℕ → List ℕ
be4 v = v / 16777216 % 256 ∷ v / 65536 % 256 ∷ v / 256 % 256 ∷ v % 256 ∷ []

-- the number in the four bytes from at on; bytes past the end count as 0
unfoldable pub num4 : List ℕ → ℕ → ℕ
num4 xs at = get_or xs at 0 * 16777216 + get_or xs (at + 1) 0 * 65536 + get_or xs (at + 2) 0 * 256 + get_or xs (at + 3) 0

-- the two lists are equal
unfoldable pub same : List ℕ → List ℕ → Bool
same [] [] = true
same [] (y ∷ ys) = false
same (x ∷ xs) [] = false
same (x ∷ xs) (y ∷ ys) = eqb x y && same xs ys
