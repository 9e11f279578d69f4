-- A block that is a list of fields, each its width and its value: bit-packed, and zero bits after the last.
use Rattle.std.specs.Prelude.{ℕ, zero, suc, ◌*◌, ◌-◌, List, [], ◌∷◌, ◌++◌, length, take, drop, replicate}
use Rattle.block_bits.specs.Bits.{bits_of, number}
use Rattle.block_forms.specs.Limits.{block_size}

-- n zeros
abbrev pub zeros : ℕ → List ℕ
zeros n = replicate n 0

-- the bits of fields one after another
unfoldable pub spell : List (ℕ × ℕ) → List ℕ
spell [] = []
spell (f ∷ fs) = bits_of f.0 f.1 ++ spell fs

-- the n bytes of a list of bits
unfoldable pub bytes_of : ℕ → List ℕ → List ℕ
bytes_of zero b = []
bytes_of (suc n) b = number (take 8 b) ∷ bytes_of n (drop 8 b)

-- bits, and zeros up to a block's end
unfoldable pub padded : List ℕ → List ℕ
padded d = d ++ zeros (8 * block_size - length d)

-- the 512 bytes of fields
unfoldable pub block_of : List (ℕ × ℕ) → List ℕ
block_of fs = bytes_of block_size (padded (spell fs))
