-- What a header may count and name, and what its directories may name: the tests of refusals 22 and 23 on numbers.
use Rattle.std.specs.Prelude.{ℕ, ◌+◌, ◌-◌, ◌/◌, Bool, not, ◌&&◌, List, [], ◌∷◌, take, drop, eqb, ltb, leb}
use Rattle.basics.specs.Basics.{all, every, is_in, distinct}
use Rattle.block_forms.specs.Limits.{entries_per_block}
use Rattle.block_forms.specs.declared.Header.{Header}
use Rattle.image_rows.specs.Chains.{row_limit}

-- a capacity is 1 to 1,024
abbrev pub capacity_limit : ℕ
capacity_limit = row_limit

-- a block that may be named in an image of n blocks: not zero, and not beyond the image
unfoldable pub block_ok : ℕ → ℕ → Bool
block_ok n b = ltb 0 b && ltb b n

-- no block
unfoldable pub is_zero : ℕ → Bool
is_zero b = eqb b 0

-- how many directory blocks p pages take
unfoldable pub directories_for : ℕ → ℕ
directories_for p = (p + (entries_per_block - 1)) / entries_per_block

-- the four directory block numbers
abbrev pub numbers_of : Header → List ℕ
numbers_of h = h.d0 ∷ h.d1 ∷ h.d2 ∷ h.d3 ∷ []

-- those in use
unfoldable pub directory_blocks : Header → List ℕ
directory_blocks h = take h.directories (numbers_of h)

-- the numbers that are not in use
unfoldable pub unused_numbers : Header → List ℕ
unused_numbers h = drop h.directories (numbers_of h)

-- block count the image's; N 1 to 1,024; pages not above N; directory count ⌈P/336⌉
unfoldable pub counts_ok : ℕ → Header → Bool
counts_ok n h =
    every (
    eqb h.blocks n
    ∷ leb 1 h.capacity
    ∷ leb h.capacity capacity_limit
    ∷ leb h.pages h.capacity
    ∷ eqb h.directories (directories_for h.pages)
    ∷ [])

-- these counts; directory blocks neither zero, beyond the image nor repeated; unused directory numbers zero. (Kind and stray bits are the
-- block's; level and next number take every 32 bits.)
unfoldable pub header_ok : ℕ → Header → Bool
header_ok n h = every (counts_ok n h ∷ all (block_ok n) (directory_blocks h) ∷ distinct (directory_blocks h) ∷ all is_zero (unused_numbers h) ∷ [])

-- no entry is zero, beyond the image, a directory block or repeated
unfoldable pub entries_ok : ℕ → List ℕ → List ℕ → Bool
entries_ok n ds es = every (all (block_ok n) es ∷ all (λ e. not (is_in e ds)) es ∷ distinct es ∷ [])
