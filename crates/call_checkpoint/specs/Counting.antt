-- Which entries of the list of pages name a block.
use Rattle.std.specs.Prelude.{ℕ, suc, ◌+◌, ◌≤◌, ◌<◌, ◌≡◌, Option, Some, None, Bool, not, List, [], ◌∷◌, ◌++◌, length, drop, get_or, eqb}
use Rattle.basics.specs.Basics.{if'◌then◌else◌, all}
use Rattle.memory_layout.specs.Flat.{Flat}

-- the place of the first entry that names no block yet; how many entries there are, if each does
unfoldable pub first_zero : List ℕ → ℕ
first_zero [] = 0
first_zero (e ∷ es) = if' eqb e 0 then 0 else suc (first_zero es)

-- where the first entry that names no block yet stands, if there is one
abbrev pub IsFirstZero : Option ℕ → List ℕ → Type 0
IsFirstZero None es = length es ≡ first_zero es
IsFirstZero (Some i) es = (i ≡ first_zero es) × (i < length es)

-- each entry before i names a block: the first that does not is found from i on
pub record NamedBefore (es : List ℕ) (i : ℕ) : Type 0 where
  pub inside : i ≤ length es
  pub rest : first_zero es ≡ i + first_zero (drop i es)

-- entry i names a block
unfoldable pub is_named : List ℕ → ℕ → Bool
is_named es i = not (eqb (get_or es i 0) 0)

-- each of the four entries from i on names a block
unfoldable pub four_named : List ℕ → ℕ → Bool
four_named es i = all (is_named es) (i ∷ (i + 1) ∷ (i + 2) ∷ (i + 3) ∷ [])

-- the blocks that the header to come and its directory name
unfoldable pub named_in : Flat → List ℕ
named_in f = f.named ++ f.directories
