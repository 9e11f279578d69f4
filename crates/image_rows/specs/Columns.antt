-- Rows as the code holds them for its tests: four columns of numbers. A row read from them has no payload.
use Rattle.std.specs.Prelude.{ℕ, ◌-◌, ◌/◌, ◌%◌, ◌≤◌, Bool, List, [], ◌∷◌, map, length, get_or, eqb, leb}
use Rattle.basics.specs.Basics.{if'◌then◌else◌, all, every, paired, distinct}
use Rattle.basics.specs.Lists.{tab}
use Rattle.block_forms.specs.Limits.{statement_limit}
use Rattle.block_forms.specs.Tuple.{Owner, committed, tentative}
use Rattle.image_rows.specs.Chains.{row_limit}
use Rattle.image_rows.specs.Rows.{Row, number, follows, starts_well, is_below, transactions, open_limit, statement_ok}

-- an owner's code is 0 for committed, else 1 + transaction and statement
unfoldable pub coded_owner : ℕ → Owner
coded_owner o = if' eqb o 0 then committed else tentative ((o - 1) / statement_limit) ((o - 1) % statement_limit)

-- the row with these codes: table and key, number, owner, mark (0 or 1)
unfoldable pub coded : ℕ → ℕ → ℕ → ℕ → Row
coded p n o m = (p / 4294967296, record { key = p % 4294967296; number = n; owner = coded_owner o; mark = leb 1 m; payload = [] })

-- the row at index i of four columns
unfoldable pub row_at : List ℕ → List ℕ → List ℕ → List ℕ → ℕ → Row
row_at ps ns os ms i = coded (get_or ps i 0) (get_or ns i 0) (get_or os i 0) (get_or ms i 0)

-- the first n rows of four columns
unfoldable pub rows_in : List ℕ → List ℕ → List ℕ → List ℕ → ℕ → List Row
rows_in ps ns os ms n = tab (row_at ps ns os ms) 0 n

-- each of the four columns has n rows
pub record ColumnsHold (ps ns os ms : List ℕ) (n : ℕ) : Type 0 where
  pub places : n ≤ length ps
  pub numbers : n ≤ length ns
  pub owners : n ≤ length os
  pub marks : n ≤ length ms

-- numbers and owners have n rows, and these are not too many
pub record OwnersHold (ns os : List ℕ) (n : ℕ) : Type 0 where
  pub few : n ≤ row_limit
  pub numbers : n ≤ length ns
  pub owners : n ≤ length os

-- a row without its payload
abbrev pub bare : Row → Row
bare r = (r.0, record { key = r.1.key; number = r.1.number; owner = r.1.owner; mark = r.1.mark; payload = [] })

-- the tests of `rows_ok` that columns show: all but the count and the delete marks' payloads
unfoldable pub columns_ok : ℕ → List Row → Bool
columns_ok next rs =
    every (
    paired follows rs
    ∷ starts_well rs
    ∷ distinct (map number rs)
    ∷ all (is_below next) rs
    ∷ leb (length (transactions rs)) open_limit
    ∷ all (statement_ok rs) rs
    ∷ [])
