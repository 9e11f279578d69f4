-- The rows of a table, and the place of a new tuple among them, on the flat lists.
use Rattle.std.specs.Prelude.{ℕ, ◌+◌, ◌-◌, Bool, List, take, drop, leb}
use Rattle.model.specs.State.{Held}
use Rattle.basics.specs.Lists.{first_index, last_index}
use Rattle.memory_layout.specs.Flat.{Flat}
use Rattle.memory_layout.specs.Store.{start_of}

-- the first page of table t; if it has none, that of the next table that has, or how many pages there are
unfoldable pub table_page : Flat → ℕ → ℕ
table_page f t = first_index (λ e. leb t e.table) f.entries

-- the row with which that page starts
unfoldable pub table_row : Flat → ℕ → ℕ
table_row f t = start_of f (table_page f t)

-- the rows of table t
unfoldable pub table_rows : Flat → ℕ → List Held
table_rows f t = take (table_row f (t + 1) - table_row f t) (drop (table_row f t) f.rows)

-- a tuple's key is not above k
abbrev pub key_up_to : ℕ → Held → Bool
key_up_to k h = leb h.tuple.key k

-- where a new tuple with the key k goes: behind the last row of table t whose key is not above k; if there is none, where the rows of the table start
unfoldable pub place_in : Flat → ℕ → ℕ → ℕ
place_in f t k = table_row f t + last_index (key_up_to k) (table_rows f t)
