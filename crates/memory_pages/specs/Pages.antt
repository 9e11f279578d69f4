-- Page entries by place, and what becomes of them.
use Rattle.std.specs.Prelude.{ℕ, ◌+◌, ◌*◌, ◌-◌, ◌/◌, ◌%◌, ◌≤◌, ◌<◌, ◌≡◌, Bool, false, cond, List, [], ◌∷◌, ◌++◌, length, take, drop, get_or, set, eqb}
use Rattle.block_forms.specs.Limits.{block_limit}
use Rattle.model.specs.State.{Held}
use Rattle.basics.specs.Lists.{tab, first_index}
use Rattle.memory_layout.specs.Flat.{Flat, flat_of, entry_in, no_entry, Room, Becomes, with_rows, with_entries}
use Rattle.memory_layout.specs.Store.{start_of}
use Rattle.memory_layout.specs.declared.Entry.{Entry}
use Rattle.memory_rows.specs.Rows.{NewRow}
use Rattle.memory_rows.specs.Cells.{InOrder}
use Rattle.memory_rows.specs.declared.Row.{Row}

-- r is the first page of table t, or of a later table, or how many pages there are
pub record TableFrom (f : Flat) (t r : ℕ) : Type 0 where
  pub most : r ≤ length f.entries
  pub below : (p : ℕ) → p < r → (entry_in f p).table < t
  pub above : (p : ℕ) → r ≤ p → p < length f.entries → t ≤ (entry_in f p).table

-- row i is on one of the pages from page a up to, not including, page b
pub record OnPages (f : Flat) (a b i : ℕ) : Type 0 where
  pub some : a < b
  pub most : b ≤ length f.entries
  pub first : start_of f a ≤ i
  pub last : i < start_of f b

-- r is the page, from page a up to, not including, page b, that has row i
pub record PageOf (f : Flat) (a b i r : ℕ) : Type 0 where
  pub low : a ≤ r
  pub high : r < b
  pub first : start_of f r ≤ i
  pub last : i < start_of f (r + 1)

-- a page of table t may stand before page p: no page before it is of a later table, and none from it on of an earlier one
pub record Between (f : Flat) (t p : ℕ) : Type 0 where
  pub table : t < 8
  pub most : p ≤ length f.entries
  pub below : (j : ℕ) → j < p → (entry_in f j).table ≤ t
  pub above : (j : ℕ) → p ≤ j → j < length f.entries → t ≤ (entry_in f j).table

-- a page of n rows that is in no block
abbrev pub dirty : ℕ → ℕ → Entry
dirty t n = record { table = t; frozen = false; count = n; block = 0 }

-- a page of n rows that is in block b
abbrev pub clean : ℕ → ℕ → ℕ → Entry
clean t b n = record { table = t; frozen = false; count = n; block = b }

-- the two bytes of a page that name its block and say whether it is frozen
unfoldable pub word_of : ℕ → Bool → ℕ
word_of b z = b + cond z block_limit 0

-- the entry with the block b, and frozen or not
abbrev pub with_block : Entry → ℕ → Bool → Entry
with_block e b z = record { table = e.table; frozen = z; count = e.count; block = b }

-- the entry with n rows
abbrev pub with_count : Entry → ℕ → Entry
with_count e n = record { table = e.table; frozen = e.frozen; count = n; block = e.block }

-- page p of the entries
abbrev pub entry_of : List Entry → ℕ → Entry
entry_of es p = get_or es p no_entry

-- page p has one row more
abbrev pub more_rows : ℕ → List Entry → List Entry
more_rows p es = set es p (with_count (entry_of es p) ((entry_of es p).count + 1))

-- the last page has one row more
abbrev pub more_last : List Entry → List Entry
more_last es = more_rows (length es - 1) es

-- x behind all others
abbrev pub behind : {A : Type 0} → A → List A → List A
behind x xs = xs ++ x ∷ []

-- page p has one row less
abbrev pub fewer_rows : ℕ → List Entry → List Entry
fewer_rows p es = set es p (with_count (entry_of es p) ((entry_of es p).count - 1))

-- page p is in block b, and frozen or not
abbrev pub set_block : ℕ → ℕ → Bool → List Entry → List Entry
set_block p b z es = set es p (with_block (entry_of es p) b z)

-- page p becomes two pages, the first with k rows
abbrev pub split_entry : ℕ → ℕ → List Entry → List Entry
split_entry p k es = take p es ++ dirty (entry_of es p).table k ∷ dirty (entry_of es p).table ((entry_of es p).count - k) ∷ drop (p + 1) es

-- pages p and p + 1 become one page
abbrev pub join_entries : ℕ → List Entry → List Entry
join_entries p es = take p es ++ dirty (entry_of es p).table ((entry_of es p).count + (entry_of es (p + 1)).count) ∷ drop (p + 2) es

-- there is page p, and the block's number has 12 bits
pub record MaySet (f : Flat) (p b : ℕ) : Type 0 where
  pub place : p < length f.entries
  pub block : b < block_limit

-- a page of table t may stand before page p, and there is room for it
pub record MayInsert (f : Flat) (p t : ℕ) : Type 0 where
  pub place : Between f t p
  pub space : length f.entries < 2 * f.head.capacity

-- page p has no row
pub record MayRemove (f : Flat) (p : ℕ) : Type 0 where
  pub place : p < length f.entries
  pub empty : (entry_in f p).count ≡ 0

-- page p has k rows or more, and there is room for another page
pub record MaySplit (f : Flat) (p k : ℕ) : Type 0 where
  pub place : p < length f.entries
  pub rows : k ≤ (entry_in f p).count
  pub space : length f.entries < 2 * f.head.capacity

-- there is a page behind page p, and both are of one table
pub record MayJoin (f : Flat) (p : ℕ) : Type 0 where
  pub place : p + 1 < length f.entries
  pub table : (entry_in f (p + 1)).table ≡ (entry_in f p).table

-- there is row i, and page p has a row
pub record MayLose (f : Flat) (p i : ℕ) : Type 0 where
  pub place : p < length f.entries
  pub rows : 1 ≤ (entry_in f p).count
  pub row : i < length f.rows

-- a page of table t may stand behind all others, in block b, and there is room for it
pub record MayAppend (f : Flat) (t b : ℕ) : Type 0 where
  pub table : t < 8
  pub below : (j : ℕ) → j < length f.entries → (entry_in f j).table ≤ t
  pub space : length f.entries < 2 * f.head.capacity
  pub block : b < block_limit

-- such a page may be appended, and every row is in the slot of its index
pub record PageBehind (m : List ℕ) (t b : ℕ) : Type 0 where
  pub room : Room m
  pub order : InOrder m
  pub may : MayAppend (flat_of m) t b

-- the row may be appended to the last page, and every row is in the slot of its index
pub record RowBehind (m : List ℕ) (r : Row) (xs : List ℕ) : Type 0 where
  pub new : NewRow m (length (flat_of m).rows) r xs
  pub order : InOrder m
  pub page : 1 ≤ length (flat_of m).entries

-- ---- what the functions promise

-- the page entries become what g makes of them, and nothing else changes
abbrev pub EntriesBecome : List ℕ → List ℕ → (List Entry → List Entry) → Type 0
EntriesBecome m m' g = Becomes m m' (with_entries (flat_of m) (g (flat_of m).entries))

-- the rows become what h makes of them and the page entries what g makes of them, and nothing else changes
abbrev pub RowsBecome : List ℕ → List ℕ → (List Held → List Held) → (List Entry → List Entry) → Type 0
RowsBecome m m' h g = Becomes m m' (with_entries (with_rows (flat_of m) (h (flat_of m).rows)) (g (flat_of m).entries))

-- ---- frozen pages found

-- two bytes that name a page's block say that it is frozen
abbrev pub frozen_word : ℕ → Bool
frozen_word w = eqb (w / block_limit % 2) 1

-- a search of n numbers for that of a frozen page may start at r
pub record Passed (g : ℕ → ℕ) (n r : ℕ) : Type 0 where
  pub most : r ≤ n
  pub rest : first_index frozen_word (tab g 0 (n - 0)) ≡ r + first_index frozen_word (tab g r (n - r))

-- ---- pages counted

-- the page is frozen: it is still to be written
abbrev pub frozen_entry : Entry → Bool
frozen_entry e = e.frozen

-- the page is in no block
abbrev pub dirty_entry : Entry → Bool
dirty_entry e = eqb e.block 0
