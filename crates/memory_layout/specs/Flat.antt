-- All that the memory holds, as flat lists of typed values: what every function that changes the memory says of it.
use Rattle.std.specs.Prelude.{ℕ, ◌+◌, ◌*◌, ◌≤◌, ◌<◌, ◌≡◌, Bool, false, List, [], length, get_or}
use Rattle.image_rows.specs.Rows.{open_limit}
use Rattle.model.specs.Recover.{memory_for}
use Rattle.image.specs.Stages.{capacity_limit}
use Rattle.block_forms.specs.Limits.{block_limit}
use Rattle.block_forms.specs.Tuple.{committed}
use Rattle.model.specs.State.{nothing, Held, Active}
use Rattle.memory_bytes.specs.Bytes.{le4}
use Rattle.basics.specs.Lists.{tab}
use Rattle.memory_layout.specs.Places.{signature}
use Rattle.memory_layout.specs.Views.{head_of, row_count, open_count, named_count, directory_count, table_end, page_count, counts_of, open_at, directory_at, is_used, row_at, start_at, entry_at, named_block}
use Rattle.memory_layout.specs.declared.Head.{Head}
use Rattle.memory_layout.specs.declared.Counts.{Counts}
use Rattle.memory_layout.specs.declared.Entry.{Entry}

-- All that the memory holds. rows: of all pages, in order; named: the directory entries; directories: the directory blocks written
pub record Flat : Type 0 where
  pub head : Head
  pub opens : List Active
  pub rows : List Held
  pub entries : List Entry
  pub named : List ℕ
  pub directories : List ℕ
  pub used : ℕ → Bool

-- ---- the lists, each as long as its count says

-- the capacity
abbrev pub capacity_of : List ℕ → ℕ
capacity_of m = le4 m 4

-- the open transactions, in the order in which they opened
unfoldable pub opens_of : List ℕ → List Active
opens_of m = tab (open_at m) 0 (open_count m)

-- the rows of all pages
unfoldable pub rows_of : List ℕ → List Held
rows_of m = tab (row_at m (capacity_of m)) 0 (row_count m)

-- the page entries
unfoldable pub entries_of : List ℕ → List Entry
entries_of m = tab (entry_at m (capacity_of m)) 0 (page_count m)

-- the directory entries
unfoldable pub named_of : List ℕ → List ℕ
named_of m = tab (named_block m (capacity_of m)) 0 (named_count m)

-- the directory blocks written
unfoldable pub directories_of : List ℕ → List ℕ
directories_of m = tab (directory_at m) 0 (directory_count m)

-- what the memory holds
abbrev pub flat_of : List ℕ → Flat
flat_of m =
    record { head = head_of m; opens = opens_of m; rows = rows_of m; entries = entries_of m; named = named_of m; directories = directories_of m; used = is_used m }

-- c is the capacity, and the rows and their columns have room
pub record Capacity (m : List ℕ) (c : ℕ) : Type 0 where
  pub is : c ≡ capacity_of m
  pub least : 1 ≤ c
  pub most : c ≤ capacity_limit
  pub long : memory_for c ≤ length m
  pub rows : length (rows_of m) ≤ c

-- ---- room

-- the ranges of the head's numbers, for a memory of size bytes
pub record InRange (size : ℕ) (h : Head) (n : Counts) : Type 0 where
  pub least : 1 ≤ h.capacity
  pub most : h.capacity ≤ capacity_limit
  pub long : memory_for h.capacity ≤ size
  pub few : 2 ≤ h.blocks
  pub many : h.blocks ≤ block_limit
  pub taken : h.taken < h.blocks
  pub rows : n.rows ≤ h.capacity
  pub pages : n.pages ≤ 2 * h.capacity
  pub opens : n.opens ≤ open_limit
  pub named : n.named ≤ h.capacity
  pub directories : n.directories ≤ 4

-- the memory has room for what its head says, tables do not fall, and pages follow each other from row 0 to the last: all of refusal
-- 4's test but that no page is empty
pub record Room (m : List ℕ) : Type 0 where
  pub sign : le4 m 0 ≡ signature
  pub range : InRange (length m) (head_of m) (counts_of m)
  pub tables : (t : ℕ) → t < 7 → table_end m t ≤ table_end m (t + 1)
  pub begins : start_at m (capacity_of m) 0 ≡ 0
  pub rises : (p : ℕ) → p < page_count m → start_at m (capacity_of m) p ≤ start_at m (capacity_of m) (p + 1)

-- a head that may take another's place: the capacity, and with it the place of each list, stays
pub record Replaces (g h : Head) : Type 0 where
  pub capacity : h.capacity ≡ g.capacity
  pub few : 2 ≤ h.blocks
  pub many : h.blocks ≤ block_limit
  pub taken : h.taken < h.blocks

-- what a function that changes the memory promises: f is all that it holds then
pub record Becomes (m m' : List ℕ) (f : Flat) : Type 0 where
  pub size : length m' ≡ length m
  pub room : Room m'
  pub flat : flat_of m' ≡ f

-- ---- one part exchanged

-- another head
abbrev pub with_head : Flat → Head → Flat
with_head f h = record { head = h; opens = f.opens; rows = f.rows; entries = f.entries; named = f.named; directories = f.directories; used = f.used }

-- other open transactions
abbrev pub with_opens : Flat → List Active → Flat
with_opens f xs = record { head = f.head; opens = xs; rows = f.rows; entries = f.entries; named = f.named; directories = f.directories; used = f.used }

-- other rows
abbrev pub with_rows : Flat → List Held → Flat
with_rows f xs = record { head = f.head; opens = f.opens; rows = xs; entries = f.entries; named = f.named; directories = f.directories; used = f.used }

-- other page entries
abbrev pub with_entries : Flat → List Entry → Flat
with_entries f xs = record { head = f.head; opens = f.opens; rows = f.rows; entries = xs; named = f.named; directories = f.directories; used = f.used }

-- other directory entries
abbrev pub with_named : Flat → List ℕ → Flat
with_named f xs = record { head = f.head; opens = f.opens; rows = f.rows; entries = f.entries; named = xs; directories = f.directories; used = f.used }

-- other directory blocks written
abbrev pub with_directories : Flat → List ℕ → Flat
with_directories f xs = record { head = f.head; opens = f.opens; rows = f.rows; entries = f.entries; named = f.named; directories = xs; used = f.used }

-- other blocks in use
abbrev pub with_used : Flat → (ℕ → Bool) → Flat
with_used f u = record { head = f.head; opens = f.opens; rows = f.rows; entries = f.entries; named = f.named; directories = f.directories; used = u }

-- ---- elements

-- what is read past the end of the rows: a row of zeros
abbrev pub no_row : Held
no_row = record { tuple = record { key = 0; number = 0; owner = committed; mark = false; payload = [] }; pending = nothing }

-- what is read past the end of the page entries: an entry of zeros
abbrev pub no_entry : Entry
no_entry = record { table = 0; frozen = false; count = 0; block = 0 }

-- what is read past the end of the open transactions: one of zeros
abbrev pub no_open : Active
no_open = record { transaction = 0; written = 0 }

-- row i
abbrev pub row_in : Flat → ℕ → Held
row_in f i = get_or f.rows i no_row

-- page entry p
abbrev pub entry_in : Flat → ℕ → Entry
entry_in f p = get_or f.entries p no_entry
