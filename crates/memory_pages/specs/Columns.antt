-- What the bytes of the pages say after a change of them: columns with a number more or less, and pages opened and closed.
use Rattle.std.specs.Prelude.{ℕ, suc, ◌+◌, ◌*◌, ◌-◌, ◌≤◌, ◌<◌, ◌≡◌, List, length, get_or}
use Rattle.memory_layout.specs.Places.{named_at, starts_at}
use Rattle.memory_bytes.specs.Bytes.{Apart, column2}
use Rattle.memory_layout.specs.Views.{page_count, table_end, start_at, block_word}
use Rattle.memory_layout.specs.Flat.{capacity_of}

-- the n numbers of two bytes from base on have one more, x, before number i
pub record Inserted2 (m m' : List ℕ) (base i n x : ℕ) : Type 0 where
  pub apart : Apart m m' (base + i * 2) ((n + 1 - i) * 2)
  pub here : column2 m' base i ≡ x
  pub later : (j : ℕ) → i ≤ j → j < n → column2 m' base (suc j) ≡ column2 m base j

-- the n numbers of two bytes from base on have lost number i
pub record Removed2 (m m' : List ℕ) (base i n : ℕ) : Type 0 where
  pub apart : Apart m m' (base + i * 2) ((n - i) * 2)
  pub later : (j : ℕ) → i ≤ j → suc j < n → column2 m' base j ≡ column2 m base (suc j)

-- only the bytes of the pages may differ, for the capacity c: the ends of the tables and the two columns
pub record PagesOnly (c : ℕ) (m m' : List ℕ) : Type 0 where
  pub size : length m' ≡ length m
  pub below : (b : ℕ) → b < 64 → get_or m' b 0 ≡ get_or m b 0
  pub between : (b : ℕ) → 80 ≤ b → b < starts_at c → get_or m' b 0 ≡ get_or m b 0
  pub above : (b : ℕ) → named_at c ≤ b → get_or m' b 0 ≡ get_or m b 0

-- one page more before page p, of table t: it starts at row x and has no block
pub record Opened (m m' : List ℕ) (p t x : ℕ) : Type 0 where
  pub only : PagesOnly (capacity_of m) m m'
  pub ends_before : (u : ℕ) → u < t → table_end m' u ≡ table_end m u
  pub ends_from : (u : ℕ) → t ≤ u → u < 8 → table_end m' u ≡ table_end m u + 1
  pub starts_before : (j : ℕ) → j < p → start_at m' (capacity_of m) j ≡ start_at m (capacity_of m) j
  pub start : start_at m' (capacity_of m) p ≡ x
  pub starts_from : (j : ℕ) → p ≤ j → start_at m' (capacity_of m) (suc j) ≡ start_at m (capacity_of m) j
  pub words_before : (j : ℕ) → j < p → block_word m' (capacity_of m) j ≡ block_word m (capacity_of m) j
  pub word : block_word m' (capacity_of m) p ≡ 0
  pub words_from : (j : ℕ) → p ≤ j → j < page_count m → block_word m' (capacity_of m) (suc j) ≡ block_word m (capacity_of m) j

-- page p, of table t, is gone; its rows are on the page before it
pub record Closed (m m' : List ℕ) (p t : ℕ) : Type 0 where
  pub only : PagesOnly (capacity_of m) m m'
  pub ends_before : (u : ℕ) → u < t → table_end m' u ≡ table_end m u
  pub ends_from : (u : ℕ) → t ≤ u → u < 8 → table_end m' u + 1 ≡ table_end m u
  pub starts_before : (j : ℕ) → j < p → start_at m' (capacity_of m) j ≡ start_at m (capacity_of m) j
  pub starts_from : (j : ℕ) → p ≤ j → start_at m' (capacity_of m) j ≡ start_at m (capacity_of m) (suc j)
  pub words_before : (j : ℕ) → j < p → block_word m' (capacity_of m) j ≡ block_word m (capacity_of m) j
  pub words_from : (j : ℕ) → p ≤ j → suc j < page_count m → block_word m' (capacity_of m) j ≡ block_word m (capacity_of m) (suc j)

-- a page of table t may be opened before page p
pub record MayOpen (m : List ℕ) (p t : ℕ) : Type 0 where
  pub table : t < 8
  pub place : p ≤ page_count m
  pub space : page_count m < 2 * capacity_of m

-- page p may be closed as one of table t: this table and those behind it end behind the page
pub record MayClose (m : List ℕ) (p t : ℕ) : Type 0 where
  pub table : t < 8
  pub place : p < page_count m
  pub behind : (u : ℕ) → t ≤ u → u < 8 → p < table_end m u
