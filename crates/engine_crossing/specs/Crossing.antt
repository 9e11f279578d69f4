-- Bookings that cross an interval, by row index: the rows that are looked for, and the keys that are put out.
use Rattle.std.specs.Prelude.{ℕ, ◌+◌, ◌-◌, ◌*◌, ◌<◌, ◌≤◌, ◌≡◌, true, false, List, [], ◌∷◌, ◌++◌, length, drop, Option as Found}
use Rattle.basics.specs.Lists.{tab, over}
use Rattle.image.specs.Stages.{capacity_limit}
use Rattle.image_rows.specs.Rows.{Row, rows_of}
use Rattle.model.specs.Rules.{live}
use Rattle.model.specs.Sight.{seen_of}
use Rattle.model.specs.Crossing.{crosses, key_if, crossing_keys, key_bytes}
use Rattle.memory_layout.specs.Flat.{Flat, flat_of, row_in, Room}
use Rattle.memory_layout.specs.Store.{holds_store, pages_in}
use Rattle.memory_rows.specs.Rows.{key_in}
use Rattle.engine_lookup.specs.Lookup.{Sees}

-- the longest booking, in minutes: two bytes
abbrev pub longest : ℕ
longest = 65535

-- the largest key
abbrev pub most_key : ℕ
most_key = 4294967295

-- no row from row i up to row r crosses the interval, whoever sees it
abbrev pub NoneCross : Flat → ℕ → ℕ → ℕ → ℕ → Type 0
NoneCross f first end i r = (j : ℕ) → i ≤ j → j < r → crosses first end (row_in f j).tuple ≡ false

-- r is the first row from row i on, below e, that crosses; the larger of i and e if there is none
pub record NextCrossing (f : Flat) (first end i e r : ℕ) : Type 0 where
  pub low : i ≤ r
  pub passed : NoneCross f first end i r
  pub found : r < e → crosses first end (row_in f r).tuple ≡ true
  pub most : e < r → r ≡ i

-- ---- a run

-- there are rows from row a up to, not including, row b, all of one key
pub record OneKey (m : List ℕ) (a b : ℕ) : Type 0 where
  pub room : Room m
  pub some : a < b
  pub inside : b ≤ length (flat_of m).rows
  pub same : (j : ℕ) → a ≤ j → j < b → key_in (flat_of m) j ≡ key_in (flat_of m) a

-- their live rows, as rows of table t
abbrev pub run_rows : Flat → ℕ → ℕ → ℕ → List Row
run_rows f t a b = rows_of t (live (tab (row_in f) a (b - a)))

-- r is the row of the run that the transaction sees, whatever its table
abbrev pub RunSeen : Flat → ℕ → ℕ → ℕ → Found ℕ → Type 0
RunSeen f tx a b r = (t : ℕ) → Sees f t r (seen_of tx (run_rows f t a b))

-- the run's key, if the version that the transaction sees crosses
abbrev pub run_keys : Flat → ℕ → ℕ → ℕ → ℕ → ℕ → ℕ → List ℕ
run_keys f tx first end t a b = key_if first end (seen_of tx (run_rows f t a b))

-- there is room for one key behind n
abbrev pub RoomForKey : ℕ → List ℕ → Type 0
RoomForKey n out = 4 * n + 4 ≤ length out

-- the key is put behind n keys
abbrev pub KeyAdded : ℕ → ℕ → List ℕ → List ℕ → Type 0
KeyAdded n k out out' = out' ≡ over out (4 * n) (key_bytes (k ∷ []))

-- the run's key is put behind n keys, if there is one; there are then r
pub record RunAdded (f : Flat) (tx first end a b n r : ℕ) (out out' : List ℕ) : Type 0 where
  pub count : (t : ℕ) → r ≡ n + length (run_keys f tx first end t a b)
  pub keys : (t : ℕ) → out' ≡ over out (4 * n) (key_bytes (run_keys f tx first end t a b))

-- ---- the table

-- what the tests of a call have shown: the memory holds a store, there is such a table, and the interval has a minute
pub record KeysAsked (m : List ℕ) (t first end : ℕ) : Type 0 where
  pub has_store : holds_store m ≡ true
  pub table : t < 8
  pub order : first < end

-- there is room for as many keys as a store holds tuples
abbrev pub RoomForKeys : List ℕ → Type 0
RoomForKeys out = 4 * capacity_limit ≤ length out

-- the n keys of the bookings that cross, no more than a store holds tuples, are the first bytes; the others stay
pub record KeysFound (f : Flat) (tx t first end n : ℕ) (out out' : List ℕ) : Type 0 where
  pub count : n ≡ length (crossing_keys tx t first end (pages_in f))
  pub few : n ≤ capacity_limit
  pub keys : out' ≡ key_bytes (crossing_keys tx t first end (pages_in f)) ++ drop (4 * n) out
