-- What a function that puts an element into a list of the memory, or looks at some of the rows, asks for beside the room.
use Rattle.std.specs.Prelude.{ℕ, ◌-◌, ◌≤◌, ◌<◌, List, length, take, drop}
use Rattle.image_rows.specs.Rows.{open_limit}
use Rattle.block_forms.specs.Limits.{block_limit}
use Rattle.model.specs.State.{Held}
use Rattle.memory_layout.specs.Flat.{Flat, flat_of, Room}
use Rattle.memory_layout.specs.Opens.{OpenFits}
use Rattle.memory_layout.specs.declared.Open.{Open}

-- the open transaction o may stand at place i
pub record OpenAt (f : Flat) (i : ℕ) (o : Open) : Type 0 where
  pub inside : i < length f.opens
  pub fits : OpenFits o

-- the transaction o may be opened
pub record OpenMore (f : Flat) (o : Open) : Type 0 where
  pub few : length f.opens < open_limit
  pub fits : OpenFits o

-- directory entry i may be block b
pub record NamedAt (f : Flat) (i b : ℕ) : Type 0 where
  pub inside : i < length f.named
  pub fits : b < block_limit

-- there may be one directory entry more, block b
pub record NamedMore (f : Flat) (b : ℕ) : Type 0 where
  pub few : length f.named < f.head.capacity
  pub fits : b < block_limit

-- there may be one directory block more, block b
pub record DirectoryMore (f : Flat) (b : ℕ) : Type 0 where
  pub few : length f.directories < 4
  pub fits : b < block_limit

-- ---- some of the rows

-- the rows from row s up to, not including, row e
abbrev pub rows_from : List ℕ → ℕ → ℕ → List Held
rows_from m s e = take (e - s) (drop s (flat_of m).rows)

-- the memory has room, and the rows from s up to e are there
pub record RowRange (m : List ℕ) (s e : ℕ) : Type 0 where
  pub room : Room m
  pub order : s ≤ e
  pub inside : e ≤ length (flat_of m).rows
