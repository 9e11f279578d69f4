-- Where a tuple goes, and what the functions that place it need.
use Rattle.std.specs.Prelude.{ℕ, ◌+◌, ◌≤◌, ◌<◌, ◌≡◌, true, List, length}
use Rattle.block_forms.specs.Limits.{payload_limit}
use Rattle.block_forms.specs.Tuple.{Tuple}
use Rattle.model.specs.State.{Page}
use Rattle.model.specs.Rules.{grown, entering}
use Rattle.basics.specs.Lists.{insert_at}
use Rattle.memory_layout.specs.Flat.{flat_of}
use Rattle.memory_layout.specs.Store.{holds_store}
use Rattle.memory_rows.specs.Rows.{held_by, RowFits}
use Rattle.memory_rows.specs.declared.Pending.TheVariants.{Nothing}
use Rattle.memory_rows.specs.declared.Row.{Row}
use Rattle.memory_pages.specs.Pages.{Between}
use Rattle.memory_pages.specs.Spots.{place_in}
use Rattle.engine_pages.specs.Pages.{entry_of, first_row}

-- the tuple that a row holds
abbrev pub tuple_by : Row → List ℕ → Tuple
tuple_by r xs = (held_by r xs).tuple

-- what page q becomes with x as its tuple j
unfoldable pub placed_on : Tuple → ℕ → Page → List Page
placed_on x j q = grown q (insert_at j (entering q x) q.tuples)

-- the memory holds a store and has room for the row, which has no pending operation
pub record NewTuple (m : List ℕ) (r : Row) (xs : List ℕ) : Type 0 where
  pub has_store : holds_store m ≡ true
  pub more : length (flat_of m).rows < (flat_of m).head.capacity
  pub plain : r.pending ≡ Nothing
  pub owner : RowFits r
  pub payload : length xs ≤ payload_limit

-- page p is there, and row `at` can stand on it
pub record GrowAt (m : List ℕ) (p at : ℕ) (r : Row) (xs : List ℕ) : Type 0 where
  pub tuple : NewTuple m r xs
  pub inside : p < length (flat_of m).entries
  pub least : first_row m p ≤ at
  pub most : at ≤ first_row m p + (entry_of m p).count

-- a page of table t can stand before page p
pub record AddAt (m : List ℕ) (t p : ℕ) (r : Row) (xs : List ℕ) : Type 0 where
  pub tuple : NewTuple m r xs
  pub between : Between (flat_of m) t p

-- row `at` is the place of a tuple of table t and this key
pub record PlaceAt (m : List ℕ) (t at : ℕ) (r : Row) (xs : List ℕ) : Type 0 where
  pub tuple : NewTuple m r xs
  pub table : t < 8
  pub place : at ≡ place_in (flat_of m) t r.key
