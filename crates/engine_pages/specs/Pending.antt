-- Pending operations that are applied.
use Rattle.std.specs.Prelude.{ℕ, ◌+◌, ◌-◌, ◌≡◌, Bool, List, [], ◌∷◌, ◌++◌, length, take, drop, set}
use Rattle.basics.specs.Basics.{if'◌then◌else◌}
use Rattle.model.specs.State.{Held}
use Rattle.model.specs.Rules.{is_pending, is_removing, without_pending, applied, fresh, is_frozen}
use Rattle.basics.specs.Lists.{first_index}
use Rattle.memory_layout.specs.Flat.{flat_of, row_in, Becomes, with_rows, with_entries}
use Rattle.memory_pages.specs.Pages.{with_count}
use Rattle.engine_pages.specs.Pages.{PagesNow, pages_of, page_at, tuples_at, entry_of, first_row, There, swapped}

-- the tuple has a pending operation
abbrev pub has_pending : Held → Bool
has_pending h = is_pending h.pending

-- what becomes of a tuple: one pending removal is gone, any other stays with its operation done
unfoldable pub apply_pending : Held → List Held
apply_pending h = if' is_removing h.pending then [] else without_pending (applied h) ∷ []

-- what becomes of tuples, one after the other
unfoldable pub applied_all : List Held → List Held
applied_all [] = []
applied_all (h ∷ hs) = apply_pending h ++ applied_all hs

-- the pending operation of row i, on page p, is applied, and r rows are left of it
pub record AppliesOne (m m' : List ℕ) (p i r : ℕ) : Type 0 where
  pub count : r ≡ length (apply_pending (row_in (flat_of m) i))
  pub becomes : Becomes m m' (with_entries (with_rows (flat_of m) (take i (flat_of m).rows ++ (apply_pending (row_in (flat_of m) i) ++ drop (i + 1) (flat_of m).rows)))
      (set (flat_of m).entries p (with_count (entry_of m p) ((entry_of m p).count - 1 + r))))

-- the pending operations of the rows of page p are applied, and r rows are left, perhaps none
pub record Applies (m m' : List ℕ) (p r : ℕ) : Type 0 where
  pub count : r ≡ length (applied_all (tuples_at m p))
  pub becomes : Becomes m m' (with_entries (with_rows (flat_of m)
      (take (first_row m p) (flat_of m).rows ++ (applied_all (tuples_at m p) ++ drop (first_row m p + (entry_of m p).count) (flat_of m).rows)))
      (set (flat_of m).entries p (with_count (entry_of m p) r)))

-- the pending operations of page p are applied, and r tuples are left; an empty page is dropped
pub record Applied (m m' : List ℕ) (p r : ℕ) : Type 0 where
  pub count : r ≡ length (applied_all (tuples_at m p))
  pub none_left : r ≡ 0 → PagesNow m m' (swapped p [] (pages_of m))
  pub some_left : (r ≡ 0 → ⊥) → PagesNow m m' (swapped p (fresh (page_at m p).table (applied_all (tuples_at m p)) ∷ []) (pages_of m))

-- page p is the first frozen one
pub record FirstFrozen (m : List ℕ) (p : ℕ) : Type 0 where
  pub there : There m p
  pub first : p ≡ first_index is_frozen (pages_of m)
