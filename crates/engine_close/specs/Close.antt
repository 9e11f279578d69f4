-- Commit and abort by row index: the rows that are looked for, and what is done to the pages. xs: every tuple that is held, with its
-- table; n: how many were held at the start of the commit or abort.
use Rattle.std.specs.Prelude.{ℕ, suc, ◌+◌, ◌-◌, ◌<◌, ◌≤◌, ◌≡◌, Bool, true, false, not, List, [], length, take, drop, get_or, Option as Found, Some, None}
use Rattle.std.proofs.Math.Option.{some}
use Rattle.basics.specs.Basics.{keep}
use Rattle.model.specs.State.{Held, Page}
use Rattle.model.specs.Rules.{is_removing, applied}
use Rattle.model.specs.Places.{tagged, placed, same_key, runs, live_of, own_placed, remove_places, plan_newest, plan_runs, carry_out, remove_row}
use Rattle.model.specs.Transactions.{committed_pages, aborted_pages}
use Rattle.memory_layout.specs.Flat.{no_row, Room}
use Rattle.memory_layout.specs.Store.{holds_store}
use Rattle.memory_rows.specs.Rows.{is_live_own}
use Rattle.engine_pages.specs.Pages.{PagesNow, pages_of}

-- every tuple that the memory holds, with its table
abbrev pub tagged_of : List ℕ → List (ℕ × Held)
tagged_of m = tagged (pages_of m)

-- ---- rows

-- not pending removal
unfoldable pub is_live : Held → Bool
is_live h = not (is_removing h.pending)

-- element i: a row with its table
abbrev pub row_from : List (ℕ × Held) → ℕ → ℕ × Held
row_from xs i = get_or xs i (0, no_row)

-- row i is live and the transaction's own
unfoldable pub is_own_row : ℕ → List (ℕ × Held) → ℕ → Bool
is_own_row tx xs i = is_live_own tx (row_from xs i).1

-- there are rows from row i up to, not including, row e
pub record Part (xs : List (ℕ × Held)) (i e : ℕ) : Type 0 where
  pub order : i ≤ e
  pub inside : e ≤ length xs

-- the same, and row i is own
pub record OwnPart (xs : List (ℕ × Held)) (tx i e : ℕ) : Type 0 where
  pub order : i < e
  pub inside : e ≤ length xs
  pub own : is_own_row tx xs i ≡ true

-- row i is there, and t is its table
pub record RowOfTable (m : List ℕ) (i t : ℕ) : Type 0 where
  pub room : Room m
  pub inside : i < length (tagged_of m)
  pub table : t ≡ (row_from (tagged_of m) i).0
  pub below : t < 8

-- r is the first own row from row i up to, not including, row e; e if there is none
pub record NextOwn (xs : List (ℕ × Held)) (tx i e r : ℕ) : Type 0 where
  pub low : i ≤ r
  pub most : r ≤ e
  pub passed : (j : ℕ) → i ≤ j → j < r → is_own_row tx xs j ≡ false
  pub found : r < e → is_own_row tx xs r ≡ true

-- o is the first own row from row i up to, not including, row e
abbrev pub FirstOwn : List (ℕ × Held) → ℕ → ℕ → ℕ → Found ℕ → Type 0
FirstOwn xs tx i e (Some r) = NextOwn xs tx i e r × (r < e)
FirstOwn xs tx i e None = NextOwn xs tx i e e

-- r is the first row of table t or of a later one, or how many rows there are
pub record RowsFrom (xs : List (ℕ × Held)) (t r : ℕ) : Type 0 where
  pub most : r ≤ length xs
  pub below : (j : ℕ) → j < r → (row_from xs j).0 < t
  pub above : (j : ℕ) → r ≤ j → j < length xs → t ≤ (row_from xs j).0

-- r is the first of the neighbours of row i that have its table and key, not before row `from`
pub record RunFrom (xs : List (ℕ × Held)) (from i r : ℕ) : Type 0 where
  pub low : from ≤ r
  pub high : r ≤ i
  pub same : (j : ℕ) → r ≤ j → j < i → same_key (row_from xs i) (row_from xs j) ≡ true
  pub first : from < r → same_key (row_from xs i) (row_from xs (r - 1)) ≡ false

-- r is the row behind the last of the neighbours of row i that have its table and key
pub record RunTo (xs : List (ℕ × Held)) (i r : ℕ) : Type 0 where
  pub low : i < r
  pub most : r ≤ length xs
  pub same : (j : ℕ) → i < j → j < r → same_key (row_from xs i) (row_from xs j) ≡ true
  pub last : r < length xs → same_key (row_from xs i) (row_from xs r) ≡ false

-- r is the last own row from row i up to, not including, row e
pub record NewestOwn (xs : List (ℕ × Held)) (tx i e r : ℕ) : Type 0 where
  pub low : i ≤ r
  pub high : r < e
  pub own : is_own_row tx xs r ≡ true
  pub later : (j : ℕ) → r < j → j < e → is_own_row tx xs j ≡ false

-- ---- pages

-- the place at the start of what is now row i
abbrev pub entry_place : ℕ → List (ℕ × Held) → ℕ → ℕ
entry_place n xs i = i + (n - length xs)

-- the live ones of k rows from row i on are removed
unfoldable pub removed_live : ℕ → ℕ → ℕ → List Page → List Page
removed_live n i k ps = carry_out n (remove_places (live_of (placed (entry_place n (tagged ps) i) (take k (drop i (tagged ps)))))) ps

-- the run from row a up to row e is closed, k being its newest own row
unfoldable pub closed_run : ℕ → ℕ → ℕ → ℕ → List Page → List Page
closed_run n a e k ps =
    let xs = tagged ps in
    carry_out n (plan_newest (some (entry_place n xs k, ((row_from xs k).0, applied (row_from xs k).1))) (live_of (placed (entry_place n xs a) (take (e - a) (drop a xs))))) ps

-- commit: the runs of the rows from row i on are closed
unfoldable pub closed_from : ℕ → ℕ → ℕ → List Page → List Page
closed_from tx n i ps = carry_out n (plan_runs tx (runs [] (placed (entry_place n (tagged ps) i) (drop i (tagged ps))))) ps

-- abort: the own rows from row i on are removed
unfoldable pub aborted_from : ℕ → ℕ → ℕ → List Page → List Page
aborted_from tx n i ps = carry_out n (remove_places (keep (own_placed tx) (live_of (placed (entry_place n (tagged ps) i) (drop i (tagged ps)))))) ps

-- what is left from row i on of a commit (keep) or of an abort
abbrev pub left_from : Bool → ℕ → ℕ → ℕ → List Page → List Page
left_from true = closed_from
left_from false = aborted_from

-- the pages after a commit (keep) or an abort
abbrev pub closed_pages : Bool → ℕ → List Page → List Page
closed_pages true tx ps = committed_pages tx ps
closed_pages false tx ps = aborted_pages tx ps

-- ---- what the functions promise

-- the rows ys from row r on are the rows xs from row e on
pub record Behind (xs ys : List (ℕ × Held)) (e r : ℕ) : Type 0 where
  pub low : r ≤ e
  pub most : r ≤ length ys
  pub rows : drop r ys ≡ drop e xs

-- row i is removed, and r is then the row behind it
pub record RowRemoved (m m' : List ℕ) (i r : ℕ) : Type 0 where
  pub pages : PagesNow m m' (remove_row i (pages_of m))
  pub next : r + length (tagged_of m) ≡ suc i + length (tagged_of m')

-- the live ones of k rows from row i on are removed, and r is then the row behind them
pub record LiveRemoved (m m' : List ℕ) (i k r : ℕ) : Type 0 where
  pub pages : (n : ℕ) → length (tagged_of m) ≤ n → PagesNow m m' (removed_live n i k (pages_of m))
  pub behind : Behind (tagged_of m) (tagged_of m') (i + k) r

-- k is a row of those from row a up to row e
pub record Within (m : List ℕ) (a e k : ℕ) : Type 0 where
  pub has_store : holds_store m ≡ true
  pub low : a ≤ k
  pub high : k < e
  pub most : e ≤ length (tagged_of m)

-- the run from row a up to row e is closed, and r is then the row behind it
pub record RunClosed (m m' : List ℕ) (a e k r : ℕ) : Type 0 where
  pub pages : (n : ℕ) → length (tagged_of m) ≤ n → PagesNow m m' (closed_run n a e k (pages_of m))
  pub behind : Behind (tagged_of m) (tagged_of m') e r

-- one step further: what is left to do from row i on is what is then left from row r on, and fewer rows are left
pub record NextDone (left : ℕ → ℕ → List Page → List Page) (m m' : List ℕ) (i r : ℕ) : Type 0 where
  pub pages : PagesNow m m' (pages_of m')
  pub most : r ≤ length (tagged_of m')
  pub fewer : length (tagged_of m') ≤ length (tagged_of m)
  pub further : length (tagged_of m') + i < length (tagged_of m) + r
  pub same : (n : ℕ) → length (tagged_of m) ≤ n → left n i (pages_of m) ≡ left n r (pages_of m')
