-- Laws of commit and abort by place: what an operation at a row does to any pages, and that on a well-formed store the runs are the keys.
use Rattle.std.specs.Prelude.{ℕ, zero, suc, ◌+◌, ◌<◌, ◌≤◌, ◌≡◌, Bool, true, false, not, ◌||◌, List, [], ◌∷◌, ◌++◌, map, length, take, drop, get_or, set}
use Rattle.std.proofs.Math.Option.{Option, some}
use Rattle.basics.specs.Basics.{if'◌then◌else◌}
use Rattle.model.specs.State.{removing, committing, Held, Page, Store}
use Rattle.model.specs.Rules.{list_of, is_adding, is_removing, with_pending, as_committed}
use Rattle.model.specs.Sight.{versions}
use Rattle.model.specs.WellFormed.{WellFormed}
use Rattle.basics.specs.Lists.{remove_at}
-- the definitions by place, passed on for crates that name them here
unfoldable pub use Rattle.model.specs.Rules.{edit_at, pend_remove_at, remove_row_on, committed_at, commit_row_on, at_row, remove_row, commit_row}
pub use Rattle.model.specs.Transactions.{Placed, row_of, same_key, plan_runs, PlaceOp, commit_place, remove_place}
unfoldable pub use Rattle.model.specs.Transactions.{tagged, placed, all_placed, continues, runs, all_runs, each_run, live_of, own_placed, remove_places, plan_newest, plan_run, close_plan, abort_plan, carry_out}

-- ---- laws of any pages

-- f on page k, with the page before it and those after
unfoldable pub on_page : (Option Page → Page → List Page → List Page) → ℕ → Option Page → List Page → List Page
on_page f k prev [] = list_of prev
on_page f zero prev (p ∷ ps) = f prev p ps
on_page f (suc k) prev (p ∷ ps) = list_of prev ++ on_page f k (some p) ps

-- row i stands on page k, which is p, as its tuple j
pub record RowOn (ps : List Page) (i k j : ℕ) (p : Page) : Type 0 where
  pub page : drop k ps ≡ p ∷ drop (suc k) ps
  pub place : i ≡ length (tagged (take k ps)) + j
  pub inside : j < length p.tuples

-- what is done at a row is done on its page
abbrev pub RowByPage : Type 0
RowByPage =
    (f : ℕ → Option Page → Page → List Page → List Page) (ps : List Page) (i k j : ℕ) (p : Page) → RowOn ps i k j p
    → (prev : Option Page) → at_row f i prev ps ≡ on_page (f j) k prev ps

-- a tuple removed from a page that is not frozen, or a pending add that is not the last of its page, is gone
abbrev pub RemovedNow : Type 0
RemovedNow =
    (ps : List Page) (i k j : ℕ) (p : Page) (d : Held) → RowOn ps i k j p
    → (p.frozen ≡ true → (is_adding (get_or p.tuples j d).pending ≡ true) × (1 < length p.tuples))
    → tagged (remove_row i ps) ≡ remove_at i (tagged ps)

-- another one on a frozen page is pending removal
abbrev pub RemovedLater : Type 0
RemovedLater =
    (ps : List Page) (i k j : ℕ) (p : Page) (d : Held) → RowOn ps i k j p → p.frozen ≡ true → is_adding (get_or p.tuples j d).pending ≡ false
    → tagged (remove_row i ps) ≡ set (tagged ps) i (p.table, with_pending removing (get_or p.tuples j d))

-- a pending add that is alone on its page stays: nothing changes
abbrev pub LastStays : Type 0
LastStays =
    (ps : List Page) (i k j : ℕ) (p : Page) (d : Held) → RowOn ps i k j p → p.frozen ≡ true → is_adding (get_or p.tuples j d).pending ≡ true
    → length p.tuples ≡ 1 → remove_row i ps ≡ ps

-- the tuple after its commit: on a frozen page as `pend_commit` says, else committed
unfoldable pub committed_tuple : Bool → Held → Held
committed_tuple frozen h =
    if' not frozen || is_adding h.pending then record { tuple = as_committed h.tuple; pending = h.pending }
    else if' is_removing h.pending then h
    else with_pending committing h

-- a commit changes its tuple alone
abbrev pub CommittedRow : Type 0
CommittedRow =
    (ps : List Page) (i k j : ℕ) (p : Page) (d : Held) → RowOn ps i k j p
    → tagged (commit_row i ps) ≡ set (tagged ps) i (p.table, committed_tuple p.frozen (get_or p.tuples j d))

-- one pending removal is not committed: nothing changes
abbrev pub RemovedStays : Type 0
RemovedStays =
    (ps : List Page) (i k j : ℕ) (p : Page) (d : Held) → RowOn ps i k j p → p.frozen ≡ true → is_removing (get_or p.tuples j d).pending ≡ true
    → commit_row i ps ≡ ps

-- one element alone may change or go: what stands in its place, none or one
pub record OnlyRow (i : ℕ) (before after : List (ℕ × Held)) : Type 0 where
  pub here : List (ℕ × Held)
  pub few : length here ≤ 1
  pub is : after ≡ take i before ++ (here ++ drop (i + 1) before)

-- an operation at row i leaves all other rows, in order; a commit takes none away
abbrev pub OthersStay : Type 0
OthersStay =
    (i : ℕ) (ps : List Page)
    → OnlyRow i (tagged ps) (tagged (remove_row i ps)) × OnlyRow i (tagged ps) (tagged (commit_row i ps))
    × (length (tagged (commit_row i ps)) ≡ length (tagged ps))

-- ---- laws of a well-formed store

-- the live rows of a run are all versions of the table and key of each of its tuples, in order
abbrev pub RunIsKey : Type 0
RunIsKey =
    (s : Store) → WellFormed s → (before : List (List Placed)) (run : List Placed) (behind : List (List Placed))
    → all_runs s.pages ≡ before ++ run ∷ behind → (lower : List Placed) (x : Placed) (upper : List Placed) → run ≡ lower ++ x ∷ upper
    → map (λ y. y.1) (live_of run) ≡ versions (row_of x).0 (row_of x).1.key s.pages
