-- Commits and aborts by place, worked out: what is planned at which places, and the pages then.
use Rattle.std.specs.Prelude.{ℕ, ◌≡◌, Bool, true, false, List, [], ◌∷◌, map, length}
use Rattle.basics.specs.Basics.{basics}
use Rattle.block_forms.specs.Tuple.{Owner, committed, tentative, is_tentative, owner_size, size}
use Rattle.image_rows.specs.Rows.{row_rules}
use Rattle.model.specs.State.{Pending, nothing, adding, removing, Held, Page}
use Rattle.model.specs.Rules.{fresh, rules}
use Rattle.model.specs.Sight.{held}
use Rattle.model.specs.Transactions.{PlaceOp, commit_place, remove_place, carry_out, close_plan, abort_plan, place_rules}

-- a tuple of key k and number n, with nothing in it
unfoldable pub tuple_of : ℕ → ℕ → Owner → Bool → Pending → Held
tuple_of k n o m w = record { tuple = record { key = k; number = n; owner = o; mark = m; payload = [] }; pending = w }

-- a committed one
unfoldable pub old : ℕ → ℕ → Pending → Held
old k n w = tuple_of k n committed false w

-- one of transaction 5
unfoldable pub own : ℕ → ℕ → Pending → Held
own k n w = tuple_of k n (tentative 5 0) false w

-- a delete mark of transaction 5
unfoldable pub own_mark : ℕ → ℕ → Pending → Held
own_mark k n w = tuple_of k n (tentative 5 0) true w

-- a frozen page of table 0
unfoldable pub frozen_page : List Held → Page
frozen_page hs = record { table = 0; block = 0; frozen = true; tuples = hs }

-- of each page: the numbers of its tuples, each with whether it is tentative and what is pending
unfoldable pub digest : List Page → List (List (ℕ × (Bool × Pending)))
digest ps = map (λ p. map (λ h. (h.tuple.number, (is_tentative h.tuple.owner, h.pending))) p.tuples) ps

-- the pages after the operations
unfoldable pub after_plan : List PlaceOp → List Page → List (List (ℕ × (Bool × Pending)))
after_plan os ps = digest (carry_out (length (held ps)) os ps)

-- key 2 is replaced on the next page, key 3 deleted, key 4 replaced
unfoldable pub replaced : List Page
replaced =
    fresh 0 (old 1 0 nothing ∷ old 2 1 nothing ∷ [])
    ∷ fresh 0 (own 2 4 nothing ∷ old 3 2 nothing ∷ own_mark 3 5 nothing ∷ old 4 3 nothing ∷ own 4 6 nothing ∷ [])
    ∷ []

-- keys 1 and 2 are replaced while their page is frozen, key 3 on another page
unfoldable pub replaced_frozen : List Page
replaced_frozen =
    frozen_page (old 1 0 nothing ∷ own 1 3 adding ∷ own 2 1 nothing ∷ own 2 4 adding ∷ [])
    ∷ fresh 0 (old 3 2 nothing ∷ own 3 5 nothing ∷ [])
    ∷ []

-- a version pending removal stands in the run and is not live
unfoldable pub removed_before : List Page
removed_before = frozen_page (old 1 0 removing ∷ own 1 1 adding ∷ []) ∷ []

-- the same key in another table
unfoldable pub two_tables : List Page
two_tables = fresh 0 (old 1 0 nothing ∷ []) ∷ fresh 1 (own 1 1 nothing ∷ []) ∷ []

-- not well formed: the versions of key 1 are no neighbours
unfoldable pub scattered : List Page
scattered = fresh 0 (own 1 0 nothing ∷ old 2 1 nothing ∷ own 1 2 nothing ∷ []) ∷ []

-- what is planned, and what comes of it
pub record PlaceCases : Type 0 where
  -- the newest is committed before the others go; a delete mark goes with all others; the pages are joined, and later places still hold
  pub close : close_plan 5 replaced ≡ commit_place 2 ∷ remove_place 1 ∷ remove_place 3 ∷ remove_place 4 ∷ commit_place 6 ∷ remove_place 5 ∷ []
  pub closed : after_plan (close_plan 5 replaced) replaced ≡ ((0, (false, nothing)) ∷ (4, (false, nothing)) ∷ (6, (false, nothing)) ∷ []) ∷ []
  -- abort removes the transaction's own tuples
  pub abort : abort_plan 5 replaced ≡ remove_place 2 ∷ remove_place 4 ∷ remove_place 6 ∷ []
  pub aborted : after_plan (abort_plan 5 replaced) replaced
      ≡ ((0, (false, nothing)) ∷ (1, (false, nothing)) ∷ (2, (false, nothing)) ∷ (3, (false, nothing)) ∷ []) ∷ []
  -- a frozen page notes the removals, and no place moves; pending adds are committed at once
  pub close_frozen : close_plan 5 replaced_frozen ≡ commit_place 1 ∷ remove_place 0 ∷ commit_place 3 ∷ remove_place 2 ∷ commit_place 5 ∷ remove_place 4 ∷ []
  pub closed_frozen : after_plan (close_plan 5 replaced_frozen) replaced_frozen
      ≡ ((0, (false, removing)) ∷ (3, (false, adding)) ∷ (1, (true, removing)) ∷ (4, (false, adding)) ∷ []) ∷ ((5, (false, nothing)) ∷ []) ∷ []
  -- abort: pending adds are taken away
  pub aborted_frozen : after_plan (abort_plan 5 replaced_frozen) replaced_frozen
      ≡ ((0, (false, nothing)) ∷ (1, (true, removing)) ∷ []) ∷ ((2, (false, nothing)) ∷ []) ∷ []
  pub removed_before : close_plan 5 removed_before ≡ commit_place 1 ∷ []
  pub two_tables : close_plan 5 two_tables ≡ commit_place 1 ∷ []
  -- versions of a key that are no neighbours are in different runs
  pub scattered_runs : close_plan 5 scattered ≡ commit_place 0 ∷ commit_place 2 ∷ []

-- unfolds all definitions that these cases compute with: `unfolding place_cases`
unfoldable pub place_cases : ℕ
unfolding basics is_tentative owner_size size row_rules rules place_rules held tuple_of old own own_mark frozen_page digest after_plan replaced replaced_frozen removed_before two_tables scattered
place_cases = 0
