-- What the functions that split a page, or join two, need and promise.
use Rattle.std.specs.Prelude.{ℕ, ◌-◌, ◌≡◌, Bool, true, false, List, ◌++◌, map, take}
use Rattle.std.proofs.Math.Option.{none}
use Rattle.model.specs.State.{Page}
use Rattle.model.specs.Rules.{held_size, fresh, list_of, fits, half, split_once, settle_full, settle_next, settle}
use Rattle.model.specs.Places.{on_page}
use Rattle.basics.specs.Basics.{sum}
use Rattle.basics.specs.Lists.{remove_at}
use Rattle.engine_pages.specs.Pages.{PagesNow, pages_of, page_at, tuples_at, first_row, There, swapped}

-- made or changed: dirty and not frozen
abbrev pub Dirty : Page → Type 0
Dirty q = q ≡ fresh q.table q.tuples

-- page p is dirty, and its tuples are above 504 bytes
pub record TooLarge (m : List ℕ) (p : ℕ) : Type 0 where
  pub there : There m p
  pub dirty : Dirty (page_at m p)
  pub large : fits (tuples_at m p) ≡ false

-- page p is split in two; r is the size of the first part
pub record Halved (m m' : List ℕ) (p r : ℕ) : Type 0 where
  pub pages : PagesNow m m' (swapped p (map (fresh (page_at m p).table) (split_once (tuples_at m p))) (pages_of m))
  pub first : r ≡ sum held_size (take (half (tuples_at m p)) (tuples_at m p))

-- page p is dirty, and that is the size of its tuples
pub record OfSize (m : List ℕ) (p size : ℕ) : Type 0 where
  pub there : There m p
  pub dirty : Dirty (page_at m p)
  pub is : size ≡ sum held_size (tuples_at m p)

-- the pages after page p is joined with its predecessor, else with its successor, if it may be, or else replaced by the pages of rest
unfoldable pub settled_at : ℕ → List Page → List Page → List Page
settled_at p ps rest = on_page (settle_full rest) p none ps

-- the same if page p is not joined with its predecessor
unfoldable pub settled_next : ℕ → List Page → List Page → List Page
settled_next p ps rest = on_page (λ prev q qs. list_of prev ++ settle_next rest q qs) p none ps

-- page p has become q: it is dropped if it is empty, else joined as above, or else replaced by the pages of rest
unfoldable pub settled_by : ℕ → List Page → Page → List Page → List Page
settled_by p rest q ps = on_page (λ o r qs. settle rest o q qs) p none ps

-- if the answer is true, the pages are what F gives, for every rest; if it is false, nothing has changed, and F is G
pub record Tries (m m' : List ℕ) (r : Bool) (F G : List Page → List Page) : Type 0 where
  pub done : r ≡ true → (rest : List Page) → PagesNow m m' (F rest)
  pub not_done : r ≡ false → (m' ≡ m) × ((rest : List Page) → F rest ≡ G rest)

-- page p without row i, dirty
abbrev pub less_one : List ℕ → ℕ → ℕ → Page
less_one m p i = fresh (page_at m p).table (remove_at (i - first_row m p) (tuples_at m p))
