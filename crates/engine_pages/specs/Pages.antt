-- Pages of the memory by place, and what a function that changes them promises.
use Rattle.std.specs.Prelude.{ℕ, suc, ◌+◌, ◌≤◌, ◌<◌, ◌≡◌, true, List, ◌++◌, length, take, drop}
use Rattle.std.proofs.Math.Option.{some}
use Rattle.model.specs.State.{Held, Page, Store}
use Rattle.model.specs.Transactions.{changed}
use Rattle.memory_layout.specs.Flat.{flat_of, entry_in}
use Rattle.memory_layout.specs.Store.{start_of, pages_in, page_in, holds_store, store_of, store_in}
use Rattle.memory_layout.specs.declared.Entry.{Entry}

-- the store with other pages
unfoldable pub with_pages : Store → List Page → Store
with_pages s ps = changed s s.next ps s.active

-- the memory then holds the store with the pages ps
pub record PagesNow (m m' : List ℕ) (ps : List Page) : Type 0 where
  pub size : length m' ≡ length m
  pub store : store_in m' ≡ some (with_pages (store_of (flat_of m)) ps)

-- the pages of the memory
abbrev pub pages_of : List ℕ → List Page
pages_of m = pages_in (flat_of m)

-- page p of the memory
abbrev pub page_at : List ℕ → ℕ → Page
page_at m p = page_in (flat_of m) p

-- its tuples
abbrev pub tuples_at : List ℕ → ℕ → List Held
tuples_at m p = (page_at m p).tuples

-- the entry of page p
abbrev pub entry_of : List ℕ → ℕ → Entry
entry_of m p = entry_in (flat_of m) p

-- the row with which page p starts
abbrev pub first_row : List ℕ → ℕ → ℕ
first_row m p = start_of (flat_of m) p

-- the memory holds a store, and page p is there
pub record There (m : List ℕ) (p : ℕ) : Type 0 where
  pub has_store : holds_store m ≡ true
  pub inside : p < length (flat_of m).entries

-- row i is on page p
pub record RowOn (m : List ℕ) (p i : ℕ) : Type 0 where
  pub there : There m p
  pub least : first_row m p ≤ i
  pub most : i < first_row m p + (entry_of m p).count

-- the pages with others in the place of page p
unfoldable pub swapped : ℕ → List Page → List Page → List Page
swapped p qs ps = take p ps ++ (qs ++ drop (suc p) ps)
