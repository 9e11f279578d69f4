-- What transactions and refusal tests see: the rows with pending operations taken as done.
use Rattle.std.specs.Prelude.{ℕ, Bool, not, ◌&&◌, List, [], ◌∷◌, ◌++◌, map}
use Rattle.std.proofs.Math.Option.{Option, none, some}
use Rattle.basics.specs.Basics.{if'◌then◌else◌, keep, first, last}
use Rattle.block_forms.specs.Tuple.{is_tentative}
use Rattle.image_rows.specs.Rows.{Row, rows_of, is_by, is_own, is_at}
use Rattle.model.specs.State.{Page, Store}
use Rattle.model.specs.Rules.{live}

-- every tuple that is held, page by page, those pending add or removal too
unfoldable pub held : List Page → List Row
held [] = []
held (p ∷ ps) = rows_of p.table (map (λ h. h.tuple) p.tuples) ++ held ps

-- the live rows: pending operations taken as done
unfoldable pub rows : List Page → List Row
rows [] = []
rows (p ∷ ps) = rows_of p.table (live p.tuples) ++ rows ps

-- a tentative tuple of another transaction
unfoldable pub is_foreign : ℕ → Row → Bool
is_foreign tx r = is_tentative r.1.owner && not (is_by tx r.1.owner)

-- a committed tuple
abbrev pub is_committed : Row → Bool
is_committed r = not (is_tentative r.1.owner)

-- the versions of a key
unfoldable pub versions : ℕ → ℕ → List Page → List Row
versions t k ps = keep (is_at t k) (rows ps)

-- of the versions of a key, the one that transaction tx sees: its own newest (a delete mark means absent), else the committed one
unfoldable pub seen_of : ℕ → List Row → Option Row
seen_of tx vs = elim (last (is_own tx) vs) [ some r ↦ if' r.1.mark then none else some r | none ↦ first is_committed vs ]

-- the version of a key that transaction tx sees
unfoldable pub seen : ℕ → ℕ → ℕ → Store → Option Row
seen tx t k s = seen_of tx (versions t k s.pages)
