-- What a transaction finds of a key, by the places of rows.
use Rattle.std.specs.Prelude.{◌≡◌, Bool, true, false, List, [], ◌∷◌, ℕ, suc, ◌+◌, ◌≤◌, ◌<◌, length, eqb, Option as Found, Some, None}
use Rattle.std.specs.Option.{option_or}
use Rattle.std.specs.declared.ops.Range.{Range}
use Rattle.std.proofs.Math.Option.{Option, none, some}
use Rattle.basics.specs.Basics.{if'◌then◌else◌, any, first, last}
use Rattle.block_forms.specs.Tuple.{Owner, committed, tentative}
use Rattle.image_rows.specs.Rows.{Row, is_own}
use Rattle.model.specs.State.{Held}
use Rattle.model.specs.Rules.{is_removing, applied}
use Rattle.model.specs.Sight.{is_foreign, is_committed, versions}
use Rattle.memory_layout.specs.Flat.{Flat, row_in}
use Rattle.memory_layout.specs.Store.{pages_in}
use Rattle.memory_pages.specs.Spots.{table_row, place_in}
use Rattle.engine_lookup.specs.declared.Visibility.{Visibility}
use Rattle.engine_lookup.specs.declared.Spot.{Spot}

-- row i as a version of table t, its pending operation taken as done
unfoldable pub version : Flat → ℕ → ℕ → Row
version f t i = (t, applied (row_in f i))

-- the version in the row that was found, if one was
unfoldable pub seen_at : Flat → ℕ → Found ℕ → Option Row
seen_at f t (Some i) = some (version f t i)
seen_at f t None = none

-- the row that was found is there
unfoldable pub Inside : Flat → Found ℕ → Type 0
Inside f (Some i) = i < length f.rows
Inside f None = Unit {0}

-- l is what there is of a key of table t with the versions vs
pub record Shows (f : Flat) (t tx : ℕ) (vs : List Row) (l : Visibility) : Type 0 where
  pub others : l.foreign ≡ any (is_foreign tx) vs
  pub last_own : seen_at f t l.own ≡ last (is_own tx) vs
  pub first_committed : seen_at f t l.committed ≡ first is_committed vs
  pub own_in : Inside f l.own
  pub committed_in : Inside f l.committed

-- ---- what there is of a key, row by row

-- nothing seen yet
abbrev pub blank : Visibility
blank = record { foreign = false; own = None; committed = None }

-- a committed version more, at row i
unfoldable pub note_committed : ℕ → Visibility → Visibility
note_committed i l = record l { committed = option_or l.committed (Some i) }

-- a tentative version more, the transaction's own or not
unfoldable pub note_tentative : ℕ → Bool → Visibility → Visibility
note_tentative i true l = record l { own = Some i }
note_tentative i false l = record l { foreign = true }

-- one version more, at row i, of this owner
unfoldable pub note_owner : ℕ → ℕ → Owner → Visibility → Visibility
note_owner tx i committed l = note_committed i l
note_owner tx i (tentative u s) l = note_tentative i (eqb u tx) l

-- row i is noted; one pending removal is none
unfoldable pub note : ℕ → ℕ → Held → Visibility → Visibility
note tx i h l = if' is_removing h.pending then l else note_owner tx i (applied h).owner l

-- the rows from place i on; those of another key are passed by
unfoldable pub notes : ℕ → ℕ → ℕ → List Held → Visibility → Visibility
notes tx k i [] l = l
notes tx k i (h ∷ hs) l = notes tx k (suc i) hs (if' eqb h.tuple.key k then note tx i h l else l)

-- ---- what is seen

-- the own newest version, unless it is a delete mark; without one the committed version
unfoldable pub picked_at : Flat → Found ℕ → Found ℕ → Found ℕ
picked_at f None h = h
picked_at f (Some i) h = if' (row_in f i).tuple.mark then None else Some i

-- the row that the two rows found give
unfoldable pub picked : Flat → Visibility → Found ℕ
picked f l = picked_at f l.own l.committed

-- the row found has the version that is seen
pub record Sees (f : Flat) (t : ℕ) (r : Found ℕ) (o : Option Row) : Type 0 where
  pub means : seen_at f t r ≡ o
  pub inside : Inside f r

-- ---- the rows of a table

-- the range is that of table t, and its rows are there
pub record TableRange (f : Flat) (t : ℕ) (r : Range ℕ) : Type 0 where
  pub start : r.start ≡ table_row f t
  pub end : r.end ≡ table_row f (t + 1)
  pub order : r.start ≤ r.end
  pub inside : r.end ≤ length f.rows

-- what there is of a key of table t, and the place of a new tuple with it
pub record Spots (f : Flat) (t tx k : ℕ) (r : Spot) : Type 0 where
  pub visibility : Shows f t tx (versions t k (pages_in f)) r.visibility
  pub place : r.at ≡ place_in f t k
