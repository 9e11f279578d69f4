-- The transactions of the tentative tuples are open.
use Rattle.std.specs.Prelude.{ℕ, ◌+◌, ◌≤◌, ◌<◌, ◌≡◌, List, [], ◌∷◌, map, length, get_or, set, eqb}
use Rattle.basics.specs.Basics.{if'◌then◌else◌, AllOf, any, how_many}
use Rattle.block_forms.specs.Limits.{transaction_limit}
use Rattle.block_forms.specs.Tuple.{Owner, committed, tentative, OwnerFits}
use Rattle.image.specs.Stages.{capacity_limit}
use Rattle.image_rows.specs.Rows.{Row, is_own, transactions, open_limit}
use Rattle.model.specs.State.{Held, Active}
use Rattle.model.specs.Recover.{reopened}
use Rattle.memory_layout.specs.Flat.{Flat, flat_of, Room}

-- every owner's numbers are in their ranges
abbrev pub AllOwners : List Held → Type 0
AllOwners hs = AllOf (λ h. OwnerFits h.tuple.owner) hs

-- a row of the memory as a row of table 0: which transaction's it is does not depend on the table
abbrev pub own_row : Held → Row
own_row h = (0, h.tuple)

-- all rows
unfoldable pub own_rows : Flat → List Row
own_rows f = map own_row f.rows

-- ---- counts by transaction

-- a count for every transaction, none above the most rows that there are
pub record Sized (xs : List ℕ) : Type 0 where
  pub size : length xs ≡ transaction_limit
  pub most : (t : ℕ) → t < transaction_limit → get_or xs t 0 ≤ capacity_limit

-- how many of the rows are each transaction's
pub record Counts (rs : List Row) (xs : List ℕ) : Type 0 where
  pub size : length xs ≡ transaction_limit
  pub each : (t : ℕ) → t < transaction_limit → get_or xs t 0 ≡ how_many (is_own t) rs

-- one tuple more of the owner's transaction
unfoldable pub noted : Owner → List ℕ → List ℕ
noted committed xs = xs
noted (tentative t s) xs = set xs t (get_or xs t 0 + 1)

-- the owner's transaction, once as many of its tuples are passed as there are
unfoldable pub opened_by : Owner → List ℕ → List ℕ → List Active
opened_by committed counts passed = []
opened_by (tentative t s) counts passed = if' eqb (get_or passed t 0) (get_or counts t 0) then record { transaction = t; written = get_or counts t 0 } ∷ [] else []

-- at the last row of a transaction it is opened: rs come after the row, and all is all rows
unfoldable pub opened : List Row → Owner → List Row → List Active
opened all committed rs = []
opened all (tentative t s) rs = if' any (is_own t) rs then [] else reopened all t ∷ []

-- ---- what the functions ask

-- the rows of each transaction may be counted: owners are in their ranges, and the counts are zeros
pub record MayCount (m counts : List ℕ) : Type 0 where
  pub room : Room m
  pub owners : AllOwners (flat_of m).rows
  pub none : Counts [] counts

-- the transactions of all rows may be opened
pub record MayOpen (m : List ℕ) : Type 0 where
  pub room : Room m
  pub owners : AllOwners (flat_of m).rows
  pub opens : length (flat_of m).opens + length (transactions (own_rows (flat_of m))) ≤ open_limit

-- the same, and the rows of each transaction are counted, while none is passed
pub record MayOpenAll (m counts passed : List ℕ) : Type 0 where
  pub may : MayOpen m
  pub counted : Counts (own_rows (flat_of m)) counts
  pub none : Counts [] passed

-- an owner's transaction may be opened, if all its tuples are passed
pub record MayOpenOne (m : List ℕ) (o : Owner) (counts passed : List ℕ) : Type 0 where
  pub room : Room m
  pub owner : OwnerFits o
  pub counted : Sized counts
  pub passing : Sized passed
  pub opens : length (flat_of m).opens + length (opened_by o counts passed) ≤ open_limit
