-- Rows as values of the code, and what a change of the rows leaves.
use Rattle.std.specs.Prelude.{ℕ, ◌+◌, ◌≤◌, ◌<◌, ◌≡◌, Bool, not, ◌&&◌, List, ◌++◌, length, drop, get_or, set}
use Rattle.block_forms.specs.Limits.{payload_limit}
use Rattle.block_forms.specs.Tuple.{is_tentative, OwnerFits}
use Rattle.block_forms.specs.Bytes.{owner_is}
use Rattle.image_rows.specs.Rows.{is_by}
use Rattle.model.specs.State as model
use Rattle.model.specs.State.{Held}
use Rattle.model.specs.Rules.{is_removing, applied, as_committed}
use Rattle.memory_bytes.specs.Bytes.{le4, bytes}
use Rattle.memory_layout.specs.Places.{starts_at, head_size}
use Rattle.memory_layout.specs.Flat.{Flat, flat_of, with_rows, capacity_of, rows_of, row_in, Room}
use Rattle.memory_rows.specs.declared.Pending.{Pending}
use Rattle.memory_rows.specs.declared.Pending.TheVariants.{Nothing, Adding, Committing, Removing}
use Rattle.memory_rows.specs.declared.Row.{Row}
use Rattle.memory_rows.specs.declared.Part.{Part}

-- ---- values of the code and of the model

-- a pending operation
abbrev pub pending_is : Pending → model.Pending
pending_is Nothing = model.nothing
pending_is Adding = model.adding
pending_is Committing = model.committing
pending_is Removing = model.removing

-- a row with its payload
abbrev pub held_by : Row → List ℕ → Held
held_by r bs =
    record {
      tuple = record { key = r.key; number = r.number; owner = owner_is r.owner; mark = r.mark; payload = bs };
      pending = pending_is r.pending;
    }

-- its transaction and statement have 12 and 20 bits
abbrev pub RowFits : Row → Type 0
RowFits r = OwnerFits (owner_is r.owner)

-- the row, committed, whatever is pending
unfoldable pub committed_row : Held → Held
committed_row h = record { tuple = as_committed h.tuple; pending = h.pending }

-- not pending removal and, its pending operation taken as done, tentative and of the transaction
unfoldable pub is_live_own : ℕ → Held → Bool
is_live_own tx h = not (is_removing h.pending) && is_by tx (applied h).owner

-- tentative, whatever its pending operation
unfoldable pub is_owned : Held → Bool
is_owned h = is_tentative h.tuple.owner

-- ---- parts of the memory

-- the bytes stand in this part
pub record Holds (m : List ℕ) (p : Part) (bs : List ℕ) : Type 0 where
  pub inside : p.start + p.len ≤ length m
  pub count : p.len ≡ length bs
  pub here : bytes m p.start p.len ≡ bs

-- ys is xs with the n bytes bs over its first bytes
pub record Copied (xs ys bs : List ℕ) (n : ℕ) : Type 0 where
  pub count : n ≡ length bs
  pub first : ys ≡ bs ++ drop n xs

-- ---- keys

-- the key of row i
abbrev pub key_in : Flat → ℕ → ℕ
key_in f i = (row_in f i).tuple.key

-- ---- one row exchanged

-- row i exchanged for h
abbrev pub with_row : Flat → ℕ → Held → Flat
with_row f i h = with_rows f (set f.rows i h)

-- ---- rows put in or taken out

-- row i is there, and its payload has room in what is lent
pub record PayloadInto (m : List ℕ) (i : ℕ) (out : List ℕ) : Type 0 where
  pub room : Room m
  pub inside : i < length (flat_of m).rows
  pub long : length (row_in (flat_of m) i).tuple.payload ≤ length out

-- there is room for the row, with payload xs, as row i
pub record NewRow (m : List ℕ) (i : ℕ) (r : Row) (xs : List ℕ) : Type 0 where
  pub room : Room m
  pub at : i ≤ length (flat_of m).rows
  pub more : length (flat_of m).rows < (flat_of m).head.capacity
  pub owner : RowFits r
  pub payload : length xs ≤ payload_limit

-- the rows are hs; every other byte is as it was but those of slots and of the three columns of rows
pub record RowsOnly (m m' : List ℕ) (hs : List Held) : Type 0 where
  pub size : length m' ≡ length m
  pub rows : rows_of m' ≡ hs
  pub count : le4 m' 32 ≡ length hs
  pub before : (b : ℕ) → b < 32 → get_or m' b 0 ≡ get_or m b 0
  pub head : (b : ℕ) → 36 ≤ b → b < head_size → get_or m' b 0 ≡ get_or m b 0
  pub behind : (b : ℕ) → starts_at (capacity_of m) ≤ b → get_or m' b 0 ≡ get_or m b 0
