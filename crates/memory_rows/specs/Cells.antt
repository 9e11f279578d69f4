-- What the inner functions say: numbers that are stored, slots, and cells of the rows' columns.
use Rattle.std.specs.Prelude.{ℕ, ◌+◌, ◌*◌, ◌≤◌, ◌<◌, ◌≡◌, Bool, true, false, List, length, get_or}
use Rattle.image.specs.Stages.{capacity_limit}
use Rattle.block_forms.specs.Limits.{payload_limit}
use Rattle.memory_bytes.specs.Bytes.{le4, bytes, Apart}
use Rattle.memory_layout.specs.Places.{slot_size, keys_at, refs_at, states_at, starts_at}
use Rattle.memory_layout.specs.Views.{slot_of, key_of, ref_of, state_of, slot_place}
use Rattle.basics.specs.Basics.{any}
use Rattle.model.specs.State as model
use Rattle.memory_bytes.specs.Columns.{equals, slot_limit}
use Rattle.basics.specs.Lists.{tab}
use Rattle.memory_layout.specs.Flat.{capacity_of, rows_of}
use Rattle.memory_rows.specs.declared.Eight.{Eight}
use Rattle.memory_rows.specs.declared.Pending.{Pending}
use Rattle.memory_rows.specs.declared.Pending.TheVariants.{Nothing, Adding, Committing, Removing}

-- ---- numbers that are stored

-- the number of a pending operation, as it stands above a slot's number
abbrev pub code_of : Pending → ℕ
code_of Nothing = 0
code_of Adding = 1
code_of Committing = 2
code_of Removing = 3

-- ---- pending operations

-- the operation, once done, leaves the row and its owner
abbrev pub keeps_owner : model.Pending → Bool
keeps_owner model.nothing = true
keeps_owner model.adding = true
keeps_owner model.committing = false
keeps_owner model.removing = false

-- ---- slots

-- the slot of row i, for the capacity c
unfoldable pub slot_in : List ℕ → ℕ → ℕ → ℕ
slot_in m c i = slot_of c (ref_of m c i)

-- the slot of row i
abbrev pub slot_at : List ℕ → ℕ → ℕ
slot_at m i = slot_in m (capacity_of m) i

-- a row is in slot s
abbrev pub is_taken : List ℕ → ℕ → Bool
is_taken m s = any (equals s) (tab (slot_at m) 0 (length (rows_of m)))

-- every row is in the slot of its own index
pub record InOrder (m : List ℕ) : Type 0 where
  pub slot : (i : ℕ) → i < length (rows_of m) → slot_at m i ≡ i

-- ---- cells, for the capacity c

-- row k of m' has the key, the slot number and the state of row j of m
pub record SameCells (m m' : List ℕ) (c j k : ℕ) : Type 0 where
  pub key : key_of m' c k ≡ key_of m c j
  pub ref : ref_of m' c k ≡ ref_of m c j
  pub state : state_of m' c k ≡ state_of m c j

-- only bytes of the three columns may differ
pub record ColumnsOnly (m m' : List ℕ) (c : ℕ) : Type 0 where
  pub size : length m' ≡ length m
  pub below : (b : ℕ) → b < keys_at c → get_or m' b 0 ≡ get_or m b 0
  pub above : (b : ℕ) → starts_at c ≤ b → get_or m' b 0 ≡ get_or m b 0

-- the memory has room for the columns
pub record ColumnsFit (m : List ℕ) (c : ℕ) : Type 0 where
  pub most : c ≤ capacity_limit
  pub long : starts_at c ≤ length m

-- of n rows, those from row i on are one further up
pub record RowsRaised (m m' : List ℕ) (c i n : ℕ) : Type 0 where
  pub only : ColumnsOnly m m' c
  pub before : (j : ℕ) → j < i → SameCells m m' c j j
  pub moved : (j : ℕ) → i ≤ j → j < n → SameCells m m' c j (j + 1)

-- of n rows, those behind row i are one further down
pub record RowsLowered (m m' : List ℕ) (c i n : ℕ) : Type 0 where
  pub only : ColumnsOnly m m' c
  pub before : (j : ℕ) → j < i → SameCells m m' c j j
  pub moved : (j : ℕ) → i ≤ j → j + 1 < n → SameCells m m' c (j + 1) j

-- in each column there are the cells of eight rows
pub record EightFits (rows : Eight) : Type 0 where
  pub keys : length rows.keys ≡ 32
  pub refs : length rows.refs ≡ 16
  pub states : length rows.states ≡ 8

-- the eight rows from row k on may get these cells
pub record EightInto (m : List ℕ) (c k : ℕ) (rows : Eight) : Type 0 where
  pub fit : ColumnsFit m c
  pub inside : k + 8 ≤ c
  pub cells : EightFits rows

-- there are eight rows from row i on, and eight from row k on
pub record EightPair (m : List ℕ) (c i k : ℕ) : Type 0 where
  pub fit : ColumnsFit m c
  pub first : i + 8 ≤ c
  pub second : k + 8 ≤ c

-- of n rows, those from row i on may go one up
pub record MayRaise (m : List ℕ) (c i n : ℕ) : Type 0 where
  pub fit : ColumnsFit m c
  pub order : i ≤ n
  pub space : n < c

-- of n rows, those behind row i may go one down
pub record MayLower (m : List ℕ) (c i n : ℕ) : Type 0 where
  pub fit : ColumnsFit m c
  pub order : i < n
  pub space : n ≤ c

-- rows has the cells of the eight rows of m from row i on
pub record EightOf (m : List ℕ) (c i : ℕ) (rows : Eight) : Type 0 where
  pub keys : rows.keys ≡ bytes m (keys_at c + i * 4) 32
  pub refs : rows.refs ≡ bytes m (refs_at c + i * 2) 16
  pub states : rows.states ≡ bytes m (states_at c + i) 8

-- the eight rows of m' from row k on have the cells of those of m₀ from row i on, and all others those that they have in m
pub record EightPut (m₀ m m' : List ℕ) (c i k : ℕ) : Type 0 where
  pub only : ColumnsOnly m m' c
  pub here : (j l : ℕ) → i ≤ j → j < i + 8 → l + i ≡ j + k → SameCells m₀ m' c j l
  pub before : (j : ℕ) → j < k → SameCells m m' c j j
  pub behind : (j : ℕ) → k + 8 ≤ j → j < c → SameCells m m' c j j

-- row i of m' has these cells, and every other row those that it has in m
pub record CellsPut (m m' : List ℕ) (c i k r s : ℕ) : Type 0 where
  pub only : ColumnsOnly m m' c
  pub others : (j : ℕ) → j < c → (j ≡ i → ⊥) → SameCells m m' c j j
  pub key : key_of m' c i ≡ k
  pub ref : ref_of m' c i ≡ r
  pub state : state_of m' c i ≡ s

-- c may be a capacity, and the column of slot numbers has n of them
pub record SlotNumbers (m : List ℕ) (c n : ℕ) : Type 0 where
  pub least : 1 ≤ c
  pub most : c ≤ capacity_limit
  pub long : refs_at c + n * 2 ≤ length m

-- slot s is inside the memory, and the payload has room in it
pub record SlotInto (m : List ℕ) (s : ℕ) (xs : List ℕ) : Type 0 where
  pub low : s < slot_limit
  pub inside : slot_place s + slot_size ≤ length m
  pub payload : length xs ≤ payload_limit

-- slot s has number n, the owner of word w and payload xs
pub record SlotFilled (m m' : List ℕ) (s n w : ℕ) (xs : List ℕ) : Type 0 where
  pub apart : Apart m m' (slot_place s) slot_size
  pub number : le4 m' (slot_place s) ≡ n
  pub owner : le4 m' (slot_place s + 4) ≡ w
  pub payload : bytes m' (slot_place s + 8) (length xs) ≡ xs
