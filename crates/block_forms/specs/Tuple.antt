-- A tuple and its size.
use Rattle.std.specs.Prelude.{ℕ, ◌+◌, ◌<◌, ◌≤◌, Bool, true, false, List, length}
use Rattle.basics.specs.Basics.{if'◌then◌else◌, sum, AllOf}
use Rattle.block_forms.specs.Limits.{payload_limit, record_head, owner_width, transaction_limit, statement_limit}

-- the committed mark; a tentative tuple has its transaction and statement instead
pub data Owner : Type 0 where
  committed : Owner
  tentative : ℕ → ℕ → Owner

-- key, number, payload, delete mark, and who owns it
pub record Tuple : Type 0 where
  pub key : ℕ
  pub number : ℕ
  pub owner : Owner
  pub mark : Bool
  pub payload : List ℕ

-- not committed
unfoldable pub is_tentative : Owner → Bool
is_tentative committed = false
is_tentative (tentative t s) = true

-- what an owner adds to the size of a record: 4 if tentative
unfoldable pub owner_size : Owner → ℕ
owner_size committed = 0
owner_size (tentative t s) = owner_width

-- the size of a record with a payload of n bytes: 9 bytes plus the payload, plus 4 if tentative
abbrev pub record_size : Bool → ℕ → ℕ
record_size t n = record_head + (if' t then owner_width else 0) + n

-- a tuple's size is that of its record
unfoldable pub size : Tuple → ℕ
size x = record_head + owner_size x.owner + length x.payload

-- the size of a page: the sum of the sizes of its tuples
abbrev pub sizes : List Tuple → ℕ
sizes ts = sum size ts

-- a transaction is 0 to 4,095, and a statement has 20 bits
abbrev pub OwnerFits : Owner → Type 0
OwnerFits committed = Unit {0}
OwnerFits (tentative t s) = (t < transaction_limit) × (s < statement_limit)

-- a byte
abbrev pub Byte : ℕ → Type 0
Byte b = b < 256

-- every element is a byte
abbrev pub AllBytes : List ℕ → Type 0
AllBytes bs = AllOf Byte bs

-- every field is in its range
pub record Fits (x : Tuple) : Type 0 where
  pub key : x.key < 4294967296
  pub number : x.number < 4294967296
  pub owner : OwnerFits x.owner
  pub payload : length x.payload ≤ payload_limit
  pub bytes : AllBytes x.payload

-- every tuple's fields are in their ranges
abbrev pub AllFit : List Tuple → Type 0
AllFit xs = AllOf Fits xs
