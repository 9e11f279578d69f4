-- Owners and records as values of the code; records and a page's head byte by byte, as the code writes them: proofs/ show that they are
-- the fields of Block.antt.
use Rattle.std.specs.Prelude.{ℕ, ◌+◌, ◌*◌, ◌/◌, ◌%◌, ◌-◌, ◌≤◌, ◌<◌, ◌≡◌, Bool, List, [], ◌∷◌, ◌++◌, length, take, drop}
use Rattle.block_forms.specs.Limits.{block_size, payload_limit, page_head_size, record_space, record_head, mark_value, committed_value, statement_limit}
use Rattle.block_forms.specs.Numbers.{be4}
use Rattle.block_forms.specs.Tuple as tuples
use Rattle.block_forms.specs.Tuple.{committed, tentative, Tuple, owner_size, sizes, OwnerFits}
use Rattle.block_forms.specs.Spell.{zeros}
use Rattle.block_forms.specs.Block.{committed_bit}
use Rattle.block_forms.specs.declared.Owner.{Owner}
use Rattle.block_forms.specs.declared.Owner.TheVariants.{Committed, Tentative}
use Rattle.block_forms.specs.declared.Record.{Record}
use Rattle.basics.specs.Basics.{one_if}

-- ---- values of the code and of the specification

-- the owner that a value of the code is
abbrev pub owner_is : Owner → tuples.Owner
owner_is Committed = committed
owner_is (Tentative t s) = tentative t s

-- an owner as a value of the code
abbrev pub owner_as : tuples.Owner → Owner
owner_as committed = Committed
owner_as (tentative t s) = Tentative t s

-- the payload of a record that stands in xs
abbrev pub payload_in : List ℕ → Record → List ℕ
payload_in xs r = take r.len (drop r.start xs)

-- the tuple of a record whose payload is p
unfoldable pub tuple_of : Record → List ℕ → Tuple
tuple_of r p = record { key = r.key; number = r.number; owner = owner_is r.owner; mark = r.mark; payload = p }

-- how many bytes a record takes
unfoldable pub size_of : Record → ℕ
size_of r = record_head + owner_size (owner_is r.owner) + r.len

-- the record fits a block at place at, its payload stands in xs, and its owner and payload are in range
pub record Appendable (at : ℕ) (r : Record) (xs : List ℕ) : Type 0 where
  pub room : at + size_of r ≤ block_size
  pub inside : r.start + r.len ≤ length xs
  pub limit : r.len ≤ payload_limit
  pub owner : OwnerFits (owner_is r.owner)

-- ---- bytes

-- a record's ninth byte: committed, delete mark, payload length
unfoldable pub flags_of : tuples.Owner → Bool → ℕ → ℕ
flags_of o m n = committed_bit o * committed_value + (one_if m * mark_value + n)

-- an owner's four bytes as a number, 0 if committed
unfoldable pub owner_word : tuples.Owner → ℕ
owner_word committed = 0
owner_word (tentative t s) = t * statement_limit + s

-- an owner's four bytes, if tentative
unfoldable pub owner_bytes : tuples.Owner → List ℕ
owner_bytes committed = []
owner_bytes (tentative t s) = be4 (owner_word (tentative t s))

-- a tuple's record
unfoldable pub record_bytes : Tuple → List ℕ
record_bytes x =
    be4 x.key ++ (be4 x.number ++ (flags_of x.owner x.mark (length x.payload) ∷ (owner_bytes x.owner ++ x.payload)))

-- the records of tuples one after another
unfoldable pub records : List Tuple → List ℕ
records [] = []
records (x ∷ xs) = record_bytes x ++ records xs

-- the first eight bytes of a page of n tuples with b record bytes
unfoldable pub page_head : ℕ → ℕ → ℕ → ℕ → List ℕ
page_head t n b l = be4 (536870912 + t * 33554432 + n * 524288 + b * 1024 + l / 4194304) ++ be4 (l % 4194304 * 1024)

-- ---- a page under construction

-- a block of zeros, and numbers that have room in a page's head: table, tuple count, record bytes
pub record PageStart (block : List ℕ) (t n b : ℕ) : Type 0 where
  pub zero : block ≡ zeros block_size
  pub table : t < 8
  pub count : n < 64
  pub bytes : b < 512

-- the 512 bytes of a page that will have n tuples with b record bytes: its head, the records of ts, then zeros
unfoldable pub part_page : ℕ → ℕ → ℕ → ℕ → List Tuple → List ℕ
part_page t l n b ts = page_head t n b l ++ (records ts ++ zeros (record_space - sizes ts))

-- the place behind the records of ts
abbrev pub behind : List Tuple → ℕ
behind ts = page_head_size + sizes ts

-- the record r, with its payload in xs, is appended at a place: a page under construction that ends there has this tuple too, and end is
-- the place behind it
pub record Appended (old new : List ℕ) (at : ℕ) (r : Record) (xs : List ℕ) (end : ℕ) : Type 0 where
  pub place : end ≡ at + size_of r
  pub page : (t l n b : ℕ) (ts : List Tuple) → old ≡ part_page t l n b ts → at ≡ behind ts → new ≡ part_page t l n b (ts ++ (tuple_of r (payload_in xs r) ∷ []))
