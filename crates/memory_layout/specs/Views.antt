-- What the bytes of the memory mean: the head's numbers, rows and page entries as typed values. Every byte pattern has a meaning.
use Rattle.std.specs.Prelude.{ℕ, suc, ◌+◌, ◌*◌, ◌-◌, ◌/◌, ◌%◌, ◌^◌, min, Bool, not, ◌&&◌, List, get_or, eqb, ltb, leb}
use Rattle.memory_bytes.specs.Columns.{slot_limit}
use Rattle.basics.specs.Basics.{if'◌then◌else◌, how_many, from}
use Rattle.memory_bytes.specs.Bytes.{le2, le4, bytes}
use Rattle.block_forms.specs.Limits.{payload_limit, block_limit, mark_value, statement_limit}
use Rattle.block_forms.specs.Decode.{read_owner, read_mark}
use Rattle.model.specs.State.{Pending, nothing, adding, committing, removing, Held, Active}
use Rattle.memory_layout.specs.Places.{tables_at, directories_at, opens_at, used_at, slots_at, slot_size, keys_at, refs_at, states_at, starts_at, blocks_at, named_at}
use Rattle.memory_layout.specs.declared.Head.{Head}
use Rattle.memory_layout.specs.declared.Counts.{Counts}
use Rattle.memory_layout.specs.declared.Entry.{Entry}

-- ---- the head

-- the numbers of the head that are no counts
unfoldable pub head_of : List ℕ → Head
head_of m =
    record {
      capacity = le4 m 4;
      blocks = le4 m 8;
      level = le4 m 12;
      next = le4 m 16;
      running = not (eqb (le4 m 20) 0);
      begun = le4 m 24;
      taken = le4 m 28;
    }

-- how many rows there are
abbrev pub row_count : List ℕ → ℕ
row_count m = le4 m 32

-- how many transactions are open
abbrev pub open_count : List ℕ → ℕ
open_count m = le4 m 36

-- how many directory entries there are
abbrev pub named_count : List ℕ → ℕ
named_count m = le4 m 40

-- how many directory blocks are written
abbrev pub directory_count : List ℕ → ℕ
directory_count m = le4 m 44

-- how many pages tables 0 to t have together
abbrev pub table_end : List ℕ → ℕ → ℕ
table_end m t = le2 m (tables_at + t * 2)

-- how many pages there are: those of all eight tables
abbrev pub page_count : List ℕ → ℕ
page_count m = table_end m 7

-- the counts together
unfoldable pub counts_of : List ℕ → Counts
counts_of m = record { rows = row_count m; pages = page_count m; opens = open_count m; named = named_count m; directories = directory_count m }

-- open transaction i: its number is in the high 12 bits, and how many tuples it has written in the low 20
unfoldable pub open_at : List ℕ → ℕ → Active
open_at m i = record { transaction = le4 m (opens_at + i * 4) / statement_limit; written = le4 m (opens_at + i * 4) % statement_limit }

-- number i of the directory blocks written
unfoldable pub directory_at : List ℕ → ℕ → ℕ
directory_at m i = le4 m (directories_at + i * 4) % block_limit

-- block b is in use: bit b % 8 from the low end of byte b / 8
unfoldable pub is_used : List ℕ → ℕ → Bool
is_used m b = ltb b block_limit && eqb (get_or m (used_at + b / 8) 0 / 2 ^ (b % 8) % 2) 1

-- ---- rows, for the capacity c

-- the slot that a number of two bytes names: slot 0 for one that is not there
unfoldable pub slot_of : ℕ → ℕ → ℕ
slot_of c r = if' ltb (r % slot_limit) c then r % slot_limit else 0

-- a pending operation by its number
unfoldable pub pending_by : ℕ → Pending
pending_by k = if' eqb k 0 then nothing else if' eqb k 1 then adding else if' eqb k 2 then committing else removing

-- the pending operation in a number of two bytes
unfoldable pub pending_of : ℕ → Pending
pending_of r = pending_by (r / slot_limit % 4)

-- the payload's length by a state's low six bits, and never above the limit
unfoldable pub length_of : ℕ → ℕ
length_of s = min (s % mark_value) payload_limit

-- the two bytes of row i that name its slot and its pending operation
abbrev pub ref_of : List ℕ → ℕ → ℕ → ℕ
ref_of m c i = le2 m (refs_at c + i * 2)

-- the key of row i
abbrev pub key_of : List ℕ → ℕ → ℕ → ℕ
key_of m c i = le4 m (keys_at c + i * 4)

-- the state of row i: the ninth byte of its record
abbrev pub state_of : List ℕ → ℕ → ℕ → ℕ
state_of m c i = get_or m (states_at c + i) 0

-- where slot s stands
abbrev pub slot_place : ℕ → ℕ
slot_place s = slots_at + s * slot_size

-- the row with the key k, the slot that stands at a, the state s and the pending operation in r
unfoldable pub held_of : List ℕ → ℕ → ℕ → ℕ → ℕ → Held
held_of m a k s r =
    record {
      tuple = record { key = k; number = le4 m a; owner = read_owner s (le4 m (a + 4)); mark = read_mark s; payload = bytes m (a + 8) (length_of s) };
      pending = pending_of r;
    }

-- row i
unfoldable pub row_at : List ℕ → ℕ → ℕ → Held
row_at m c i = held_of m (slot_place (slot_of c (ref_of m c i))) (key_of m c i) (state_of m c i) (ref_of m c i)

-- ---- pages, for the capacity c

-- the row with which page p starts; behind the last page, how many rows there are
unfoldable pub start_at : List ℕ → ℕ → ℕ → ℕ
start_at m c p = if' ltb p (page_count m) then le2 m (starts_at c + p * 2) else row_count m

-- the table of page p: how many tables end at or before it
unfoldable pub table_at : List ℕ → ℕ → ℕ
table_at m p = how_many (λ t. leb (table_end m t) p) (from 0 7)

-- the two bytes of page p that name its block and say whether it is frozen
abbrev pub block_word : List ℕ → ℕ → ℕ → ℕ
block_word m c p = le2 m (blocks_at c + p * 2)

-- page p
unfoldable pub entry_at : List ℕ → ℕ → ℕ → Entry
entry_at m c p =
    record {
      table = table_at m p;
      frozen = eqb (block_word m c p / block_limit % 2) 1;
      count = start_at m c (suc p) - start_at m c p;
      block = block_word m c p % block_limit;
    }

-- directory entry i: the block of a page at begin, 0 while it is to be written
unfoldable pub named_block : List ℕ → ℕ → ℕ → ℕ
named_block m c i = le2 m (named_at c + i * 2) % block_limit
