-- Where each part of the memory stands: the head in the first 1,024 bytes, then columns whose places go by the capacity c.
use Rattle.std.specs.Prelude.{ℕ, ◌+◌, ◌*◌, ◌/◌}
use Rattle.block_forms.specs.Limits.{block_limit}

-- ---- the head

-- what a memory that holds a store begins with: V, O, Z and the layout's version, 3
abbrev pub signature : ℕ
signature = 56250198

-- the pages of tables 0 to t together, for each t, two bytes each
abbrev pub tables_at : ℕ
tables_at = 64

-- the directory blocks written by the running checkpoint, four bytes each
abbrev pub directories_at : ℕ
directories_at = 96

-- the open transactions, four bytes each
abbrev pub opens_at : ℕ
opens_at = 128

-- blocks in use, one bit each
abbrev pub used_at : ℕ
used_at = 512

-- the bytes of these bits
abbrev pub used_size : ℕ
used_size = block_limit / 8

-- the end of the head
abbrev pub head_size : ℕ
head_size = 1024

-- ---- the columns

-- a slot: number, owner and payload of a row
abbrev pub slot_size : ℕ
slot_size = 72

-- slots
abbrev pub slots_at : ℕ
slots_at = head_size

-- keys of the rows, four bytes each
abbrev pub keys_at : ℕ → ℕ
keys_at c = head_size + c * slot_size

-- slots of the rows with their pending operations, two bytes each
abbrev pub refs_at : ℕ → ℕ
refs_at c = head_size + c * (slot_size + 4)

-- states of the rows, one byte each
abbrev pub states_at : ℕ → ℕ
states_at c = head_size + c * (slot_size + 6)

-- first rows of the pages, two bytes each; room for two pages a row
abbrev pub starts_at : ℕ → ℕ
starts_at c = head_size + c * (slot_size + 7)

-- blocks of the pages, two bytes each
abbrev pub blocks_at : ℕ → ℕ
blocks_at c = head_size + c * (slot_size + 11)

-- directory entries of the running checkpoint, two bytes each; room for two a row
abbrev pub named_at : ℕ → ℕ
named_at c = head_size + c * (slot_size + 15)
