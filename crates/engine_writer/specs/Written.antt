-- The header to come; a row as a record; the rows of a page, and what they show.
use Rattle.std.specs.Prelude.{ℕ, suc, ◌+◌, ◌*◌, ◌≤◌, ◌<◌, ◌≡◌, List, length}
use Rattle.block_forms.specs.Limits.{record_space, entries_per_block, most_number, block_size}
use Rattle.block_forms.specs.Tuple.{Tuple, sizes}
use Rattle.block_forms.specs.Spell.{zeros}
use Rattle.block_forms.specs.Bytes.{payload_in, tuple_of}
use Rattle.block_forms.specs.declared.Header.{Header}
use Rattle.block_forms.specs.declared.Record.{Record}
use Rattle.model.specs.Rules.{shown}
use Rattle.model.specs.Checkpoint.{header_for}
use Rattle.memory_layout.specs.Flat.{Flat}
use Rattle.memory_layout.specs.Elements.{rows_from, RowRange}
use Rattle.memory_layout.specs.Store.{store_of}
use Rattle.engine_writer.specs.declared.Shown.{Shown}

-- the header with which the running checkpoint ends
abbrev pub next_header : Flat → Header
next_header f = header_for (store_of f) (suc f.head.level) f.head.begun (length f.named) f.directories

-- there is a level for the header to come, and what is lent is a block long
pub record HeaderInto (out : List ℕ) (f : Flat) : Type 0 where
  pub level : f.head.level < most_number
  pub size : length out ≡ block_size

-- the list of pages has these entries, and they have room in a directory block
pub record EntriesFrom (f : Flat) (first count : ℕ) : Type 0 where
  pub few : count ≤ entries_per_block
  pub inside : first + count ≤ length f.named

-- the list of pages goes as far as directory block k, and what is lent is a block long
pub record DirectoryInto (out : List ℕ) (f : Flat) (k : ℕ) : Type 0 where
  pub start : entries_per_block * k ≤ length f.named
  pub size : length out ≡ block_size

-- the record r, with its payload in m, is the tuple x
pub record Spells (m : List ℕ) (r : Record) (x : Tuple) : Type 0 where
  pub inside : r.start + r.len ≤ length m
  pub tuple : tuple_of r (payload_in m r) ≡ x

-- ---- the rows of a page

-- w counts the tuples ts and the bytes that their records take
pub record Measures (w : Shown) (ts : List Tuple) : Type 0 where
  pub count : w.count ≡ length ts
  pub bytes : w.bytes ≡ sizes ts

-- the rows are there, the table is one of the eight, and what is lent is a block long
pub record PageInto (out m : List ℕ) (t s e : ℕ) : Type 0 where
  pub rows : RowRange m s e
  pub table : t < 8
  pub size : length out ≡ block_size

-- the block is empty, the table is one of the eight, and what the rows show was measured and has room in a block
pub record Fillable (block m : List ℕ) (t s e : ℕ) (w : Shown) : Type 0 where
  pub zero : block ≡ zeros block_size
  pub table : t < 8
  pub rows : RowRange m s e
  pub measured : Measures w (shown (rows_from m s e))
  pub fits : w.bytes ≤ record_space
