-- The state of a store: tuples on pages, open transactions, blocks in use, a running checkpoint; and what a call gives.
use Rattle.std.specs.Prelude.{ℕ, Bool, List}
use Rattle.block_forms.specs.Tuple.{Tuple}
use Rattle.block_forms.specs.Block.{Block, encode_block}

-- the pending operation of a tuple on a frozen page
pub data Pending : Type 0 where
  nothing adding committing removing : Pending

-- a tuple on a page
pub record Held : Type 0 where
  pub tuple : Tuple
  pub pending : Pending

-- block: the one that holds the page as it is, 0 if the page is dirty
pub record Page : Type 0 where
  pub table : ℕ
  pub block : ℕ
  pub frozen : Bool
  pub tuples : List Held

-- running: the next number at begin; for each page at begin its block, 0 while it is to be written; the directory blocks written
pub data Checkpoint : Type 0 where
  idle : Checkpoint
  running : ℕ → List ℕ → List ℕ → Checkpoint

-- an open transaction, and how many tuples it has written since it opened (for a recovered one: how many the image has)
pub record Active : Type 0 where
  pub transaction : ℕ
  pub written : ℕ

-- used: the blocks named by the landed header or its directory or written by the running checkpoint; taken: the block last taken
pub record Store : Type 0 where
  pub blocks : ℕ
  pub capacity : ℕ
  pub level : ℕ
  pub next : ℕ
  pub pages : List Page
  pub active : List Active
  pub used : ℕ → Bool
  pub taken : ℕ
  pub checkpoint : Checkpoint

-- one block store
pub record Write : Type 0 where
  pub at : ℕ
  pub what : Block

-- the 512 bytes that it stores
abbrev pub stored_bytes : Write → List ℕ
stored_bytes w = encode_block w.what

-- filled: the answer, and the bytes that the reply starts with
pub data Answer : Type 0 where
  refused : ℕ → Answer
  done : Answer
  count : ℕ → Answer
  filled : ℕ → List ℕ → Answer

-- what a call gives: its answer, the store after it, the block stores made
pub record Outcome : Type 0 where
  pub answer : Answer
  pub store : Store
  pub writes : List Write
