-- What the functions below a write need and leave; commit and abort as one call.
use Rattle.std.specs.Prelude.{◌≡◌, Bool, true, false, List, ℕ, ◌+◌, ◌≤◌, ◌<◌, length, get_or, set, Option, Some, None}
use Rattle.block_forms.specs.Limits.{payload_limit, most_transaction}
use Rattle.block_forms.specs.Tuple.{tentative}
use Rattle.model.specs.State.{Active, Store, Outcome}
use Rattle.model.specs.Transactions.{one_more, commit_call, abort_call}
use Rattle.memory_layout.specs.Flat.{Flat, flat_of, Room, with_head, with_opens, no_open}
use Rattle.memory_layout.specs.Store.{holds_store}
use Rattle.memory_layout.specs.Opens.{find_open}
use Rattle.memory_layout.specs.declared.Head.{Head}
use Rattle.block_forms.specs.Bytes.{owner_is}
use Rattle.memory_rows.specs.Rows.{RowFits}
use Rattle.memory_rows.specs.declared.Pending.TheVariants.{Nothing}
use Rattle.memory_rows.specs.declared.Row.{Row}
use Rattle.memory_pages.specs.Spots.{place_in}

-- open transaction i
abbrev pub open_in : Flat → ℕ → Active
open_in f i = get_or f.opens i no_open

-- open transaction i may write: there is a number left
pub record WriterAt (m : List ℕ) (i : ℕ) : Type 0 where
  pub room : Room m
  pub inside : i < length (flat_of m).opens
  pub next : (flat_of m).head.next ≡ 4294967295 → ⊥

-- the row that open transaction i writes next
pub record NextRow (f : Flat) (i k : ℕ) (mark : Bool) (r : Row) : Type 0 where
  pub key : r.key ≡ k
  pub number : r.number ≡ f.head.next
  pub owner : owner_is r.owner ≡ tentative (open_in f i).transaction (open_in f i).written
  pub marked : r.mark ≡ mark
  pub pending : r.pending ≡ Nothing
  pub fits : RowFits r

-- the head with the next number one higher
abbrev pub next_head : Head → Head
next_head h = record { capacity = h.capacity; blocks = h.blocks; level = h.level; next = h.next + 1; running = h.running; begun = h.begun; taken = h.taken }

-- the next number is one higher, and open transaction i has written one tuple more
abbrev pub after_count : Flat → ℕ → Flat
after_count f i = with_opens (with_head f (next_head f.head)) (set f.opens i (one_more (open_in f i)))

-- what the tests have shown of the memory before a tuple is written as row `at`
pub record AcceptAt (m : List ℕ) (tx t at k : ℕ) (bs : List ℕ) : Type 0 where
  pub has_store : holds_store m ≡ true
  pub opened : find_open tx (flat_of m).opens < length (flat_of m).opens
  pub transaction : tx ≤ most_transaction
  pub table : t < 8
  pub short : length bs ≤ payload_limit
  pub free : length (flat_of m).rows < (flat_of m).head.capacity
  pub next : (flat_of m).head.next ≡ 4294967295 → ⊥
  pub place : at ≡ place_in (flat_of m) t k

-- commit (keep) or abort
abbrev pub end_call : Bool → ℕ → Store → Outcome
end_call true = commit_call
end_call false = abort_call

-- the place of the transaction's first entry among the open ones, if it is open
abbrev pub OpenedAt : ℕ → List Active → Option ℕ → Type 0
OpenedAt tx os (Some i) = (i ≡ find_open tx os) × (i < length os)
OpenedAt tx os None = length os ≤ find_open tx os
