-- What a step needs, and what it does to image and memory.
use Rattle.std.specs.Prelude.{ℕ, ◌*◌, ◌≤◌, ◌<◌, ◌≡◌, true, ◌||◌, List, length}
use Rattle.std.proofs.Math.Option.{Option, none, some}
use Rattle.block_forms.specs.Limits.{block_size}
use Rattle.basics.specs.Basics.{how_many, is_in}
use Rattle.basics.specs.Lists.{first_index}
use Rattle.image.specs.Stages.{directories_for}
use Rattle.model.specs.State.{Answer, refused, done, count, filled, Store, Outcome}
use Rattle.model.specs.Rules.{is_frozen}
use Rattle.model.specs.Checkpoint.{is_running, step_at, step_call, used_and}
use Rattle.model.specs.Recover.{image_after}
use Rattle.memory_layout.specs.Flat.{Flat, flat_of, Becomes, with_head, with_used}
use Rattle.memory_layout.specs.Store.{holds_store, store_of, HoldsNow}
use Rattle.engine_pages.specs.Pages.{pages_of}
use Rattle.engine_pages.specs.Pending.{FirstFrozen}
use Rattle.engine_allocator.specs.Blocks.{allocator_in}

-- the store after g, which is given the next number at begin, the list of pages and the directory blocks of the running checkpoint
abbrev pub after_store : (ℕ → List ℕ → List ℕ → Store → Store) → Flat → Store
after_store g f = g f.head.begun f.named f.directories (store_of f)

-- a checkpoint runs in the store that the memory holds
pub record RunningIn (m : List ℕ) : Type 0 where
  pub has_store : holds_store m ≡ true
  pub on : is_running (store_of (flat_of m)).checkpoint ≡ true

-- a checkpoint runs, and the image is exactly the store's blocks long
pub record Ready (img m : List ℕ) : Type 0 where
  pub runs : RunningIn m
  pub long : length img ≡ block_size * (flat_of m).head.blocks

-- the running checkpoint takes block b
pub record Takes (m : List ℕ) (b : ℕ) : Type 0 where
  pub runs : RunningIn m
  pub inside : b < (flat_of m).head.blocks

-- a block is still to be taken, and p is the first frozen page, or the number of pages if none is frozen
pub record BlockLeft (img m : List ℕ) (p : ℕ) : Type 0 where
  pub ready : Ready img m
  pub next : p ≡ first_index is_frozen (pages_of m)
  pub some_left : 1 ≤ (allocator_in m).left

-- no page is frozen
abbrev pub NoneFrozen : List ℕ → Type 0
NoneFrozen m = how_many is_frozen (pages_of m) ≡ 0

-- the first frozen page, p, is to be stored
pub record PageNext (img m : List ℕ) (p : ℕ) : Type 0 where
  pub ready : Ready img m
  pub first_frozen : FirstFrozen m p

-- a directory block is to be stored: no page is frozen, and blocks of the directory are missing
pub record DirectoryNext (img m : List ℕ) : Type 0 where
  pub ready : Ready img m
  pub none_frozen : NoneFrozen m
  pub short : length (flat_of m).directories < directories_for (length (flat_of m).named)

-- the header is to be stored: no page is frozen, and the directory is complete
pub record HeaderNext (img m : List ℕ) : Type 0 where
  pub ready : Ready img m
  pub none_frozen : NoneFrozen m
  pub complete : directories_for (length (flat_of m).named) ≤ length (flat_of m).directories

-- block b is in use too, and it is the one last taken
abbrev pub taking : ℕ → Flat → Flat
taking b f =
    let h = f.head in
    with_used (with_head f (record { capacity = h.capacity; blocks = h.blocks; level = h.level; next = h.next; running = h.running; begun = h.begun; taken = b })) (used_and b f.used)

-- these blocks are in use too
pub record Marks (m m' : List ℕ) (bs : List ℕ) : Type 0 where
  pub becomes : Becomes m m' (with_used (flat_of m) (flat_of m').used)
  pub used : (c : ℕ) → (flat_of m').used c ≡ (is_in c bs || (flat_of m).used c)

-- what the outcome o does to image and memory
pub record Effect (o : Outcome) (img m img' m' : List ℕ) : Type 0 where
  pub memory : HoldsNow m m' o.store
  pub image : img' ≡ image_after o.writes img

-- one step of the running checkpoint is made
abbrev pub Steps : List ℕ → List ℕ → List ℕ → List ℕ → Type 0
Steps img m img' m' = Effect (step_at (store_of (flat_of m)).checkpoint (store_of (flat_of m))) img m img' m'

-- the number of a refusal, 0 of any other answer
unfoldable pub refusal_number : Answer → ℕ
refusal_number (refused n) = n
refusal_number done = 0
refusal_number (count n) = 0
refusal_number (filled n bs) = 0

-- what a step, of an image of len bytes, is refused with, 0 if it is not: 4 without a store, otherwise by the model's tests
unfoldable pub step_refusal : ℕ → Option Store → ℕ
step_refusal len none = 4
step_refusal len (some s) = refusal_number (step_call len s).answer
