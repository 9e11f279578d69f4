-- Begin, step and run.
use Rattle.std.specs.Prelude.{ℕ, zero, suc, ◌+◌, ◌-◌, ◌*◌, min, Bool, true, false, not, ◌||◌, List, [], ◌∷◌, ◌++◌, map, length, take, drop, get_or, leb, ltb, eqb}
use Rattle.std.proofs.Math.Option.{Option, none, some}
use Rattle.basics.specs.Basics.{if'◌then◌else◌, how_many, first, is_in, from}
use Rattle.block_forms.specs.Limits.{record_space, entries_per_block, most_number, block_size}
use Rattle.block_forms.specs.Tuple.{Tuple, sizes}
use Rattle.block_forms.specs.Block.{Block, header, page, directory}
use Rattle.block_forms.specs.declared.Header.{Header}
use Rattle.image.specs.Stages.{directories_for}
use Rattle.model.specs.State.{Page, Checkpoint, idle, running, Store, refused, done, count, Outcome}
use Rattle.model.specs.Rules.{is_dirty, is_frozen, freeze, shown, thaw}
use Rattle.model.specs.Transactions.{Test, ◌when◌, gives, unless}

-- the store with another level, other pages, blocks in use, block last taken, checkpoint
unfoldable pub with_progress : Store → ℕ → List Page → (ℕ → Bool) → ℕ → Checkpoint → Store
with_progress s l ps u b c =
    record { blocks = s.blocks; capacity = s.capacity; level = l; next = s.next; pages = ps; active = s.active; used = u; taken = b; checkpoint = c }

-- ---- free blocks

-- of the blocks from 1 on: neither named by the landed header or its directory nor written by the running checkpoint
unfoldable pub is_free : Store → ℕ → Bool
is_free s b = not (s.used b)

-- the first free block after the one last taken, round to block 1. (If there were none, the last block: a begin that is accepted
-- never runs out.)
unfoldable pub allocate : Store → ℕ
allocate s =
    let t = s.taken in
    elim (first (is_free s) (from (suc t) (s.blocks - suc t) ++ from 1 t)) [ some b ↦ b | none ↦ s.blocks - 1 ]

-- how many blocks are free
unfoldable pub free_count : Store → ℕ
free_count s = how_many (is_free s) (from 1 (s.blocks - 1))

-- the blocks u, and block b too
abbrev pub used_and : ℕ → (ℕ → Bool) → ℕ → Bool
used_and b u c = eqb b c || u c

-- ---- begin

-- a checkpoint has begun and its header has not landed
unfoldable pub is_running : Checkpoint → Bool
is_running idle = false
is_running (running n es ds) = true

-- F + ⌈P/336⌉: one block for each of the F dirty pages, and the directory blocks of all P pages
unfoldable pub blocks_needed : List Page → ℕ
blocks_needed ps = how_many is_dirty ps + directories_for (length ps)

-- the store after a begin: every dirty page is frozen, and the list of all pages is fixed
abbrev pub begun : Store → Store
begun s = with_progress s s.level (map freeze s.pages) s.used s.taken (running s.next (map (λ p. p.block) s.pages) [])

-- 17 already running; 19 level is 4,294,967,295; 20 fewer free blocks than F + ⌈P/336⌉
unfoldable pub begin_call : Store → Outcome
begin_call s =
    unless (17 when is_running s.checkpoint ∷ 19 when eqb s.level most_number ∷ 20 when ltb (free_count s) (blocks_needed s.pages) ∷ []) s
    (gives (count (blocks_needed s.pages + 1)) (begun s))

-- ---- step

-- the frozen pages and the directory blocks still to write: each takes a free block
abbrev pub blocks_left : List ℕ → List ℕ → List Page → ℕ
blocks_left es ds ps = how_many is_frozen ps + (directories_for (length es) - length ds)

-- these blocks, and the header
unfoldable pub left_of : Checkpoint → List Page → ℕ
left_of idle ps = 0
left_of (running n es ds) ps = blocks_left es ds ps + 1

-- how many stores the running checkpoint has still to make
unfoldable pub left : Store → ℕ
left s = left_of s.checkpoint s.pages

-- one store made, with the store after it; the answer is the number left
unfoldable pub made : ℕ → Block → Store → Outcome
made b x s = record { answer = count (left s); store = s; writes = record { at = b; what = x } ∷ [] }

-- the first 0 of the list becomes b
unfoldable pub fill : ℕ → List ℕ → List ℕ
fill b [] = []
fill b (e ∷ es) = if' eqb e 0 then b ∷ es else e ∷ fill b es

-- what a block has room for. (All that a frozen page shows: it fitted when it was frozen.)
unfoldable pub storable : List Tuple → List Tuple
storable ts = if' leb (sizes ts) record_space then ts else []

-- the store after a page's store in block b: the page is thawed, and the directory will name b
abbrev pub page_stored : ℕ → ℕ → List ℕ → List ℕ → Store → Store
page_stored b n es ds s = with_progress s s.level (thaw b s.pages) (used_and b s.used) b (running n (fill b es) ds)

-- a page's store
unfoldable pub store_page : ℕ → List ℕ → List ℕ → Page → Store → Outcome
store_page n es ds p s =
    let b = allocate s in
    made b (page p.table (suc s.level) (storable (shown p.tuples))) (page_stored b n es ds s)

-- the store after the store of a directory block in block b
abbrev pub directory_stored : ℕ → ℕ → List ℕ → List ℕ → Store → Store
directory_stored b n es ds s = with_progress s s.level s.pages (used_and b s.used) b (running n es (ds ++ b ∷ []))

-- the entries of directory block k
abbrev pub block_entries : ℕ → List ℕ → List ℕ
block_entries k es = take entries_per_block (drop (entries_per_block * k) es)

-- 336 entries in every directory block but the last
unfoldable pub store_directory : ℕ → List ℕ → List ℕ → Store → Outcome
store_directory n es ds s =
    let b = allocate s in
    made b (directory (suc s.level) (block_entries (length ds) es)) (directory_stored b n es ds s)

-- the next number and page count are those at begin
unfoldable pub header_for : Store → ℕ → ℕ → ℕ → List ℕ → Header
header_for s l n p ds =
    record {
      blocks = s.blocks;
      capacity = s.capacity;
      level = l;
      next = n;
      pages = p;
      directories = length ds;
      d0 = get_or ds 0 0;
      d1 = get_or ds 1 0;
      d2 = get_or ds 2 0;
      d3 = get_or ds 3 0;
    }

-- the store after the header's store: blocks that it no longer names are free
abbrev pub header_stored : List ℕ → List ℕ → Store → Store
header_stored es ds s = with_progress s (suc s.level) s.pages (λ b. is_in b (es ++ ds)) s.taken idle

-- the header's store
unfoldable pub store_header : ℕ → List ℕ → List ℕ → Store → Outcome
store_header n es ds s = made 0 (header (header_for s (suc s.level) n (length es) ds)) (header_stored es ds s)

-- the frozen pages in list order, then the directory, then the header
unfoldable pub step_of : Option Page → ℕ → List ℕ → List ℕ → Store → Outcome
step_of (some p) n es ds s = store_page n es ds p s
step_of none n es ds s = if' ltb (length ds) (directories_for (length es)) then store_directory n es ds s else store_header n es ds s

-- 18 none running
unfoldable pub step_at : Checkpoint → Store → Outcome
step_at idle s = gives (refused 18) s
step_at (running n es ds) s = step_of (first is_frozen s.pages) n es ds s

-- 5 image is not exactly the store's blocks long; 18 none running
unfoldable pub bad_image : ℕ → Store → Test
bad_image len s = 5 when not (eqb len (block_size * s.blocks))

-- one store
unfoldable pub step_call : ℕ → Store → Outcome
step_call len s = unless (bad_image len s ∷ []) s (step_at s.checkpoint s)

-- ---- run

-- k steps in turn
unfoldable pub in_turn : ℕ → Store → Outcome
in_turn zero s = gives done s
in_turn (suc k) s =
    let o = step_at s.checkpoint s in
    let r = in_turn k o.store in
    record { answer = r.answer; store = r.store; writes = o.writes ++ r.writes }

-- the count is the smaller of the limit and the stores left
unfoldable pub run_call : ℕ → ℕ → Store → Outcome
run_call limit len s =
    let k = min limit (left s) in
    let r = in_turn k s in
    unless (bad_image len s ∷ 18 when not (is_running s.checkpoint) ∷ []) s (record { answer = count k; store = r.store; writes = r.writes })
