-- What every store of a run is, whatever was called: recovery's own tests, and what a running checkpoint needs. It is shown of
-- stores made and recovered, and kept by every call.
use Rattle.std.specs.Prelude.{ℕ, suc, ◌+◌, ◌-◌, ◌≤◌, ◌<◌, min, ◌≡◌, Bool, true, false, not, ◌&&◌, ◌||◌, List, [], ◌∷◌, ◌++◌, map, length, leb, ltb, eqb}
use Rattle.basics.specs.Basics.{if'◌then◌else◌, any, all, every, paired, how_many, is_empty, is_in, distinct}
use Rattle.block_forms.specs.Limits.{record_space, most_number, block_limit, most_transaction}
use Rattle.block_forms.specs.Tuple.{Owner, committed, tentative, AllFit, sizes}
use Rattle.image_rows.specs.Rows.{Row, number, is_own, is_at, is_lower, follows, starts_well, is_below, rows_ok, open_limit}
use Rattle.image.specs.Stages.{holds, capacity_limit, directories_for, is_zero}
use Rattle.model.specs.State.{Held, Page, Checkpoint, idle, running, Store, Write, count}
use Rattle.model.specs.Rules.{fits, split_all, without_pending, is_pending, pend_remove, edit_at, pend_remove_at, is_dirty, shown, live, is_frozen}
use Rattle.model.specs.Sight.{held, rows, versions}
use Rattle.model.specs.Transactions.{open_numbers, written_by, with_write, PlaceOp, carry_out}
use Rattle.model.specs.Checkpoint.{allocate, free_count, left, storable, begin_call, step_call, run_call}
use Rattle.model.specs.Calls.{Call, steps, call, Typed, AllTyped, accepted, after_calls}
use Rattle.model.specs.Recover.{make, recover}
use Rattle.model.specs.CrashRecovery.{Start}

-- ---- tuples

-- the order of rows: by table, then key, then number
unfoldable pub is_before : Row → Row → Bool
is_before r q = is_lower r q || (is_at q.0 q.1.key r && ltb (number r) (number q))

-- all tuples held, those pending add or removal too: they are in order; no number stands twice, all are below next; at most cap
unfoldable pub held_ok : ℕ → ℕ → List Row → Bool
held_ok cap next rs = every (paired is_before rs ∷ distinct (map number rs) ∷ all (is_below next) rs ∷ leb (length rs) cap ∷ [])

-- ---- pages

-- a page that is not frozen: not empty, at most 504 bytes, nothing pending
unfoldable pub settled_ok : List Held → Bool
settled_ok hs = every (not (is_empty hs) ∷ fits hs ∷ not (any (λ h. is_pending h.pending) hs) ∷ [])

-- a frozen page is dirty, and what it shows can be stored
unfoldable pub frozen_ok : Page → Bool
frozen_ok p = every (is_dirty p ∷ not (is_empty (shown p.tuples)) ∷ leb (sizes (shown p.tuples)) record_space ∷ [])

-- a page is of table 0 to 7
unfoldable pub page_well : Page → Bool
page_well p = leb p.table 7 && (if' p.frozen then frozen_ok p else settled_ok p.tuples)

-- a page is dirty, or its block passes the test
unfoldable pub dirty_or : (ℕ → Bool) → Page → Bool
dirty_or f p = is_dirty p || f p.block

-- ---- open transactions

-- the transaction of a tentative tuple is open
unfoldable pub owner_in : List ℕ → Owner → Bool
owner_in os committed = true
owner_in os (tentative tx s) = is_in tx os

-- at most 64, each once, each 0 to 4,095
unfoldable pub open_ok : List ℕ → Bool
open_ok os = every (leb (length os) open_limit ∷ distinct os ∷ all (λ tx. leb tx most_transaction) os ∷ [])

-- ---- a running checkpoint: n the next number at begin, es the entries, ds the directory blocks written

-- what holds while it runs
pub record RunningWell (n : ℕ) (es ds : List ℕ) (s : Store) : Type 0 where
  -- the header to come is one of this store
  pub level : s.level < most_number
  pub number : n ≤ s.next
  pub entries : length es ≤ s.capacity
  -- a page still to be written for each frozen one
  pub waiting : how_many is_zero es ≡ how_many is_frozen s.pages
  -- the directory comes after the frozen pages
  pub late : ltb 0 (length ds) ≡ true → any is_frozen s.pages ≡ false
  pub directories : length ds ≤ directories_for (length es)
  -- what the new header will name is in use and named once, and the block of every clean page is among it
  pub named : all (λ e. is_zero e || s.used e) es ≡ true
  pub directories_used : all s.used ds ≡ true
  pub kept : all (dirty_or (λ b. is_in b es)) s.pages ≡ true
  pub once : (b : ℕ) → 1 ≤ b → how_many (eqb b) (es ++ ds) ≤ 1
  -- free blocks suffice for the frozen pages and the directory blocks still to write
  pub room : how_many is_frozen s.pages + (directories_for (length es) - length ds) ≤ free_count s

-- pages are frozen only while a checkpoint runs
abbrev pub CheckpointWell : Checkpoint → Store → Type 0
CheckpointWell idle s = any is_frozen s.pages ≡ false
CheckpointWell (running n es ds) s = RunningWell n es ds s

-- ---- a well-formed store

-- what holds of every store that calls lead to
pub record WellFormed (s : Store) : Type 0 where
  pub blocks : (2 ≤ s.blocks) × (s.blocks ≤ block_limit)
  pub capacity : (1 ≤ s.capacity) × (s.capacity ≤ capacity_limit)
  pub level : s.level ≤ most_number
  pub next : s.next ≤ most_number
  pub tuples : held_ok s.capacity s.next (held s.pages) ≡ true
  pub fields : AllFit (map (λ r. r.1) (held s.pages))
  pub live : rows_ok s.capacity s.next (rows s.pages) ≡ true
  pub owners : all (λ r. owner_in (open_numbers s.active) r.1.owner) (rows s.pages) ≡ true
  pub opened : open_ok (open_numbers s.active) ≡ true
  -- an open transaction's count is that of its live rows
  pub counts : (tx : ℕ) → is_in tx (open_numbers s.active) ≡ true → written_by tx s.active ≡ how_many (is_own tx) (rows s.pages)
  pub pages : all page_well s.pages ≡ true
  -- the block of a clean page is in use, and no other page's
  pub clean : all (dirty_or s.used) s.pages ≡ true
  pub apart : (b : ℕ) → 1 ≤ b → how_many (λ p. eqb b p.block) s.pages ≤ 1
  pub used : (b : ℕ) → s.used b ≡ true → (1 ≤ b) × (b < s.blocks)
  pub taken : s.taken < s.blocks
  pub checkpoint : CheckpointWell s.checkpoint s

-- ---- it holds from the start, and every call keeps it

-- an accepted make gives a well-formed store
abbrev pub MadeWell : Type 0
MadeWell = (len m n : ℕ) (s : Store) → make len m n ≡ holds s → WellFormed s

-- so does an accepted recovery of any image, also of one that no run would write
abbrev pub RecoveredWell : Type 0
RecoveredWell = (m : ℕ) (img : List ℕ) (s : Store) → recover m img ≡ holds s → WellFormed s

-- every call with a key of 32 bits and a payload of bytes keeps it
abbrev pub KeptWell : Type 0
KeptWell = (c : Call) (s : Store) → Typed c → WellFormed s → WellFormed (call c s).store

-- so every store of a run is well formed
abbrev pub AlwaysWell : Type 0
AlwaysWell = (img : List ℕ) (s : Store) → Start img s → (calls : List Call) → AllTyped calls → WellFormed (after_calls calls s)

-- ---- laws

-- p is one of the pages ps, and frozen
pub record FrozenIn (ps : List Page) (p : Page) : Type 0 where
  pub before : List Page
  pub behind : List Page
  pub is : ps ≡ before ++ p ∷ behind
  pub frozen : p.frozen ≡ true

-- The rules are total: for cases that cannot occur they choose something. None of these choices is ever met.
pub record NoFallback (s : Store) : Type 0 where
  -- a frozen page keeps a tuple whatever is removed from it, also within a commit or abort, after the operations os: `pend_remove_at` keeps none back
  pub removal : (n : ℕ) (os : List PlaceOp) (p : Page) → FrozenIn (carry_out n os s.pages) p
      → (j : ℕ) → pend_remove_at j p.tuples ≡ edit_at pend_remove j p.tuples
  -- what a frozen page shows fits its block: `storable` leaves none of it out
  pub shown_fits : (p : Page) → FrozenIn s.pages p → storable (shown p.tuples) ≡ shown p.tuples
  -- at the thaw of a frozen page every part fits: `split_deep` does not end at its bound before
  pub parts : (p : Page) → FrozenIn s.pages p → all fits (split_all (map without_pending (live p.tuples))) ≡ true
  -- while more than the header is left, the block that a step takes is a free one of the image: `allocate` finds one
  pub block : 1 < left s → (s.used (allocate s) ≡ false) × (1 ≤ allocate s) × (allocate s < s.blocks)
  -- no open transaction's count is above N, far below 20 bits, and a write adds one to it: `one_more` meets no limit
  pub low : (tx : ℕ) → is_in tx (open_numbers s.active) ≡ true → written_by tx s.active ≤ s.capacity
  pub counted : (tx : ℕ) → is_in tx (open_numbers s.active) ≡ true → written_by tx (with_write tx s.active) ≡ suc (written_by tx s.active)

-- on every well-formed store
abbrev pub NeverFallsBack : Type 0
NeverFallsBack = (s : Store) → WellFormed s → NoFallback s

-- all rows held are in order of table, then key, then number
abbrev pub ListOrder : Type 0
ListOrder =
    (s : Store) → WellFormed s → (before between behind : List Row) (r q : Row)
    → held s.pages ≡ before ++ r ∷ (between ++ q ∷ behind) → is_before r q ≡ true

-- of the versions of a key the first is no delete mark, and each may follow the one before it: its number is higher, and it is tentative, of the
-- same transaction as all others that are. Behind the first, delete marks may stand anywhere
abbrev pub VersionOrder : Type 0
VersionOrder =
    (s : Store) → WellFormed s → (t k : ℕ) → (starts_well (versions t k s.pages) ≡ true) × (paired follows (versions t k s.pages) ≡ true)

-- begin answers F + ⌈P/336⌉ + 1, with F the pages that it has frozen, and so many stores are left
abbrev pub BeginAnswers : Type 0
BeginAnswers =
    (s : Store) → accepted (begin_call s).answer ≡ true
    → ((begin_call s).answer ≡ count (how_many is_frozen (begin_call s).store.pages + directories_for (length s.pages) + 1))
    × (left (begin_call s).store ≡ how_many is_frozen (begin_call s).store.pages + directories_for (length s.pages) + 1)

-- a step makes one store, and one less is left, which it answers
abbrev pub OneLess : Type 0
OneLess =
    (len : ℕ) (s : Store) → accepted (step_call len s).answer ≡ true
    → (length (step_call len s).writes ≡ 1)
    × (left s ≡ suc (left (step_call len s).store))
    × ((step_call len s).answer ≡ count (left (step_call len s).store))

-- k times one call
unfoldable pub times : ℕ → Call → List Call
times ℕ.zero c = []
times (ℕ.suc k) c = c ∷ times k c

-- the block stores of a list of calls, in order
unfoldable pub writes_of : List Call → Store → List Write
writes_of [] s = []
writes_of (c ∷ cs) s = (call c s).writes ++ writes_of cs (call c s).store

-- an accepted run is as many steps in turn, each with its store, as it answers: the smaller of the limit and those left
abbrev pub RunIsSteps : Type 0
RunIsSteps =
    (limit len : ℕ) (s : Store) → accepted (run_call limit len s).answer ≡ true
    → (k : ℕ) → k ≡ min limit (left s)
    → ((run_call limit len s).answer ≡ count k)
    × ((run_call limit len s).store ≡ after_calls (times k (steps len)) s)
    × ((run_call limit len s).writes ≡ writes_of (times k (steps len)) s)
    × (length (run_call limit len s).writes ≡ k)
    × (left s ≡ k + left (run_call limit len s).store)
