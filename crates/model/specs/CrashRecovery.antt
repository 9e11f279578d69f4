-- Crash recovery (document 01: the quoted line): wherever power fails, recovery gives what the uncut run had just before the checkpoint whose header landed last.
use Rattle.std.specs.Prelude.{ℕ, ◌≤◌, ◌≡◌, Bool, false, ◌&&◌, List, [], ◌∷◌, ◌++◌, map, length, eqb}
use Rattle.block_forms.specs.Limits.{block_size}
use Rattle.basics.specs.Basics.{if'◌then◌else◌, how_many, is_in}
use Rattle.block_forms.specs.Tuple.{Tuple, AllBytes}
use Rattle.image.specs.Stages.{holds}
use Rattle.model.specs.State.{Page, Store, Write, stored_bytes}
use Rattle.model.specs.Transactions.{open_numbers}
use Rattle.model.specs.Calls.{Call, call, AllTyped, is_begin, accepted, after_calls, had_written}
use Rattle.model.specs.Recover.{memory_for, put_block, make, made_image, recover}

-- ---- where a run starts

-- an image and the store of a freshly made store, or of an accepted recovery
pub data Start : List ℕ → Store → Type 0 where
  fresh : (img : List ℕ) (m n : ℕ) {s : Store} → make (length img) m n ≡ holds s → Start (made_image img n) s
  recovered : {img : List ℕ} (m : ℕ) {s : Store} → recover m img ≡ holds s → Start img s

-- ---- the block stores of a list of calls

-- a block store, with the calls made before the begin of its checkpoint
pub record Logged : Type 0 where
  pub write : Write
  pub before : List Call

-- a store of a checkpoint that began after the calls cs
unfoldable pub tag : List Call → Write → Logged
tag cs w = record { write = w; before = cs }

-- past: the calls made so far; base: those before the last accepted begin; s: the store now
unfoldable pub log : List Call → List Call → Store → List Call → List Logged
log past base s [] = []
log past base s (c ∷ cs) =
    let o = call c s in
    let base' = if' is_begin c && accepted o.answer then past else base in
    map (tag base') o.writes ++ log (past ++ c ∷ []) base' o.store cs

-- ---- the cut

-- a header's store is one to block 0
unfoldable pub is_header : Logged → Bool
is_header w = eqb w.write.at 0

-- the calls before the begin of the checkpoint whose header landed last: those of w if it stores a header, else base
unfoldable pub landed : Logged → List Call → List Call
landed w base = if' is_header w then w.before else base

-- the image with the block that w stores
unfoldable pub image_with : List ℕ → Logged → List ℕ
image_with img w = put_block img w.write.at (stored_bytes w.write)

-- `Cut img base ws img' base'`: power fails somewhere in the stores ws, which start from the image img, whose last landed header's
-- checkpoint began after the calls base. It leaves img', and the calls base' for its last landed header.
pub data Cut : List ℕ → List Call → List Logged → List ℕ → List Call → Type 0 where
  -- the next store, if there is one, is not begun; or it is a header's, is cut and leaves the old one
  stop : {img : List ℕ} {base : List Call} {ws : List Logged} → Cut img base ws img base
  -- the next store is cut and leaves any 512 bytes, and it is no header's
  torn : {img : List ℕ} {base : List Call} {w : Logged} {ws : List Logged} → is_header w ≡ false → (xs : List ℕ) → length xs ≡ block_size → AllBytes xs
      → Cut img base (w ∷ ws) (put_block img w.write.at xs) base
  -- the next store is whole; or it is a header's, is cut and leaves the new one (and no later store is begun: `stop` follows)
  whole : {img : List ℕ} {base : List Call} {w : Logged} {ws : List Logged} {img' : List ℕ} {base' : List Call}
      → Cut (image_with img w) (landed w base) ws img' base' → Cut img base (w ∷ ws) img' base'

-- ---- the claim

-- a page as it is compared: its table, and its tuples in order with all their fields
unfoldable pub content : Page → ℕ × List Tuple
content p = (p.table, map (λ h. h.tuple) p.tuples)

-- r is what the run of the calls from s had: the same pages in order, next number, and open transactions that had written, each listed once
pub record Same (r s : Store) (calls : List Call) : Type 0 where
  pub pages : map content r.pages ≡ map content (after_calls calls s).pages
  pub next : r.next ≡ (after_calls calls s).next
  pub writers : (tx : ℕ) → how_many (eqb tx) (open_numbers r.active) ≡ (if' is_in tx (had_written calls s (open_numbers s.active)) then 1 else 0)

-- From any start, for every list of calls and every cut of its stores, recovery with memory enough is accepted and gives what the
-- run of the calls before the begin of the last landed checkpoint had.
abbrev pub CrashRecovery : Type 0
CrashRecovery =
    (img : List ℕ) → AllBytes img → (s : Store) → Start img s → (calls : List Call) → AllTyped calls
    → (img' : List ℕ) (base : List Call) → Cut img [] (log [] [] s calls) img' base
    → (m : ℕ) → memory_for s.capacity ≤ m
    → (r : Store) × (recover m img' ≡ holds r) × Same r s base
