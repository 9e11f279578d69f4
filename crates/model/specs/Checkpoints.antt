-- A checkpoint's blocks: read again when its header has landed, they give the pages as they were just before its begin.
use Rattle.std.specs.Prelude.{ℕ, suc, ◌≡◌, Bool, true, false, List, [], ◌∷◌, ◌++◌, map, length}
use Rattle.block_forms.specs.Tuple.{Tuple, AllBytes}
use Rattle.image.specs.Stages.{holds, StoredPage}
use Rattle.image.specs.Whole.{Contents, read_image}
use Rattle.model.specs.State.{Page, Store}
use Rattle.model.specs.Rules.{is_dirty}
use Rattle.model.specs.Calls.{Call, AllTyped, after_calls}
use Rattle.model.specs.CrashRecovery.{Start, Logged, log, is_header, image_with, content}

-- the image after block stores, each of them whole
unfoldable pub after_stores : List ℕ → List Logged → List ℕ
after_stores img [] = img
after_stores img (w ∷ ws) = after_stores (image_with img w) ws

-- a page as it is compared: its table, and its tuples in order with all their fields
unfoldable pub content_of : StoredPage → ℕ × List Tuple
content_of p = (p.table, p.tuples)

-- where pages are read: one of ps that was clean in the block that it had, a dirty one in a block that was free
abbrev pub Placed : (ℕ → Bool) → List StoredPage → List Page → Type 0
Placed used [] [] = Unit {0}
Placed used [] (p ∷ ps) = ⊥
Placed used (q ∷ qs) [] = ⊥
Placed used (q ∷ qs) (p ∷ ps) =
    (is_dirty p ≡ false → q.block ≡ p.block) × (is_dirty p ≡ true → used q.block ≡ false) × Placed used qs ps

-- what an image holds is the store b: its pages, and a header of its block count, N, next number and page count, one level higher
pub record Checkpointed (img : List ℕ) (b : Store) : Type 0 where
  pub found : Contents
  pub read : read_image img ≡ holds found
  pub pages : map content_of found.pages ≡ map content b.pages
  pub places : Placed b.used found.pages b.pages
  pub count : found.header.pages ≡ length b.pages
  pub blocks : found.header.blocks ≡ b.blocks
  pub capacity : found.header.capacity ≡ b.capacity
  pub next : found.header.next ≡ b.next
  pub level : found.header.level ≡ suc b.level

-- From any start, for every list of calls and every first part of its stores that ends in a header's: those stores, which the
-- steps of this checkpoint and of those before it made, give the store before the begin of this checkpoint, whatever was called since.
abbrev pub Checkpoints : Type 0
Checkpoints =
    (img : List ℕ) → AllBytes img → (s : Store) → Start img s → (calls : List Call) → AllTyped calls
    → (ws : List Logged) (w : Logged) (later : List Logged) → log [] [] s calls ≡ ws ++ w ∷ later → is_header w ≡ true
    → Checkpointed (after_stores img (ws ++ w ∷ [])) (after_calls w.before s)
