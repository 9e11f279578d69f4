-- Make and recover.
use Rattle.std.specs.Prelude.{ℕ, ◌+◌, ◌*◌, ◌/◌, false, not, ◌||◌, List, [], ◌∷◌, ◌++◌, map, length, take, drop, ltb}
use Rattle.block_forms.specs.Limits.{block_size}
use Rattle.basics.specs.Basics.{if'◌then◌else◌, how_many, is_in}
use Rattle.block_forms.specs.Block.{header, encode_block}
use Rattle.block_forms.specs.declared.Header.{Header}
use Rattle.image_rows.specs.Rows.{Row, is_own, transactions}
use Rattle.image.specs.View.{View, view}
use Rattle.image.specs.Stages.{Stage, refuses, holds, capacity_limit, whole_blocks, directory_blocks, StoredPage, rows_of_pages}
use Rattle.image.specs.Whole.{header_stage, pages_stage}
use Rattle.model.specs.State.{Page, Active, idle, Store, Write, stored_bytes}
use Rattle.model.specs.Rules.{without_pending}
use Rattle.model.specs.Checkpoint.{header_for}

-- the memory that a store of capacity N needs
abbrev pub memory_for : ℕ → ℕ
memory_for n = 128 * n + 1024

-- block b of an image exchanged
unfoldable pub put_block : List ℕ → ℕ → List ℕ → List ℕ
put_block img b xs = take (block_size * b) img ++ (xs ++ drop (block_size * b + block_size) img)

-- an image after these block stores, in turn
unfoldable pub image_after : List Write → List ℕ → List ℕ
image_after [] img = img
image_after (w ∷ ws) img = image_after ws (put_block img w.at (stored_bytes w))

-- ---- make

-- level 0, no page, nobody open, next number 0
unfoldable pub fresh_store : ℕ → ℕ → Store
fresh_store b n =
    record { blocks = b; capacity = n; level = 0; next = 0; pages = []; active = []; used = λ c. false; taken = 0; checkpoint = idle }

-- 1 image not 2 to 4,096 whole blocks; 2 N not 1 to 1,024; 3 memory under 128·N + 1,024 bytes
unfoldable pub make : ℕ → ℕ → ℕ → Stage Store
make len m n =
    if' not (whole_blocks len) then refuses 1
    else if' ltb n 1 || ltb capacity_limit n then refuses 2
    else if' ltb m (memory_for n) then refuses 3
    else holds (fresh_store (len / block_size) n)

-- make writes block 0 only
unfoldable pub made_image : List ℕ → ℕ → List ℕ
made_image img n = put_block img 0 (encode_block (header (header_for (fresh_store (length img / block_size) n) 0 0 0 [])))

-- ---- recover

-- recovered pages are clean
unfoldable pub loaded : StoredPage → Page
loaded p = record { table = p.table; block = p.block; frozen = false; tuples = map without_pending p.tuples }

-- an open transaction of the rows rs
unfoldable pub reopened : List Row → ℕ → Active
reopened rs tx = record { transaction = tx; written = how_many (is_own tx) rs }

-- what the header, directory and page blocks hold; the transactions of the tentative tuples are open
unfoldable pub recovered_store : Header → List StoredPage → Store
recovered_store h ps =
    record {
      blocks = h.blocks;
      capacity = h.capacity;
      level = h.level;
      next = h.next;
      pages = map loaded ps;
      active = map (reopened (rows_of_pages ps)) (transactions (rows_of_pages ps));
      used = λ b. is_in b (map (λ p. p.block) ps ++ directory_blocks h);
      taken = 0;
      checkpoint = idle;
    }

-- the store of the pages that passed
unfoldable pub recover_pages : Header → Stage (List StoredPage) → Stage Store
recover_pages h (refuses n) = refuses n
recover_pages h (holds ps) = holds (recovered_store h ps)

-- 3 memory too short, between the header's test and the directory's
unfoldable pub recover_below : ℕ → View → Stage Header → Stage Store
recover_below m v (refuses n) = refuses n
recover_below m v (holds h) = if' ltb m (memory_for h.capacity) then refuses 3 else recover_pages h (pages_stage v h)

-- 1; 22 header; 3; 23 directory; 24 page: with a memory of m bytes
unfoldable pub recover : ℕ → List ℕ → Stage Store
recover m img = recover_below m (view img) (header_stage img)
