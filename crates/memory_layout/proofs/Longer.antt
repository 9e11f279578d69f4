-- A memory that holds a store, with any bytes behind it, holds the same store.
use Rattle.basics.proofs.Kit.{◌≡◌, sym, ap, ◌∙◌, true, some, List, ◌++◌, ℕ, ◌+◌, ◌*◌, ◌%◌, ◌≤◌, length, length-append, List·getD-append, arith}
use Rattle.basics.specs.Basics.{all}
use Rattle.basics.specs.Lists.{tab}
use Rattle.basics.proofs.Tabs.{tab_same}
use Rattle.block_forms.specs.Limits.{block_limit}
use Rattle.memory_bytes.specs.Bytes.{le4}
use Rattle.memory_layout.specs.Places.{directories_at, head_size, named_at, opens_at, starts_at, tables_at, used_at, used_size}
use Rattle.memory_layout.specs.Views.{head_of, counts_of, row_count, page_count, row_at, start_at, entry_at, named_block, named_count}
use Rattle.memory_layout.specs.Flat.{Flat, flat_of, capacity_of, rows_of, entries_of, named_of, Room, InRange}
use Rattle.memory_layout.specs.Store.{holds_store, store_of, store_in, has_rows}
use Rattle.memory_layout.proofs.Frame.{Same, same2, same4, same_head, same_opens, same_directories, same_used}
use Rattle.memory_layout.proofs.Changes.{PagesAre, kept_rows, kept_pages}
use Rattle.memory_layout.proofs.Laws.{known, holds_room, holds_counted, held_again, in_some}
use Rattle.image_rows.specs.Rows.{open_limit}

module _ (m xs : List ℕ) (room : Room m) where
  -- the bytes of m are the same
  front : (a n : ℕ) → a + n ≤ length m → Same m (m ++ xs) a n
  front a n h b p q = List·getD-append m xs 0 b (omega arith)

  size : length (m ++ xs) ≡ length m + length xs
  size = length-append m xs

  named_same : (c : ℕ) → named_count m ≤ c → named_at c + c * 2 ≤ length m → 44 ≤ length m → tab (named_block (m ++ xs) c) 0 (named_count (m ++ xs)) ≡ tab (named_block m c) 0 (named_count m)
  unfolding named_block
  named_same c few long least =
      ap (tab (named_block (m ++ xs) c) 0) (same4 m (m ++ xs) 40 (front 40 4 (omega arith)))
      ∙ tab_same (named_block (m ++ xs) c) (named_block m c) 0 (named_count m)
      (λ k p q. ap (λ (w : ℕ). w % block_limit) (same2 m (m ++ xs) (named_at c + k * 2) (front (named_at c + k * 2) 2 (omega arith))))

  pages : PagesAre m (m ++ xs) (entries_of m)
  pages =
      let k = known m room in
      kept_pages m (m ++ xs) room (front 32 4 (omega (arith, k.long))) (front tables_at 16 (omega (arith, k.long)))
      (front (starts_at (capacity_of m)) (capacity_of m * 8) (omega (arith, k.long)))

  capacity : capacity_of (m ++ xs) ≡ capacity_of m
  capacity = same4 m (m ++ xs) 4 (front 4 4 (omega (arith, (known m room).long)))

  same_flat : flat_of (m ++ xs) ≡ flat_of m
  unfolding rows_of entries_of named_of
  same_flat =
      let k = known m room in
      let c = capacity in
      let M = m ++ xs in
      let eh = same_head m M (front 4 28 (omega (arith, k.long))) in
      let eo = same_opens m M (front 36 4 (omega (arith, k.long))) (front opens_at (open_limit * 4) (omega (arith, k.long))) k.opens in
      let r = kept_rows m M room (front 32 4 (omega (arith, k.long))) (front head_size (capacity_of m * 79) (omega (arith, k.long))) in
      let er : rows_of (m ++ xs) ≡ rows_of m = ap (λ (z : ℕ). tab (row_at M z) 0 (row_count M)) c ∙ r.1 in
      let ee : entries_of (m ++ xs) ≡ entries_of m = ap (λ (z : ℕ). tab (entry_at M z) 0 (page_count M)) c ∙ pages.entries in
      let en : named_of (m ++ xs) ≡ named_of m =
      ap (λ (z : ℕ). tab (named_block M z) 0 (named_count M)) c ∙ named_same (capacity_of m) k.named (omega (arith, k.long)) (omega (arith, k.long)) in
      let ed = same_directories m M (front 44 4 (omega (arith, k.long))) (front directories_at 16 (omega (arith, k.long))) k.directories in
      let eu = same_used m M (front used_at used_size (omega (arith, k.long))) in
      λ i. record { head = eh i; opens = eo i; rows = er i; entries = ee i; named = en i; directories = ed i; used = eu i }

  same_room : Room (m ++ xs)
  unfolding head_of counts_of
  same_room =
      let k = known m room in
      let g : InRange (length m) (head_of m) (counts_of m) = room.range in
      let M = m ++ xs in
      let c = capacity in
      let l = k.long in
      let p = pages in
      let word : (a : ℕ) → a ≤ 1000 → le4 (m ++ xs) a ≡ le4 m a = λ a h. same4 m M a (front a 4 (omega (arith, l))) in
      record {
        sign = word 0 (omega arith) ∙ room.sign;
        range = record {
          least = omega (arith, g.least, c);
          most = omega (arith, g.most, c);
          long = omega (arith, g.long, c, size);
          few = omega (arith, g.few, word 8 (omega arith));
          many = omega (arith, g.many, word 8 (omega arith));
          taken = omega (arith, g.taken, word 8 (omega arith), word 28 (omega arith));
          rows = omega (arith, g.rows, c, word 32 (omega arith));
          pages = omega (arith, p.few, c);
          opens = omega (arith, g.opens, word 36 (omega arith));
          named = omega (arith, g.named, c, word 40 (omega arith));
          directories = omega (arith, g.directories, word 44 (omega arith));
        };
        tables = p.tables;
        begins = ap (λ (z : ℕ). start_at M z 0) c ∙ p.begins;
        rises = λ q h. omega (arith, p.rises q h, ap (λ (z : ℕ). start_at M z q) c, ap (λ (z : ℕ). start_at M z (q + 1)) c);
      }

-- any bytes behind
pub longer_holds : (m xs : List ℕ) → holds_store m ≡ true → store_in (m ++ xs) ≡ store_in m
longer_holds m xs h =
    let room = holds_room m h in
    let e = same_flat m xs room in
    in_some (m ++ xs) (held_again (m ++ xs) (same_room m xs room) (ap (λ (f : Flat). all has_rows f.entries) e ∙ holds_counted m h))
    ∙ ap (λ (f : Flat). some (store_of f)) e ∙ sym (in_some m h)
