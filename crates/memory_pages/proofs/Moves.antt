-- A row put in or taken out: the pages behind its page start one row later or earlier.
use Rattle.basics.proofs.Kit.{◌≡◌, sym, ap, ◌∙◌, ⊎_elim, List, ℕ, suc, ◌+◌, ◌*◌, ◌%◌, ◌≤◌, ◌<◌, ◌-◌, length, set}
use Rattle.basics.proofs.Kit.{arith}
use Rattle.memory_bytes.specs.Bytes.{le2, Added}
use Rattle.basics.specs.Lists.{tab}
use Rattle.memory_bytes.proofs.Bytes.{le2_cong, le4_cong, le2_below, le2_above, le4_below}
use Rattle.basics.proofs.Tabs.{lt_or_ge}
use Rattle.model.specs.State.{Held}
use Rattle.memory_layout.specs.Places.{starts_at, blocks_at, head_size}
use Rattle.memory_layout.specs.Views.{row_count, page_count, table_end, start_at, block_word, row_at, entry_at}
use Rattle.memory_layout.specs.Flat.{flat_of, capacity_of, rows_of, entries_of, entry_in, Room, Becomes, with_rows, with_entries}
use Rattle.memory_layout.proofs.Frame.{same_table, same_rows}
use Rattle.memory_rows.specs.Rows.{RowsOnly}
use Rattle.memory_pages.specs.Pages.{with_count, more_rows, fewer_rows}
use Rattle.memory_pages.proofs.Ranges.{ranges, entry_count, start_stored, start_behind, start_step, starts_rise, start_most}
use Rattle.memory_layout.proofs.Changes.{same_below, becomes_rest}
use Rattle.basics.proofs.Tabs.{tab_set}
use Rattle.memory_pages.proofs.Entries.{entry_same, entry_counted}

-- ---- the pages' part

-- from m to m1 the rows are changed, from m1 to m2 the starts of the pages behind page p
module _ {m m1 m2 : List ℕ} {hs : List Held} {p s n d q : ℕ} (room : Room m) (h : p < page_count m) (r : RowsOnly m m1 hs) (es : s ≡ starts_at (capacity_of m))
    (en : n ≡ page_count m) (a : Added m1 m2 s q n d) (eq : q ≡ p + 1) where
  row_end : (t : ℕ) → t < 8 → table_end m2 t ≡ table_end m t
  row_end t k =
      le2_below a.apart (64 + t * 2) (omega arith) ∙ le2_cong m m1 (64 + t * 2) (64 + t * 2) (λ j b. r.head (64 + t * 2 + j) (omega arith) (omega arith))

  row_count_lem : row_count m2 ≡ length hs
  row_count_lem = le4_below a.apart 32 (omega arith) ∙ r.count

  -- a number of the columns of the pages, before the last step
  row_column : (k : ℕ) → starts_at (capacity_of m) ≤ k → le2 m1 k ≡ le2 m k
  row_column k b = le2_cong m m1 k k (λ j z. r.behind (k + j) (omega arith))

  -- the pages up to page p
  row_low : (j : ℕ) → j ≤ p → start_at m2 (capacity_of m) j ≡ start_at m (capacity_of m) j
  row_low j k =
      let c : ℕ = capacity_of m in
      start_stored m2 c j (omega (arith, row_end 7 (omega arith)))
      ∙ le2_below a.apart (starts_at c + j * 2) (omega arith)
      ∙ row_column (starts_at c + j * 2) (omega arith)
      ∙ sym (start_stored m c j (omega arith))

  -- those behind it
  row_high : (j : ℕ) → p < j → j < page_count m → start_at m2 (capacity_of m) j ≡ (start_at m (capacity_of m) j + d) % 65536
  row_high j k b =
      let c : ℕ = capacity_of m in
      start_stored m2 c j (omega (arith, row_end 7 (omega arith)))
      ∙ ap (λ (z : ℕ). le2 m2 (z + j * 2)) (sym es)
      ∙ a.each j (omega arith) (omega arith)
      ∙ ap (λ (z : ℕ). (le2 m1 (z + j * 2) + d) % 65536) es
      ∙ ap (λ (z : ℕ). (z + d) % 65536) (row_column (starts_at c + j * 2) (omega arith) ∙ sym (start_stored m c j b))

  row_word : (j : ℕ) → block_word m2 (capacity_of m) j ≡ block_word m (capacity_of m) j
  row_word j =
      let c : ℕ = capacity_of m in
      le2_above a.apart (blocks_at c + j * 2) (omega (arith, ranges room)) ∙ row_column (blocks_at c + j * 2) (omega arith)

  -- each of them by y more and x less, as there are rows; page p has k rows
  module _ (x y k : ℕ) (stored : (j : ℕ) → p < j → j < page_count m → start_at m2 (capacity_of m) j + x ≡ start_at m (capacity_of m) j + y)
      (el : length hs + x ≡ row_count m + y) (ek : k + x ≡ (entry_in (flat_of m) p).count + y) (few : length hs ≤ capacity_of m) where
    high : (j : ℕ) → p < j → start_at m2 (capacity_of m) j + x ≡ start_at m (capacity_of m) j + y
    high j l = ⊎_elim (stored j l)
        (λ b. omega (arith, start_behind m (capacity_of m) j b, start_behind m2 (capacity_of m) j (omega (arith, row_end 7 (omega arith))), row_count_lem))
        (lt_or_ge j (page_count m))

    row_entry : (j : ℕ) → start_at m2 (capacity_of m) (suc j) - start_at m2 (capacity_of m) j ≡ start_at m (capacity_of m) (suc j) - start_at m (capacity_of m) j
        → entry_at m2 (capacity_of m) j ≡ entry_at m (capacity_of m) j
    row_entry j e = entry_same m m2 (capacity_of m) j j (same_table m m2 j row_end) e (row_word j)

    row_here : entry_at m2 (capacity_of m) p ≡ with_count (entry_in (flat_of m) p) k
    row_here =
        let c : ℕ = capacity_of m in
        let step = starts_rise room p (suc p) (omega arith) in
        let e : start_at m2 c (suc p) - start_at m2 c p ≡ k =
        omega (arith, row_low p (omega arith), high (suc p) (omega arith), entry_count m p h) in
        entry_counted m m2 p h (same_table m m2 p row_end) e (row_word p)

    row_rises : (j : ℕ) → start_at m2 (capacity_of m) j ≤ start_at m2 (capacity_of m) (j + 1)
    row_rises j =
        let c : ℕ = capacity_of m in
        ⊎_elim
        (λ v. omega (arith, row_low j (omega arith), row_low (j + 1) (omega arith), start_step room j))
        (λ v. ⊎_elim
        (λ w. omega (arith, high j w, high (j + 1) (omega arith), start_step room j))
        (λ w.
        let e : j ≡ p = omega arith in
        let e2 : j + 1 ≡ suc p = omega arith in
        let step = starts_rise room p (suc p) (omega arith) in
        omega (arith, row_low j w, ap (start_at m c) e, high (j + 1) (omega arith), ap (start_at m c) e2, entry_count m p h))
        (lt_or_ge p j))
        (lt_or_ge j p)

    pub rows_changed : Becomes m m2 (with_entries (with_rows (flat_of m) hs) (set (flat_of m).entries p (with_count (entry_in (flat_of m) p) k)))
    unfolding entries_of rows_of
    rows_changed =
        let c : ℕ = capacity_of m in
        let g = ranges room in
        let e7 : page_count m2 ≡ page_count m = row_end 7 (omega arith) in
        let c1 : capacity_of m1 ≡ c = le4_cong m m1 4 4 (λ j b. r.before (4 + j) (omega arith)) in
        becomes_rest m m2 room
        (record {
          size = a.apart.size ∙ r.size;
          head = λ b u v. a.apart.below b (omega arith) ∙ r.before b (omega arith);
          counts = λ b u v. a.apart.below b (omega arith) ∙ r.head b (omega arith) (omega arith);
          lists = λ b u v. a.apart.below b (omega arith) ∙ r.head b (omega arith) (omega arith);
          named = λ b u. a.apart.above b (omega arith) ∙ r.behind b (omega arith);
        }) (
          omega (arith, row_count_lem),
          ap (tab (row_at m2 c) 0) (row_count_lem ∙ sym r.count)
              ∙ same_rows m1 m2 c (row_count m1) g.least (omega (arith, r.count)) (same_below head_size (c * 79) a.apart (omega arith))
              ∙ ap (λ (z : ℕ). tab (row_at m1 z) 0 (row_count m1)) (sym c1)
              ∙ r.rows,
        )
        (record {
          entries =
              ap (tab (entry_at m2 c) 0) e7
              ∙ tab_set (entry_at m c) (entry_at m2 c) (page_count m) p (with_count (entry_in (flat_of m) p) k) h
              (λ j z. row_entry j (omega (arith, row_low j (omega arith), row_low (suc j) (omega arith))))
              row_here
              (λ j y z. row_entry j (omega (arith, high j y, high (suc j) (omega arith))));
          few = omega (arith, g.pages);
          tables = λ t z. omega (arith, room.tables t z, row_end t (omega arith), row_end (t + 1) (omega arith));
          begins = row_low 0 (omega arith) ∙ room.begins;
          rises = λ j z. row_rises j;
        })

-- one row more
pub row_inserted : {m m1 m2 : List ℕ} {hs : List Held} {p s n q : ℕ} → Room m → p < page_count m → RowsOnly m m1 hs → s ≡ starts_at (capacity_of m) → n ≡ page_count m
    → Added m1 m2 s q n 1 → q ≡ p + 1 → length hs ≡ row_count m + 1 → row_count m < capacity_of m
    → Becomes m m2 (with_entries (with_rows (flat_of m) hs) (more_rows p (flat_of m).entries))
row_inserted {m} {m1} {m2} {hs} {p} {s} {n} {q} room h r es en a eq el space =
    rows_changed room h r es en a eq 0 1 ((entry_in (flat_of m) p).count + 1)
    (λ j k b. omega (arith, row_high room h r es en a eq j k b, start_most room j, ranges room)) (omega arith) (omega arith) (omega arith)

-- one row less
pub row_removed : {m m1 m2 : List ℕ} {hs : List Held} {p s n q : ℕ} → Room m → p < page_count m → RowsOnly m m1 hs → s ≡ starts_at (capacity_of m) → n ≡ page_count m
    → Added m1 m2 s q n 65535 → q ≡ p + 1 → length hs + 1 ≡ row_count m → 1 ≤ (entry_in (flat_of m) p).count
    → Becomes m m2 (with_entries (with_rows (flat_of m) hs) (fewer_rows p (flat_of m).entries))
row_removed {m} {m1} {m2} {hs} {p} {s} {n} {q} room h r es en a eq el some =
    rows_changed room h r es en a eq 1 0 ((entry_in (flat_of m) p).count - 1)
    (λ j k b. omega (arith, row_high room h r es en a eq j k b, starts_rise room (suc p) j k, entry_count m p h, start_most room j, ranges room))
    (omega arith) (omega arith) (omega (arith, ranges room))
