-- What the memory holds after each change of the pages.
use Rattle.block_forms.specs.Limits.{block_limit}
use Rattle.basics.proofs.Kit.{◌≡◌, sym, ap, ◌∙◌, subst, ⊎_elim, Bool, true, false, List, ◌∷◌, ◌++◌, ℕ, suc, ◌+◌, ◌*◌, ◌%◌, ◌≤◌, ◌<◌, ◌/◌, ◌-◌, eqb, take, drop}
use Rattle.basics.proofs.Kit.{eq-eqb, ne_eqb, arith}
use Rattle.memory_bytes.specs.Bytes.{le2, bytes2, Wrote}
use Rattle.basics.specs.Lists.{tab, insert_at, remove_at}
use Rattle.memory_bytes.proofs.Bytes.{le2_below, le2_above, le4_below, le2_wrote}
use Rattle.basics.proofs.Tabs.{lt_or_ge}
use Rattle.memory_layout.specs.Places.{blocks_at}
use Rattle.memory_layout.specs.Views.{page_count, table_end, table_at, start_at, block_word, entry_at}
use Rattle.memory_layout.specs.Flat.{flat_of, capacity_of, entries_of, entry_in, Room, Becomes, with_entries}
use Rattle.memory_layout.specs.declared.Entry.{Entry}
use Rattle.memory_layout.proofs.Frame.{same_table, same_start}
use Rattle.memory_layout.proofs.Changes.{pages_are}
use Rattle.memory_pages.specs.Columns.{Opened, Closed}
use Rattle.memory_pages.specs.Pages.{dirty, with_block, with_count, word_of, EntriesBecome, set_block}
use Rattle.memory_pages.proofs.Ranges.{ranges, entry_table, entry_count, start_step, starts_rise}
use Rattle.memory_pages.proofs.Tables.{TableIs, table_is}
use Rattle.memory_pages.proofs.Columns.{in_columns, entries_become}
use Rattle.basics.proofs.Tabs.{splice, tab_set}
use Rattle.memory_pages.proofs.Entries.{entry_is, entry_same, entry_counted, Stands, stands_behind}
use Rattle.memory_pages.proofs.Entries.{opens, closes, more_tables, more_before, more_here, more_same, more_start, more_low, more_entry, open_rises}

-- one change of the pages after another
pub then_entries : {m m1 m2 : List ℕ} {es ds : List Entry} → Becomes m m1 (with_entries (flat_of m) es) → Becomes m1 m2 (with_entries (flat_of m1) ds)
    → Becomes m m2 (with_entries (flat_of m) ds)
then_entries {m} {m1} {m2} {es} {ds} s t =
    record { size = t.size ∙ s.size; room = t.room; flat = t.flat ∙ (λ i. with_entries (s.flat i) ds) }

-- ---- a page's block

word_frozen : (b : ℕ) (z : Bool) → b < block_limit → eqb (word_of b z / block_limit % 2) 1 ≡ z
unfolding word_of
word_frozen b true h = eq-eqb ((b + block_limit) / block_limit % 2) 1 (omega arith)
word_frozen b false h = ne_eqb ((b + 0) / block_limit % 2) 1 (λ e. omega arith)

word_block : (b : ℕ) (z : Bool) → b < block_limit → word_of b z % block_limit ≡ b
unfolding word_of
word_block b true h = omega arith
word_block b false h = omega arith

word_fits : (b : ℕ) (z : Bool) → b < block_limit → word_of b z < 65536
unfolding word_of
word_fits b true h = omega arith
word_fits b false h = omega arith

module _ {m m' : List ℕ} {p b a w : ℕ} (z : Bool) (room : Room m) (h : p < page_count m) (fits : b < block_limit) (ew : w ≡ word_of b z)
    (ea : a ≡ blocks_at (capacity_of m)) (s : Wrote m m' (a + p * 2) (bytes2 w)) where
  block_end : (t : ℕ) → t < 8 → table_end m' t ≡ table_end m t
  block_end t k = le2_below s.apart (64 + t * 2) (omega arith)

  block_start : (j : ℕ) → start_at m' (capacity_of m) j ≡ start_at m (capacity_of m) j
  block_start j =
      same_start m m' (capacity_of m) j (block_end 7 (omega arith)) (le4_below s.apart 32 (omega arith)) (ranges room).pages (λ k p q. s.apart.below k (omega arith))

  block_entry : (j : ℕ) → block_word m' (capacity_of m) j ≡ block_word m (capacity_of m) j → entry_at m' (capacity_of m) j ≡ entry_at m (capacity_of m) j
  block_entry j e =
      entry_same m m' (capacity_of m) j j (same_table m m' j block_end) (omega (arith, block_start j, block_start (suc j))) e

  block_here : entry_at m' (capacity_of m) p ≡ with_block (entry_in (flat_of m) p) b z
  block_here =
      let c : ℕ = capacity_of m in
      let e : block_word m' c p ≡ word_of b z =
      ap (λ (k : ℕ). le2 m' (k + p * 2)) (sym ea) ∙ le2_wrote w (omega (arith, word_fits b z fits)) s ∙ ew in
      entry_is m' c p (same_table m m' p block_end ∙ sym (entry_table m p h))
      (omega (arith, block_start p, block_start (suc p), entry_count m p h)) e
      ∙ (λ i. record { table = (entry_in (flat_of m) p).table; frozen = word_frozen b z fits i; count = (entry_in (flat_of m) p).count; block = word_block b z fits i })

  pub block_set : EntriesBecome m m' (set_block p b z)
  unfolding entries_of
  block_set =
      let c : ℕ = capacity_of m in
      let r = ranges room in
      entries_become room (in_columns s.apart (omega arith) (omega arith))
      (pages_are m m' room block_end block_start
      (ap (tab (entry_at m' c) 0) (block_end 7 (omega arith))
      ∙ tab_set (entry_at m c) (entry_at m' c) (page_count m) p (with_block (entry_in (flat_of m) p) b z) h
      (λ j k. block_entry j (le2_below s.apart (blocks_at c + j * 2) (omega arith)))
      block_here
      (λ j k l. block_entry j (le2_above s.apart (blocks_at c + j * 2) (omega arith)))))

-- ---- a page more

module _ {m m' : List ℕ} {p t x : ℕ} (room : Room m) (s : Stands m p t) (space : page_count m < 2 * capacity_of m) (top : p ≤ page_count m)
    (ex : x ≡ start_at m (capacity_of m) p) (o : Opened m m' p t x) where
  pub page_inserted : Becomes m m' (with_entries (flat_of m) (insert_at p (dirty t 0) (flat_of m).entries))
  unfolding entries_of
  page_inserted =
      let c : ℕ = capacity_of m in
      let n : ℕ = page_count m in
      let es : List Entry = tab (entry_at m c) 0 n in
      let en : page_count m' ≡ n + 1 = o.ends_from 7 (omega (arith, s.table)) (omega arith) in
      let w = opens room s o in
      let here : start_at m' c p ≡ start_at m c p = o.start ∙ ex in
      entries_become room o.only (record {
        entries =
            splice (entry_at m c) (entry_at m' c) n (page_count m') p 1 p (omega arith) top (omega arith)
            (more_low w here)
            (λ j k. let e : p + 1 + j ≡ suc (p + j) = omega arith in ap (entry_at m' c) e ∙ more_entry w (p + j) (omega arith) (omega arith))
            ∙ ap (λ (e : Entry). take p es ++ e ∷ drop p es)
            (entry_is m' c p (more_here w) (omega (arith, o.starts_from p (omega arith), o.start)) o.word);
        few = omega arith;
        tables = more_tables w;
        begins = more_start w here 0 (omega arith) ∙ room.begins;
        rises = λ j k. open_rises room o (λ q l. omega (arith, starts_rise room q p (omega arith))) (omega arith) j;
      })

-- ---- a page in two: k rows stay

module _ {m m' : List ℕ} {p t x : ℕ} (k : ℕ) (room : Room m) (h : p < page_count m) (space : page_count m < 2 * capacity_of m) (et : t ≡ table_at m p)
    (ex : x ≡ start_at m (capacity_of m) p + k) (fits : k ≤ (entry_in (flat_of m) p).count) (o : Opened m m' (suc p) t x) where
  split_stands : Stands m (suc p) t
  split_stands = subst (λ (z : ℕ). Stands m (suc p) z) (sym et) (stands_behind room p h)

  pub page_split : Becomes m m'
      (with_entries (flat_of m) (take p (flat_of m).entries ++ with_count (entry_in (flat_of m) p) k ∷ dirty t ((entry_in (flat_of m) p).count - k) ∷ drop (suc p) (flat_of m).entries))
  unfolding entries_of
  page_split =
      let c : ℕ = capacity_of m in
      let n : ℕ = page_count m in
      let es : List Entry = tab (entry_at m c) 0 n in
      let s = split_stands in
      let w = opens room s o in
      let en : page_count m' ≡ n + 1 = o.ends_from 7 (omega (arith, s.table)) (omega arith) in
      let count = entry_count m p h in
      let step = starts_rise room p (suc p) (omega arith) in
      let first : entry_at m' c p ≡ with_count (entry_in (flat_of m) p) k =
      entry_counted m m' p h (more_before w p (omega arith)) (omega (arith, o.starts_before p (omega arith), o.start)) (o.words_before p (omega arith)) in
      let second : entry_at m' c (suc p) ≡ dirty t ((entry_in (flat_of m) p).count - k) =
      entry_is m' c (suc p) (more_here w) (omega (arith, o.starts_from (suc p) (omega arith), o.start)) o.word in
      entries_become room o.only (record {
        entries =
            splice (entry_at m c) (entry_at m' c) n (page_count m') p 2 (suc p) (omega arith) (omega arith) (omega arith)
            (λ j l. more_same w j (omega arith))
            (λ j l. let e : p + 2 + j ≡ suc (suc p + j) = omega arith in ap (entry_at m' c) e ∙ more_entry w (suc p + j) (omega arith) (omega arith))
            ∙ (λ i. take p es ++ first i ∷ second i ∷ drop (suc p) es);
        few = omega arith;
        tables = more_tables w;
        begins = o.starts_before 0 (omega arith) ∙ room.begins;
        rises = λ j l. open_rises room o (λ q b. omega (arith, starts_rise room q p (omega arith))) (omega arith) j;
      })

-- ---- a page less

module _ {m m' : List ℕ} {p t : ℕ} (room : Room m) (h : p < page_count m) (et : t ≡ table_at m p) (o : Closed m m' p t) where
  close_is : TableIs m p t
  close_is = subst (λ (z : ℕ). TableIs m p z) (sym et) (table_is room p)

  close_pages : page_count m' + 1 ≡ page_count m
  close_pages = o.ends_from 7 (omega (arith, close_is.most)) (omega arith)

  close_rises : (j : ℕ) → start_at m' (capacity_of m) j ≤ start_at m' (capacity_of m) (j + 1)
  close_rises j =
      let c : ℕ = capacity_of m in
      ⊎_elim
      (λ v. ⊎_elim
      (λ w. omega (arith, o.starts_before j v, o.starts_before (j + 1) w, start_step room j))
      (λ w. omega (arith, o.starts_before j v, o.starts_from (j + 1) w, starts_rise room j (suc (j + 1)) (omega arith)))
      (lt_or_ge (j + 1) p))
      (λ v. omega (arith, o.starts_from j v, o.starts_from (j + 1) (omega arith), starts_rise room (suc j) (suc (j + 1)) (omega arith)))
      (lt_or_ge j p)

  module _ (none : (entry_in (flat_of m) p).count ≡ 0) where
    pub page_removed : EntriesBecome m m' (remove_at p)
    unfolding entries_of
    page_removed =
        let c : ℕ = capacity_of m in
        let n : ℕ = page_count m in
        let w = closes room close_is h o in
        let en = close_pages in
        let here : start_at m c p ≡ start_at m' c p = omega (arith, o.starts_from p (omega arith), entry_count m p h, starts_rise room p (suc p) (omega arith)) in
        entries_become room o.only (record {
          entries =
              splice (entry_at m c) (entry_at m' c) n (page_count m') p 0 (p + 1) (omega arith) (omega arith) (omega arith)
              (λ j k. sym (more_low w here j k))
              (λ j k.
              let e : p + 0 + j ≡ p + j = omega arith in
              let e2 : suc (p + j) ≡ p + 1 + j = omega arith in
              ap (entry_at m' c) e ∙ sym (more_entry w (p + j) (omega arith) (omega arith)) ∙ ap (entry_at m c) e2);
          few = omega (arith, ranges room);
          tables = w.rise;
          begins = sym (more_start w here 0 (omega arith)) ∙ room.begins;
          rises = λ j k. close_rises j;
        })

-- ---- two pages in one

module _ {m m' : List ℕ} {p t : ℕ} (room : Room m) (h : suc p < page_count m) (et : t ≡ table_at m (suc p)) (o : Closed m m' (suc p) t) where
  pub pages_joined : Becomes m m'
      (with_entries (flat_of m) (take p (flat_of m).entries ++ with_count (entry_in (flat_of m) p) ((entry_in (flat_of m) p).count + (entry_in (flat_of m) (suc p)).count) ∷ drop (p + 2) (flat_of m).entries))
  unfolding entries_of
  pages_joined =
      let c : ℕ = capacity_of m in
      let n : ℕ = page_count m in
      let es : List Entry = tab (entry_at m c) 0 n in
      let w = closes room (close_is room h et o) h o in
      let en = close_pages room h et o in
      let hp : p < page_count m = omega arith in
      let count : ℕ = (entry_in (flat_of m) p).count + (entry_in (flat_of m) (suc p)).count in
      let step = starts_rise room p (suc p) (omega arith) in
      let step2 = starts_rise room (suc p) (suc (suc p)) (omega arith) in
      let both : start_at m' c (suc p) - start_at m' c p ≡ count =
      omega (arith, o.starts_before p (omega arith), o.starts_from (suc p) (omega arith), entry_count m p hp, entry_count m (suc p) h) in
      let first : entry_at m' c p ≡ with_count (entry_in (flat_of m) p) count =
      entry_counted m m' p hp (sym (more_before w p (omega arith))) both (o.words_before p (omega arith)) in
      entries_become room o.only (record {
        entries =
            splice (entry_at m c) (entry_at m' c) n (page_count m') p 1 (p + 2) (omega arith) (omega arith) (omega arith)
            (λ j k. sym (more_same w j (omega arith)))
            (λ j k.
            let e : p + 1 + j ≡ suc p + j = omega arith in
            let e2 : suc (suc p + j) ≡ p + 2 + j = omega arith in
            ap (entry_at m' c) e ∙ sym (more_entry w (suc p + j) (omega arith) (omega arith)) ∙ ap (entry_at m c) e2)
            ∙ ap (λ (e : Entry). take p es ++ e ∷ drop (p + 2) es) first;
        few = omega (arith, ranges room);
        tables = w.rise;
        begins = o.starts_before 0 (omega arith) ∙ room.begins;
        rises = λ j k. close_rises room h et o j;
      })
