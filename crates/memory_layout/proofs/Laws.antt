-- What the flat lists of any memory with room are known to have: how long each is, where each page starts; and from the flat lists to
-- the store that the memory holds.
use Rattle.image_rows.specs.Rows.{open_limit}
use Rattle.model.specs.Recover.{memory_for}
use Rattle.image.specs.Stages.{capacity_limit}
use Rattle.basics.proofs.Kit.{◌≡◌, refl, sym, ap, ◌∙◌, true, false, some, none, List, ℕ, suc, ◌+◌, ◌*◌, ◌≤◌, ◌<◌, zero, ◌-◌, add-one, add-zero, zero-add, eqb, length, take, le-leb, leb-true}
use Rattle.basics.proofs.Kit.{lt-ltb, eqb-true, eq-eqb, ltb-true, arith}
use Rattle.block_forms.specs.Limits.{block_limit}
use Rattle.basics.specs.Basics.{if'◌then◌else◌, all, from, sum}
use Rattle.basics.proofs.Facts.{by, never, and_true}
use Rattle.model.specs.State.{Store}
use Rattle.memory_bytes.specs.Bytes.{le4}
use Rattle.basics.specs.Lists.{tab}
use Rattle.basics.proofs.Tabs.{length_tab, take_tab}
use Rattle.memory_layout.specs.Places.{signature, head_size}
use Rattle.memory_layout.specs.Views.{head_of, counts_of, row_count, open_count, named_count, directory_count, page_count, open_at, directory_at, row_at, start_at, entry_at, named_block}
use Rattle.memory_layout.specs.declared.Counts.{Counts}
use Rattle.memory_layout.specs.Flat.{Flat, flat_of, capacity_of, Capacity, opens_of, rows_of, entries_of, named_of, directories_of, Room, InRange, Becomes}
use Rattle.memory_layout.specs.Store.{total, start_of, tables_rise, starts_rise, holds_store, has_rows, pages_in, store_of, store_in}
use Rattle.memory_layout.proofs.Frame.{start_behind}
use Rattle.memory_layout.proofs.Refusal.{range_in, in_range_lem, end_rises, start_rises}
use Rattle.basics.proofs.Elements.{every_all, every_cons, every_one}
use Rattle.basics.proofs.Searches.{all_tab, tab_all}
use Rattle.basics.proofs.Froms.{all_from, from_all}

-- ---- how long each list is

module _ (m : List ℕ) where
  pub opens_length : length (flat_of m).opens ≡ open_count m
  unfolding opens_of
  opens_length = length_tab (open_at m) 0 (open_count m)

  pub rows_length : length (flat_of m).rows ≡ row_count m
  unfolding rows_of
  rows_length = length_tab (row_at m (capacity_of m)) 0 (row_count m)

  pub entries_length : length (flat_of m).entries ≡ page_count m
  unfolding entries_of
  entries_length = length_tab (entry_at m (capacity_of m)) 0 (page_count m)

  pub named_length : length (flat_of m).named ≡ named_count m
  unfolding named_of
  named_length = length_tab (named_block m (capacity_of m)) 0 (named_count m)

  pub directories_length : length (flat_of m).directories ≡ directory_count m
  unfolding directories_of
  directories_length = length_tab (directory_at m) 0 (directory_count m)

-- the counts that were read
module _ (m : List ℕ) {c : Counts} (e : c ≡ counts_of m) where
  pub rows_read : c.rows ≡ length (flat_of m).rows
  unfolding counts_of
  rows_read = ap (λ (x : Counts). x.rows) e ∙ sym (rows_length m)

  pub pages_read : c.pages ≡ length (flat_of m).entries
  unfolding counts_of
  pages_read = ap (λ (x : Counts). x.pages) e ∙ sym (entries_length m)

  pub opens_read : c.opens ≡ length (flat_of m).opens
  unfolding counts_of
  opens_read = ap (λ (x : Counts). x.opens) e ∙ sym (opens_length m)

  pub named_read : c.named ≡ length (flat_of m).named
  unfolding counts_of
  named_read = ap (λ (x : Counts). x.named) e ∙ sym (named_length m)

  pub directories_read : c.directories ≡ length (flat_of m).directories
  unfolding counts_of
  directories_read = ap (λ (x : Counts). x.directories) e ∙ sym (directories_length m)

-- the pages of the store
pub store_pages : (f : Flat) → (store_of f).pages ≡ pages_in f
unfolding store_of
store_pages f = refl

-- ---- where each page starts

-- the rows of k pages from page i on lie between the starts of the first and the one behind the last
pub total_run : (m : List ℕ) (c i k : ℕ) → ((p : ℕ) → p < i + k → start_at m c p ≤ start_at m c (p + 1))
    → start_at m c i + total (tab (entry_at m c) i k) ≡ start_at m c (i + k)
unfolding total sum entry_at
total_run m c i zero h = rw (add-zero, add-zero)
total_run m c i (suc k) h =
    let e : suc i + k ≡ i + suc k = omega arith in
    let r = total_run m c (suc i) k (λ p b. h p (omega arith)) in
    let s : start_at m c i ≤ start_at m c (suc i) = rw add-one at (h i (omega arith)) in
    omega (arith, ap (start_at m c) e)

-- behind the last page
pub start_last : (m : List ℕ) (c : ℕ) → start_at m c (page_count m) ≡ row_count m
start_last m c = start_behind m c (page_count m) (omega arith)

module _ (m : List ℕ) (room : Room m) where
  -- the start that the memory says of page p is what the counts of the pages before it make
  pub starts : (p : ℕ) → p ≤ page_count m → start_at m (capacity_of m) p ≡ start_of (flat_of m) p
  unfolding entries_of
  starts p h =
      let c : ℕ = capacity_of m in
      let r : start_at m c 0 + total (tab (entry_at m c) 0 p) ≡ start_at m c (0 + p) = total_run m c 0 p (λ q b. room.rises q (omega arith)) in
      let a : total (take p (tab (entry_at m c) 0 (page_count m))) ≡ total (tab (entry_at m c) 0 p) = ap total (take_tab (entry_at m c) 0 p (page_count m) h) in
      omega (arith, room.begins, ap (start_at m c) (zero-add p))

  -- the pages have all rows
  pub filled : total (flat_of m).entries ≡ length (flat_of m).rows
  unfolding entries_of
  filled =
      let c : ℕ = capacity_of m in
      let r : start_at m c 0 + total (tab (entry_at m c) 0 (page_count m)) ≡ start_at m c (0 + page_count m) =
      total_run m c 0 (page_count m) (λ q b. room.rises q (omega arith)) in
      omega (arith, room.begins, ap (start_at m c) (zero-add (page_count m)), start_last m c, rows_length m)

-- ---- what room says of the numbers, for omega

pub record Known (m : List ℕ) : Type 0 where
  pub least : 1 ≤ capacity_of m
  pub most : capacity_of m ≤ capacity_limit
  pub long : memory_for (capacity_of m) ≤ length m
  pub rows : row_count m ≤ capacity_of m
  pub pages : page_count m ≤ 2 * capacity_of m
  pub opens : open_count m ≤ open_limit
  pub named : named_count m ≤ capacity_of m
  pub directories : directory_count m ≤ 4
  pub rows_are : length (rows_of m) ≡ row_count m
  pub entries_are : length (entries_of m) ≡ page_count m
  pub opens_are : length (opens_of m) ≡ open_count m
  pub named_are : length (named_of m) ≡ named_count m
  pub directories_are : length (directories_of m) ≡ directory_count m

pub known : (m : List ℕ) → Room m → Known m
unfolding head_of counts_of
known m r =
    let g : InRange (length m) (head_of m) (counts_of m) = r.range in
    record {
      least = g.least;
      most = g.most;
      long = omega (arith, g.long);
      rows = g.rows;
      pages = g.pages;
      opens = g.opens;
      named = g.named;
      directories = g.directories;
      rows_are = rows_length m;
      entries_are = entries_length m;
      opens_are = opens_length m;
      named_are = named_length m;
      directories_are = directories_length m;
    }

-- the capacity of a memory with room
pub sized : (m : List ℕ) → Room m → Capacity m (capacity_of m)
sized m r =
    let k = known m r in
    record { is = refl; least = k.least; most = k.most; long = omega (arith, k.long); rows = omega (arith, k.rows, k.rows_are) }

-- the same, of the lists
pub record Sizes (m : List ℕ) : Type 0 where
  pub long : head_size ≤ length m
  pub few : 2 ≤ (flat_of m).head.blocks
  pub many : (flat_of m).head.blocks ≤ block_limit
  pub taken : (flat_of m).head.taken < (flat_of m).head.blocks
  pub rows : length (flat_of m).rows ≤ head_size
  pub pages : length (flat_of m).entries ≤ 2048
  pub named : length (flat_of m).named ≤ head_size
  pub directories : length (flat_of m).directories ≤ 4

pub sizes : {m : List ℕ} → Room m → Sizes m
sizes {m} r =
    let k : Known m = known m r in
    record {
      long = omega arith;
      few = r.range.few;
      many = r.range.many;
      taken = r.range.taken;
      rows = omega arith;
      pages = omega arith;
      named = omega arith;
      directories = omega arith;
    }

-- ---- the whole test: room, and no page is empty

-- what the passes over the tables and the pages found
record Passed (m : List ℕ) : Type 0 where
  sign : le4 m 0 ≡ signature
  range : InRange (length m) (head_of m) (counts_of m)
  tables : (t : ℕ) → t < 7 → end_rises m t ≡ true
  begins : start_at m (capacity_of m) 0 ≡ 0
  rises : (p : ℕ) → p < page_count m → start_at m (capacity_of m) p < start_at m (capacity_of m) (suc p)

passed : (m : List ℕ) → holds_store m ≡ true → Passed m
unfolding holds_store tables_rise starts_rise
passed m h =
    let s = every_all _ h in
    let r = and_true (eqb (start_at m (capacity_of m) 0) 0) (all (start_rises m) (from 0 (page_count m))) s.1.1.1.1.0 in
    record {
      sign = eqb-true _ _ s.1.0;
      range = range_in _ _ _ s.1.1.0;
      tables = λ t b. all_from (end_rises m) 7 s.1.1.1.0 t b;
      begins = eqb-true _ _ r.0;
      rises = λ p b. ltb-true _ _ (all_from (start_rises m) (page_count m) r.1 p b);
    }

pub holds_room : (m : List ℕ) → holds_store m ≡ true → Room m
holds_room m h =
    let t : Passed m = passed m h in
    record {
      sign = t.sign;
      range = t.range;
      tables = λ i b. rw add-one (leb-true _ _ (t.tables i b));
      begins = t.begins;
      rises = λ p b. rw add-one (omega (arith, t.rises p b));
    }

-- every page has a row
pub holds_counted : (m : List ℕ) → holds_store m ≡ true → all has_rows (flat_of m).entries ≡ true
unfolding has_rows entries_of entry_at
holds_counted m h =
    let c : ℕ = capacity_of m in
    all_tab has_rows (entry_at m c) 0 (page_count m)
    (λ p a b. le-leb 1 (start_at m c (suc p) - start_at m c p) (omega (arith, (passed m h).rises p (omega arith))))

pub held_again : (m : List ℕ) → Room m → all has_rows (flat_of m).entries ≡ true → holds_store m ≡ true
unfolding holds_store tables_rise starts_rise has_rows entries_of entry_at
held_again m r h =
    let c : ℕ = capacity_of m in
    let k : Known m = known m r in
    let tables : tables_rise m ≡ true = from_all (end_rises m) 7 (λ t b. le-leb _ _ (rw add-one at (r.tables t b))) in
    let first : eqb (start_at m c 0) 0 ≡ true = eq-eqb _ _ r.begins in
    let rise : all (start_rises m) (from 0 (page_count m)) ≡ true =
    from_all (start_rises m) (page_count m)
    (λ p b.
    let l : 1 ≤ start_at m c (suc p) - start_at m c p = leb-true _ _ (tab_all has_rows (entry_at m c) 0 (page_count m) h p (omega arith) (omega arith)) in
    lt-ltb (start_at m c p) (start_at m c (suc p)) (omega arith)) in
    every_cons _ _ (le-leb head_size (length m) (omega arith))
    ∙ every_cons _ _ (eq-eqb _ _ r.sign)
    ∙ every_cons _ _ (in_range_lem _ _ _ r.range)
    ∙ every_cons _ _ tables
    ∙ every_one _
    ∙ rw (first, rise)

-- ---- the store that the flat lists mean

module _ (f : Flat) where
  pub blocks_is : (store_of f).blocks ≡ f.head.blocks
  unfolding store_of
  blocks_is = refl

  pub level_is : (store_of f).level ≡ f.head.level
  unfolding store_of
  level_is = refl

  pub taken_is : (store_of f).taken ≡ f.head.taken
  unfolding store_of
  taken_is = refl

pub in_none : (m : List ℕ) → holds_store m ≡ false → store_in m ≡ none
unfolding store_in if'◌then◌else◌
in_none m e = rw e

pub in_some : (m : List ℕ) → holds_store m ≡ true → store_in m ≡ some (store_of (flat_of m))
unfolding store_in if'◌then◌else◌
in_some m e = rw e

-- what a memory that holds a store is known to have
pub record Sound (m : List ℕ) (s : Store) : Type 0 where
  pub has_store : holds_store m ≡ true
  pub room : Room m
  pub counted : all has_rows (flat_of m).entries ≡ true
  pub means : store_of (flat_of m) ≡ s

pub in_sound : (m : List ℕ) (s : Store) → store_in m ≡ some s → Sound m s
unfolding store_in if'◌then◌else◌
in_sound m s e =
    by (holds_store m)
    (λ h. let k : some (store_of (flat_of m)) ≡ some s = rw h at e in record { has_store = h; room = holds_room m h; counted = holds_counted m h; means = cc })
    (λ h. let k : none ≡ some s = rw h at e in never k)

-- after a function the memory holds the store that the new flat lists mean, if every page has a row
pub becomes_store : {m m' : List ℕ} {f : Flat} → Becomes m m' f → all has_rows f.entries ≡ true → store_in m' ≡ some (store_of f)
becomes_store {m} {m'} b h = in_some m' (held_again m' b.room (ap (λ (x : Flat). all has_rows x.entries) b.flat ∙ h)) ∙ ap (λ (x : Flat). some (store_of x)) b.flat

-- before any function: where a loop begins
pub becomes_none : (m : List ℕ) → Room m → Becomes m m (flat_of m)
becomes_none m r = record { size = refl; room = r; flat = refl }

-- two functions, one after the other
pub becomes_then : (m m1 m2 : List ℕ) (f : Flat) (F : Flat → Flat) → Becomes m m1 f → Becomes m1 m2 (F (flat_of m1)) → Becomes m m2 (F f)
becomes_then m m1 m2 f F a b = record { size = b.size ∙ a.size; room = b.room; flat = b.flat ∙ ap F a.flat }
