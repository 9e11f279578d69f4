-- A page split and two pages joined: the first page leaves its block, then a page is opened or closed behind it.
use Rattle.basics.proofs.Kit.{◌≡◌, sym, ap, ◌∙◌, subst, false, List, ◌∷◌, ◌++◌, ℕ, suc, ◌+◌, ◌<◌, ◌-◌, add-one, length, take, drop, get_or, set, length-set, get_or-set_same, get_or-set_other}
use Rattle.basics.proofs.Kit.{take-set-le, drop-set-lt, arith}
use Rattle.memory_layout.specs.Views.{page_count, table_at, start_at}
use Rattle.memory_layout.specs.Flat.{Flat, flat_of, capacity_of, entry_in, no_entry, Room, Becomes, with_entries}
use Rattle.memory_layout.specs.Store.{total}
use Rattle.memory_layout.specs.declared.Entry.{Entry}
use Rattle.memory_layout.proofs.Laws.{entries_length, starts}
use Rattle.memory_pages.specs.Columns.{Opened, Closed, MayOpen, MayClose}
use Rattle.memory_pages.specs.Pages.{dirty, with_block, with_count, split_entry, join_entries, MaySplit, MayJoin, EntriesBecome, set_block}
use Rattle.memory_pages.proofs.Ranges.{entry_table, head_capacity}
use Rattle.memory_pages.proofs.Tables.{TableIs, table_is}
use Rattle.memory_pages.proofs.Entries.{ends_behind}
use Rattle.memory_pages.proofs.Changes.{then_entries, page_split, pages_joined}

-- page p in no block
abbrev d : List ℕ → ℕ → Entry
d m p = with_block (entry_in (flat_of m) p) 0 false

-- page p has left its block; all else is as it was
abbrev Left : List ℕ → List ℕ → ℕ → Type 0
Left m m1 p = EntriesBecome m m1 (set_block p 0 false)

module _ {m m1 : List ℕ} {p : ℕ} (room : Room m) (h : p < page_count m) (s : Left m m1 p) where
  left_entries : (flat_of m1).entries ≡ set (flat_of m).entries p (d m p)
  left_entries = ap (λ (f : Flat). f.entries) s.flat

  pub left_pages : page_count m1 ≡ page_count m
  left_pages = omega (arith, entries_length m1, entries_length m, ap length left_entries, length-set (flat_of m).entries p (d m p))

  pub left_capacity : capacity_of m1 ≡ capacity_of m
  left_capacity = sym (head_capacity m1) ∙ ap (λ (f : Flat). f.head.capacity) s.flat ∙ head_capacity m

  pub left_front : take p (flat_of m1).entries ≡ take p (flat_of m).entries
  left_front = ap (take p) left_entries ∙ take-set-le p (flat_of m).entries p (d m p) (omega arith)

  pub left_back : (k : ℕ) → p < k → drop k (flat_of m1).entries ≡ drop k (flat_of m).entries
  left_back k b = ap (drop k) left_entries ∙ drop-set-lt k (flat_of m).entries p (d m p) b

  pub left_start : start_at m1 (capacity_of m1) p ≡ start_at m (capacity_of m) p
  left_start =
      starts m1 s.room p (omega (arith, left_pages)) ∙ ap total left_front ∙ sym (starts m room p (omega arith))

  pub left_here : entry_in (flat_of m1) p ≡ with_block (entry_in (flat_of m) p) 0 false
  left_here = ap (λ (l : List Entry). get_or l p no_entry) left_entries ∙ get_or-set_same (flat_of m).entries p (d m p) no_entry (omega (arith, entries_length m))

  pub left_other : (j : ℕ) → p < j → entry_in (flat_of m1) j ≡ entry_in (flat_of m) j
  left_other j b = ap (λ (l : List Entry). get_or l j no_entry) left_entries ∙ get_or-set_other (flat_of m).entries p j (d m p) no_entry (λ e. omega arith)

  pub left_table : table_at m1 p ≡ (entry_in (flat_of m) p).table
  left_table = sym (entry_table m1 p (omega (arith, left_pages))) ∙ ap (λ (e : Entry). e.table) left_here

-- ---- split

module _ {m m1 : List ℕ} {p : ℕ} (k : ℕ) (room : Room m) (may : MaySplit (flat_of m) p k) (s : Left m m1 p) where
  split_place : p < page_count m
  split_place = omega (arith, entries_length m, may.place)

  pub split_may : (t : ℕ) → t < 8 → MayOpen m1 (p + 1) t
  split_may t b =
      let n = left_pages room split_place s in
      let g = split_place in
      record { table = b; place = omega arith; space = omega (arith, left_capacity room g s, may.space, entries_length m, head_capacity m) }

  pub split_done : {m2 : List ℕ} {t x : ℕ} → t ≡ (entry_in (flat_of m) p).table → x ≡ start_at m (capacity_of m) p + k → Opened m1 m2 (p + 1) t x
      → EntriesBecome m m2 (split_entry p k)
  split_done {m2} {t} {x} et ex o =
      let g = split_place in
      let n : page_count m1 ≡ page_count m = left_pages room g s in
      let here = left_here room g s in
      let front = left_front room g s in
      let back : drop (suc p) (flat_of m1).entries ≡ drop (p + 1) (flat_of m).entries =
      left_back room g s (suc p) (omega arith) ∙ ap (λ (z : ℕ). drop z (flat_of m).entries) (sym (add-one p)) in
      let first = page_split k s.room (omega arith) (omega (arith, left_capacity room g s, may.space, entries_length m, head_capacity m)) (et ∙ sym (left_table room g s))
      (omega (arith, left_start room g s)) (omega (arith, ap (λ (e : Entry). e.count) here, may.rows)) (subst (λ (z : ℕ). Opened m1 m2 z t x) (add-one p) o) in
      subst (λ (l : List Entry). Becomes m m2 (with_entries (flat_of m) l))
      (λ i. front i ++ with_count (here i) k ∷ dirty (et i) ((here i).count - k) ∷ back i)
      (then_entries s first)

-- ---- joined

module _ {m m1 : List ℕ} {p : ℕ} (room : Room m) (may : MayJoin (flat_of m) p) (s : Left m m1 p) where
  join_place : suc p < page_count m
  join_place = omega (arith, entries_length m, may.place)

  join_table : table_at m1 (suc p) ≡ (entry_in (flat_of m) p).table
  join_table =
      let g : p < page_count m = omega (arith, join_place) in
      sym (entry_table m1 (suc p) (omega (arith, join_place, left_pages room g s)))
      ∙ ap (λ (e : Entry). e.table) (left_other room g s (suc p) (omega arith))
      ∙ ap (λ (z : ℕ). (entry_in (flat_of m) z).table) (sym (add-one p))
      ∙ may.table

  pub join_may : {t : ℕ} → t ≡ (entry_in (flat_of m) p).table → MayClose m1 (p + 1) t
  join_may {t} et =
      let g : p < page_count m = omega (arith, join_place) in
      let n : page_count m1 ≡ page_count m = left_pages room g s in
      let is : TableIs m1 (p + 1) t =
      subst (λ (z : ℕ). TableIs m1 (p + 1) z) (ap (table_at m1) (add-one p) ∙ join_table ∙ sym et) (table_is s.room (p + 1)) in
      record { table = omega (arith, is.most); place = omega (arith, join_place); behind = ends_behind is (omega (arith, join_place)) }

  pub join_done : {m2 : List ℕ} {t : ℕ} → t ≡ (entry_in (flat_of m) p).table → Closed m1 m2 (p + 1) t
      → EntriesBecome m m2 (join_entries p)
  join_done {m2} {t} et o =
      let g : p < page_count m = omega (arith, join_place) in
      let n : page_count m1 ≡ page_count m = left_pages room g s in
      let here = left_here room g s in
      let next : entry_in (flat_of m1) (suc p) ≡ entry_in (flat_of m) (p + 1) =
      left_other room g s (suc p) (omega arith) ∙ ap (entry_in (flat_of m)) (sym (add-one p)) in
      let front = left_front room g s in
      let back = left_back room g s (p + 2) (omega arith) in
      let whole = pages_joined s.room (omega (arith, join_place)) (et ∙ sym join_table) (subst (λ (z : ℕ). Closed m1 m2 z t) (add-one p) o) in
      subst (λ (l : List Entry). Becomes m m2 (with_entries (flat_of m) l))
      (λ i. front i ++ with_count (here i) ((here i).count + (next i).count) ∷ back i)
      (then_entries s whole)
