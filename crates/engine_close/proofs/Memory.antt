-- The rows of a memory with room, each with its table: as many as the memory says, in its order, and tables by the page entries.
use Rattle.image.specs.Stages.{capacity_limit}
use Rattle.basics.proofs.Kit.{◌≡◌, refl, sym, ap, ◌∙◌, subst, ⊎_elim, true, List, [], ◌∷◌, ◌++◌, map, ℕ, suc, ◌+◌, ◌≤◌, ◌<◌, zero, ◌-◌, add-one, ltb, length, take, drop, get_or}
use Rattle.basics.proofs.Kit.{length-drop, length-map, List·getD-append, List·getD-map, length-take-le, get_or-append-add, take-length, arith}
use Rattle.basics.specs.Basics.{sum}
use Rattle.basics.proofs.Facts.{by}
use Rattle.model.specs.State.{Held}
use Rattle.model.specs.Places.{tagged}
use Rattle.basics.proofs.Elements.{leb-true, leb-false}
use Rattle.memory_layout.specs.Flat.{flat_of, no_row, no_entry, row_in, entry_in, Room}
use Rattle.memory_layout.specs.Store.{page_of, nest, total, start_of, holds_store}
use Rattle.memory_layout.specs.declared.Entry.{Entry}
use Rattle.memory_layout.specs.Views.{counts_of}
use Rattle.memory_layout.specs.declared.Counts.{Counts}
use Rattle.memory_layout.proofs.Laws.{filled, rows_read, sizes}
use Rattle.memory_layout.proofs.Exchange.{start_next}
use Rattle.basics.proofs.Tabs.{lt_or_ge}
use Rattle.memory_pages.specs.Pages.{TableFrom, OnPages, PageOf}
use Rattle.engine_pages.specs.Pages.{RowOn}
use Rattle.engine_pages.proofs.Rows.{tag, nest_rows}
use Rattle.engine_close.specs.Close.{tagged_of, row_from, RowOfTable, RowsFrom}

-- ---- rows

module _ (m : List ℕ) (room : Room m) where
  pub rows_are : map (λ (x : ℕ × Held). x.1) (tagged_of m) ≡ (flat_of m).rows
  rows_are = nest_rows (flat_of m).entries (flat_of m).rows (filled m room)

  pub tagged_length : length (tagged_of m) ≡ length (flat_of m).rows
  tagged_length = sym (length-map (tagged_of m) (λ (x : ℕ × Held). x.1)) ∙ ap length rows_are

  pub row_is : (i : ℕ) → (row_from (tagged_of m) i).1 ≡ row_in (flat_of m) i
  row_is i = sym (List·getD-map (λ (x : ℕ × Held). x.1) (tagged_of m) i (0, no_row)) ∙ ap (λ hs. get_or hs i no_row) rows_are

  pub rows_counted : {n : Counts} → n ≡ counts_of m → n.rows ≡ length (tagged_of m)
  rows_counted e = rows_read m e ∙ sym tagged_length

  -- there are few
  pub few_tagged : length (tagged_of m) ≤ capacity_limit
  few_tagged = omega (arith, tagged_length, (sizes room).rows)

-- ---- tables

tag_page : (t : ℕ) (hs : List Held) (i : ℕ) (d : ℕ × Held) → i < length hs → (get_or (map (tag t) hs) i d).0 ≡ t
tag_page t [] i d h = absurd (omega arith)
tag_page t (x ∷ hs) zero d h = refl
tag_page t (x ∷ hs) (suc i) d h = tag_page t hs i d (omega arith)

module _ (e : Entry) (es : List Entry) (hs : List Held) (full : total (e ∷ es) ≡ length hs) (j : ℕ) (d : ℕ × Held) where
  first_long : length (map (tag e.table) (take e.count hs)) ≡ e.count
  unfolding total sum
  first_long = length-map (take e.count hs) (tag e.table) ∙ length-take-le e.count hs (omega arith)

  tag_first : j < e.count → (get_or (tagged (nest (e ∷ es) hs)) j d).0 ≡ e.table
  unfolding tagged nest page_of total sum
  tag_first h =
      ap (λ (x : ℕ × Held). x.0) (List·getD-append (map (tag e.table) (take e.count hs)) (tagged (nest es (drop e.count hs))) d j (omega (arith, first_long)))
      ∙ tag_page e.table (take e.count hs) j d (omega (arith, length-take-le e.count hs (omega arith)))

  tag_rest : e.count ≤ j → (get_or (tagged (nest (e ∷ es) hs)) j d).0 ≡ (get_or (tagged (nest es (drop e.count hs))) (j - e.count) d).0
  unfolding tagged nest page_of total sum
  tag_rest h =
      let a = map (tag e.table) (take e.count hs) in
      let b = tagged (nest es (drop e.count hs)) in
      let z : j ≡ length a + (j - e.count) = omega (arith, first_long) in
      ap (λ k. (get_or (a ++ b) k d).0) z ∙ ap (λ (x : ℕ × Held). x.0) (get_or-append-add a b (j - e.count) d)

  rest_full : total es ≡ length (drop e.count hs)
  unfolding total sum
  rest_full = omega (arith, length-drop e.count hs)

take_total : (e : Entry) (es : List Entry) (q : ℕ) → total (take (suc q) (e ∷ es)) ≡ e.count + total (take q es)
unfolding total sum
take_total e es q = refl

none_total : (es : List Entry) → total (take 0 es) ≡ 0
unfolding total sum
none_total es = refl

-- what the tables of pages q up to r have, the tables of their rows have
range_table : (P : ℕ → Type 0) (es : List Entry) (hs : List Held) (q r j : ℕ) (d : ℕ × Held)
    → ((p : ℕ) → q ≤ p → p < r → P (get_or es p no_entry).table) → total es ≡ length hs → total (take q es) ≤ j → j < total (take r es)
    → P (get_or (tagged (nest es hs)) j d).0
range_table P [] hs q r j d k f a b = absurd (unfold total sum in nothing r b)
  where
    nothing : (r : ℕ) → j < total (take r []) → ⊥
    nothing zero b = unfold total sum in omega arith
    nothing (suc r) b = unfold total sum in omega arith
range_table P (e ∷ es) hs q zero j d k f a b = absurd (omega (arith, none_total (e ∷ es)))
range_table P (e ∷ es) hs zero (suc r) j d k f a b =
    let t = take_total e es r in
    by (ltb j e.count)
    (λ l. subst P (sym (tag_first e es hs f j d (leb-true (suc j) e.count l))) (k 0 (omega arith) (omega arith)))
    (λ l. let u = leb-false (suc j) e.count l in
    subst P (sym (tag_rest e es hs f j d (omega arith)))
    (range_table P es (drop e.count hs) 0 r (j - e.count) d (λ p x y. k (suc p) (omega arith) (omega arith)) (rest_full e es hs f j d)
    (omega (arith, none_total es)) (omega arith)))
range_table P (e ∷ es) hs (suc q) (suc r) j d k f a b =
    let t = take_total e es r in
    let s = take_total e es q in
    subst P (sym (tag_rest e es hs f j d (omega arith)))
    (range_table P es (drop e.count hs) q r (j - e.count) d (λ p x y. k (suc p) (omega arith) (omega arith)) (rest_full e es hs f j d)
    (omega arith) (omega arith))

module _ (m : List ℕ) (room : Room m) where
  -- the table of a row is that of its page
  pub table_is : {a b i r : ℕ} → PageOf (flat_of m) a b i r → (row_from (tagged_of m) i).0 ≡ (entry_in (flat_of m) r).table
  table_is {a} {b} {i} {r} o =
      range_table (λ t. t ≡ (entry_in (flat_of m) r).table) (flat_of m).entries (flat_of m).rows r (suc r) i (0, no_row)
      (λ p x y. let z : p ≡ r = omega arith in ap (λ k. (entry_in (flat_of m) k).table) z) (filled m room) o.first
      (subst (λ z. i < start_of (flat_of m) z) (add-one r) o.last)

  all_total : total (take (length (flat_of m).entries) (flat_of m).entries) ≡ length (tagged_of m)
  all_total = ap total (take-length (flat_of m).entries) ∙ filled m room ∙ sym (tagged_length m room)

  -- the rows from the first page of a table on
  pub rows_from : {t p r : ℕ} → TableFrom (flat_of m) t p → r ≡ start_of (flat_of m) p → r ≤ length (flat_of m).rows → RowsFrom (tagged_of m) t r
  rows_from {t} {p} {r} o e l =
      let es = (flat_of m).entries in
      let hs = (flat_of m).rows in
      record {
        most = omega (arith, tagged_length m room);
        below = λ j b. range_table (λ z. z < t) es hs 0 p j (0, no_row) (λ q x y. o.below q y) (filled m room) (omega (arith, none_total es)) (omega arith);
        above = λ j a b. range_table (λ z. t ≤ z) es hs p (length es) j (0, no_row) (λ q x y. o.above q x y) (filled m room) (omega arith) (omega (arith, all_total));
      }

  -- a row is on one of all pages
  pub on_pages : {b i : ℕ} → b ≡ length (flat_of m).entries → i < length (tagged_of m) → OnPages (flat_of m) 0 b i
  on_pages {b} {i} e h =
      let l : start_of (flat_of m) b ≡ length (tagged_of m) = ap (start_of (flat_of m)) e ∙ all_total in
      record {
        some = ⊎_elim (λ x. x) (λ x. let z : b ≡ 0 = omega arith in absurd (omega (arith, ap (start_of (flat_of m)) z, none_total (flat_of m).entries))) (lt_or_ge 0 b);
        most = omega arith;
        first = omega (arith, none_total (flat_of m).entries);
        last = omega arith;
      }

pub row_on : {m : List ℕ} {i r : ℕ} → holds_store m ≡ true → PageOf (flat_of m) 0 (length (flat_of m).entries) i r → RowOn m r i
row_on {m} {i} {r} h o =
    record {
      there = record { has_store = h; inside = o.high };
      least = o.first;
      most = omega (arith, start_next (flat_of m) r o.high, o.last);
    }

-- a row on a page whose table is t
pub table_there : {m : List ℕ} → Room m → {i p t : ℕ} → i < length (tagged_of m) → PageOf (flat_of m) 0 (length (flat_of m).entries) i p → (t ≡ (entry_in (flat_of m) p).table) × (t < 8)
    → RowOfTable m i t
table_there {m} room h o t = record { room = room; inside = h; table = t.0 ∙ sym (table_is m room o); below = t.1 }
