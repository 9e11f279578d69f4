-- The versions of a key are among the rows of its table, one run of all rows.
use Rattle.basics.proofs.Kit.{◌≡◌, refl, sym, ap, ◌∙◌, List, [], ◌∷◌, ◌++◌, ℕ, suc, ◌+◌, ◌≤◌, ◌<◌, zero, ◌-◌, length, take, drop, get_or, drop-drop, take-add}
use Rattle.basics.proofs.Kit.{ne_eqb, arith}
use Rattle.basics.specs.Basics.{if'◌then◌else◌, keep, sum}
use Rattle.basics.proofs.Facts.{by}
use Rattle.block_forms.specs.Tuple.{Tuple}
use Rattle.image_rows.specs.Rows.{Row, rows_of, is_at}
use Rattle.model.specs.State.{Held, Page}
use Rattle.model.specs.Rules.{is_removing, live}
use Rattle.model.specs.Sight.{rows, versions}
use Rattle.basics.proofs.Elements.{keep_append}
use Rattle.memory_bytes.specs.Columns.{up_to}
use Rattle.basics.specs.Lists.{tab, last_index}
use Rattle.basics.proofs.Tabs.{tab_part}
use Rattle.memory_layout.specs.Flat.{Flat, flat_of, row_in, no_row, no_entry, Room}
use Rattle.memory_layout.specs.Store.{page_of, nest, pages_in, total, start_of}
use Rattle.memory_layout.specs.Views.{page_count}
use Rattle.memory_layout.proofs.Laws.{starts, entries_length}
use Rattle.memory_layout.specs.declared.Entry.{Entry}
use Rattle.memory_rows.specs.Rows.{key_in}
use Rattle.memory_pages.specs.Pages.{TableFrom}
use Rattle.memory_pages.specs.Spots.{table_page, table_row, table_rows, key_up_to, place_in}
use Rattle.memory_pages.proofs.Ranges.{starts_rise}
use Rattle.memory_pages.proofs.Spots.{row_from, pages_rise, table_first}
use Rattle.engine_lookup.specs.Lookup.{Shows, blank, TableRange}
use Rattle.engine_lookup.specs.declared.Visibility.{Visibility}
use Rattle.std.specs.declared.ops.Range.{Range}
use Rattle.engine_lookup.proofs.Iterations.{along, notes_covered}
use Rattle.engine_lookup.proofs.Versions.{versions_on, shows_rows}
use Rattle.engine_lookup.proofs.Searches.{place_covers, last_keys}
use Rattle.image_page.proofs.Walk.{rows_append}

-- ---- in parts

live_append : (xs ys : List Held) → live (xs ++ ys) ≡ live xs ++ live ys
unfolding live if'◌then◌else◌
live_append [] ys = refl
live_append (x ∷ xs) ys = by (is_removing x.pending) (λ e. rw e (live_append xs ys)) (λ e. rw (e, live_append xs ys))

versions_append : (t k : ℕ) (xs ys : List Held) → versions_on t k (xs ++ ys) ≡ versions_on t k xs ++ versions_on t k ys
versions_append t k xs ys =
    ap (λ (z : List Tuple). keep (is_at t k) (rows_of t z)) (live_append xs ys)
    ∙ ap (keep (is_at t k)) (rows_append t (live xs) (live ys))
    ∙ keep_append (is_at t k) (rows_of t (live xs)) (rows_of t (live ys))

-- ---- page by page

other_table : (t k u : ℕ) (xs : List Tuple) → (u ≡ t → ⊥) → keep (is_at t k) (rows_of u xs) ≡ []
unfolding rows_of is_at keep if'◌then◌else◌
other_table t k u [] n = refl
other_table t k u (x ∷ xs) n = rw (ne_eqb u t n) (other_table t k u xs n)

module _ (t k : ℕ) (e : Entry) (hs : List Held) (ps : List Page) where
  page_versions : versions t k (page_of e hs ∷ ps) ≡ keep (is_at t k) (rows_of e.table (live hs)) ++ versions t k ps
  unfolding versions rows page_of
  page_versions = keep_append (is_at t k) (rows_of e.table (live hs)) (rows ps)

  page_own : e.table ≡ t → versions t k (page_of e hs ∷ ps) ≡ versions_on t k hs ++ versions t k ps
  page_own q = page_versions ∙ ap (λ (z : ℕ). keep (is_at t k) (rows_of z (live hs)) ++ versions t k ps) q

  page_other : (e.table ≡ t → ⊥) → versions t k (page_of e hs ∷ ps) ≡ versions t k ps
  page_other n = page_versions ∙ ap (λ (z : List Row). z ++ versions t k ps) (other_table t k e.table (live hs) n)

-- the pages from a up to b are those of table t
record Owned (es : List Entry) (d : Entry) (t a b : ℕ) : Type 0 where
  order : a ≤ b
  most : b ≤ length es
  below : (p : ℕ) → p < a → (get_or es p d).table ≡ t → ⊥
  here : (p : ℕ) → a ≤ p → p < b → (get_or es p d).table ≡ t
  above : (p : ℕ) → b ≤ p → p < length es → (get_or es p d).table ≡ t → ⊥

-- the rows of these pages
abbrev between : List Entry → ℕ → ℕ → List Held → List Held
between es a b hs = take (total (take b es) - total (take a es)) (drop (total (take a es)) hs)

module _ (t k : ℕ) (d : Entry) where
  owned_versions : (es : List Entry) (hs : List Held) (a b : ℕ) → Owned es d t a b → versions t k (nest es hs) ≡ versions_on t k (between es a b hs)
  unfolding nest total sum versions rows keep live rows_of
  owned_versions [] hs zero zero o = refl
  owned_versions [] hs zero (suc b) o = absurd (omega (arith, o.most))
  owned_versions [] hs (suc a) b o = absurd (omega (arith, o.order, o.most))
  owned_versions (e ∷ es) hs zero zero o =
      page_other t k e (take e.count hs) (nest es (drop e.count hs)) (o.above 0 (omega arith) (omega arith))
      ∙ owned_versions es (drop e.count hs) zero zero (record {
        order = omega arith;
        most = omega arith;
        below = λ p h. absurd (omega arith);
        here = λ p h l. absurd (omega arith);
        above = λ p h l. o.above (suc p) (omega arith) (omega arith);
      })
  owned_versions (e ∷ es) hs zero (suc b) o =
      let n : ℕ = e.count in
      let x : ℕ = total (take b es) in
      let z1 : x - 0 ≡ x = omega arith in
      let z2 : n + x - 0 ≡ n + x = omega arith in
      page_own t k e (take n hs) (nest es (drop n hs)) (o.here 0 (omega arith) (omega arith))
      ∙ ap (λ (z : List Row). versions_on t k (take n hs) ++ z) (owned_versions es (drop n hs) zero b (record {
        order = omega arith;
        most = omega (arith, o.most);
        below = λ p h. absurd (omega arith);
        here = λ p h l. o.here (suc p) (omega arith) (omega arith);
        above = λ p h l. o.above (suc p) (omega arith) (omega arith);
      }))
      ∙ sym (versions_append t k (take n hs) (take (x - 0) (drop n hs)))
      ∙ ap (λ (z : ℕ). versions_on t k (take n hs ++ take z (drop n hs))) z1
      ∙ ap (versions_on t k) (sym (take-add n x hs) ∙ ap (λ (z : ℕ). take z hs) (sym z2))
  owned_versions (e ∷ es) hs (suc a) zero o = absurd (omega (arith, o.order))
  owned_versions (e ∷ es) hs (suc a) (suc b) o =
      let n : ℕ = e.count in
      let x : ℕ = total (take b es) in
      let y : ℕ = total (take a es) in
      let z : x - y ≡ n + x - (n + y) = omega arith in
      page_other t k e (take n hs) (nest es (drop n hs)) (o.below 0 (omega arith))
      ∙ owned_versions es (drop n hs) a b (record {
        order = omega (arith, o.order);
        most = omega (arith, o.most);
        below = λ p h. o.below (suc p) (omega arith);
        here = λ p h l. o.here (suc p) (omega arith) (omega arith);
        above = λ p h l. o.above (suc p) (omega arith) (omega arith);
      })
      ∙ (λ i. versions_on t k (take (z i) (drop-drop y n hs i)))

-- ---- the rows of a table

pub table_versions : (f : Flat) (t k : ℕ) → TableFrom f t (table_page f t) → TableFrom f (t + 1) (table_page f (t + 1))
    → versions t k (pages_in f) ≡ versions_on t k (table_rows f t)
unfolding table_rows table_row
table_versions f t k s u =
    owned_versions t k no_entry f.entries f.rows (table_page f t) (table_page f (t + 1)) (record {
      order = pages_rise s u;
      most = u.most;
      below = λ p h e. omega (arith, s.below p h);
      here = λ p h l. omega (arith, s.above p h (omega (arith, u.most)), u.below p l);
      above = λ p h l e. omega (arith, u.above p h l);
    })

-- the range from the start of its pages to that of the next table's
pub table_range : {m : List ℕ} → Room m → {t a b x y : ℕ} → TableFrom (flat_of m) t a → TableFrom (flat_of m) (t + 1) b → x ≡ start_of (flat_of m) a
    → y ≡ start_of (flat_of m) b → y ≤ length (flat_of m).rows → TableRange (flat_of m) t (record { start = x; end = y })
table_range {m} room {t} {a} {b} s u ex ey h =
    let l : length (flat_of m).entries ≡ page_count m = entries_length m in
    let r : a ≤ b = pages_rise s u in
    record {
      start = row_from s ex;
      end = row_from u ey;
      order = omega (arith, starts m room a (omega (arith, s.most)), starts m room b (omega (arith, u.most)), starts_rise room a b r);
      inside = h;
    }

module _ {m : List ℕ} (room : Room m) (t tx k : ℕ) (h : t < 8) {r : Range ℕ} (g : TableRange (flat_of m) t r) where
  rows_of_lem : table_rows (flat_of m) t ≡ tab (row_in (flat_of m)) r.start (r.end - r.start)
  unfolding table_rows
  rows_of_lem =
      let f : Flat = flat_of m in
      (λ i. take (sym g.end i - sym g.start i) (drop (sym g.start i) f.rows)) ∙ sym (tab_part f.rows no_row r.start (r.end - r.start) (omega (arith, g.order, g.inside)))

  -- all rows of the table show all versions
  pub table_shown : {l : Visibility} → l ≡ along (flat_of m) tx k r.start (r.end - r.start) blank
      → Shows (flat_of m) t tx (versions t k (pages_in (flat_of m))) l
  table_shown {l} e =
      let f : Flat = flat_of m in
      let n : ℕ = r.end - r.start in
      let v : versions t k (pages_in f) ≡ versions_on t k (tab (row_in f) r.start n) =
      table_versions f t k (table_first room t (omega arith)) (table_first room (t + 1) (omega arith)) ∙ ap (versions_on t k) rows_of_lem in
      rw (v, e) (shows_rows f t tx k n r.start (omega (arith, g.order, g.inside)))

  -- the same of one at the rows before the place alone
  module _ {at : ℕ} (q : at ≡ r.start + last_index (up_to k) (tab (key_in (flat_of m)) r.start (r.end - r.start))) where
    pub spot_shown : {l : Visibility} → l ≡ along (flat_of m) tx k r.start (at - r.start) blank
        → Shows (flat_of m) t tx (versions t k (pages_in (flat_of m))) l
    spot_shown e = table_shown (e ∙ notes_covered (flat_of m) tx blank (place_covers (flat_of m) k r.start r.end g.order q))

    pub spot_place : at ≡ place_in (flat_of m) t k
    unfolding place_in
    spot_place =
        let f : Flat = flat_of m in
        q ∙ (λ i. g.start i + last_keys f k r.start (r.end - r.start) i) ∙ ap (λ (z : List Held). table_row f t + last_index (key_up_to k) z) (sym rows_of_lem)
