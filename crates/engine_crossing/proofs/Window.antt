-- The rows that are passed over by their tables or their keys alone do not cross.
use Rattle.basics.proofs.Kit.{◌≡◌, sym, ap, ◌∙◌, ⊎_elim, false, List, ℕ, ◌+◌, ◌≤◌, ◌<◌, ◌-◌, min, leb, length, get_or, leb-false, arith}
use mir.Syntax.{w8}
use mir.Val as val
use Rattle.basics.specs.Lists.{tab, first_index, last_index}
use Rattle.basics.proofs.Tabs.{lt_or_ge, length_tab, tab_within}
use Rattle.basics.proofs.Found.{first_most, first_before, last_most, last_behind}
use Rattle.model.specs.Crossing.{crosses}
use Rattle.memory_bytes.specs.Columns.{up_to, at_least}
use Rattle.memory_layout.specs.Flat.{flat_of, row_in, Room}
use Rattle.memory_rows.specs.Rows.{key_in}
use Rattle.memory_rows.proofs.Fitting.{tuple_fits}
use Rattle.engine_close.specs.Close.{tagged_of, RowsFrom, RowOfTable}
use Rattle.engine_close.proofs.Memory.{tagged_length}
use Rattle.engine_crossing.specs.Crossing.{longest, most_key, NextCrossing}
use Rattle.engine_crossing.proofs.Bookings.{ends_before, starts_behind}
use Rattle.engine_crossing.proofs.Runs.{Passed}

-- the keys of the rows from row s up to row e
abbrev keys_in : List ℕ → ℕ → ℕ → List ℕ
keys_in m s e = tab (key_in (flat_of m)) s (e - s)

module _ (m : List ℕ) (small : (k : ℕ) → val.Fits w8 (get_or m k 0)) (first end s e k r : ℕ) (order : s ≤ e) (inside : e ≤ length (flat_of m).rows) where
  -- ---- below

  module _ (q : r ≡ s + first_index (at_least k) (keys_in m s e)) where
    pub low_bounds : (s ≤ r) × (r ≤ e)
    low_bounds = (omega arith, omega (arith, first_most (at_least k) 0 (keys_in m s e), length_tab (key_in (flat_of m)) s (e - s)))

    pub low_passed : k ≡ min (first - (longest - 1)) most_key → (j : ℕ) → s ≤ j → j < r → crosses first end (row_in (flat_of m) j).tuple ≡ false
    low_passed ek j x y =
        let b = low_bounds in
        let t : leb k (key_in (flat_of m) j) ≡ false = ap (at_least k) (sym (tab_within (key_in (flat_of m)) s (e - s) j 0 x (omega (arith, b.1))))
        ∙ first_before (at_least k) 0 (keys_in m s e) (j - s) (omega arith) in
        ends_before first end (row_in (flat_of m) j).tuple (tuple_fits m small j (omega (arith, b.1))).bytes (omega (arith, leb-false k (key_in (flat_of m) j) t, ek))

  -- ---- behind

  module _ (q : r ≡ s + last_index (up_to k) (keys_in m s e)) where
    pub high_bounds : (s ≤ r) × (r ≤ e)
    high_bounds = (omega arith, omega (arith, last_most (up_to k) 0 (keys_in m s e), length_tab (key_in (flat_of m)) s (e - s)))

    pub high_passed : k ≡ min (end - 1) most_key → (j : ℕ) → r ≤ j → j < e → crosses first end (row_in (flat_of m) j).tuple ≡ false
    high_passed ek j x y =
        let b = high_bounds in
        let n = length_tab (key_in (flat_of m)) s (e - s) in
        let t : leb (key_in (flat_of m) j) k ≡ false = ap (up_to k) (sym (tab_within (key_in (flat_of m)) s (e - s) j 0 (omega (arith, b.0)) (omega arith)))
        ∙ last_behind (up_to k) 0 (keys_in m s e) (j - s) (omega arith) (omega arith) in
        starts_behind first end (row_in (flat_of m) j).tuple (omega (arith, leb-false (key_in (flat_of m) j) k t, ek, (tuple_fits m small j (omega arith)).key))

-- ---- the table

module _ (m : List ℕ) {t s e : ℕ} (f : RowsFrom (tagged_of m) t s) (g : RowsFrom (tagged_of m) (t + 1) e) where
  -- its rows are those from row s up to row e
  pub table_order : s ≤ e
  table_order = ⊎_elim (λ x. absurd (omega (arith, f.below e x, g.above e (omega arith) (omega (arith, f.most))))) (λ x. x) (lt_or_ge e s)

  pub row_of_table : Room m → t < 8 → (j : ℕ) → s ≤ j → j < e → RowOfTable m j t
  row_of_table room h j x y =
      record {
        room = room;
        inside = omega (arith, g.most);
        table = omega (arith, f.above j x (omega (arith, g.most)), g.below j y);
        below = h;
      }

-- the rows of table t from row s up to row e, and those from row low up to row high that are looked at
pub record Looked (m : List ℕ) (t first end s e low high : ℕ) : Type 0 where
  pub table : RowsFrom (tagged_of m) t s
  pub next : RowsFrom (tagged_of m) (t + 1) e
  pub inside : high ≤ e
  pub start : s ≤ low
  pub below : (j : ℕ) → s ≤ j → j < low → crosses first end (row_in (flat_of m) j).tuple ≡ false
  pub behind : (j : ℕ) → high ≤ j → j < e → crosses first end (row_in (flat_of m) j).tuple ≡ false

module _ {m : List ℕ} {t first end s e low high : ℕ} (k : Looked m t first end s e low high) where
  -- at the start: rows of other tables, rows with a key that is too low, rows that were looked at
  pub passed_start : (c : ℕ) → NextCrossing (flat_of m) first end low high c → Passed m t first end 0 c
  passed_start c n j x y q =
      ⊎_elim (λ l. absurd (omega (arith, k.table.below j l)))
      (λ l. ⊎_elim (λ z. k.below j l z) (λ z. n.passed j z y) (lt_or_ge j low)) (lt_or_ge j s)

  -- at the end: rows with a key that is too high, rows of other tables
  pub passed_end : (c : ℕ) → high ≤ c → Passed m t first end c (length (tagged_of m))
  passed_end c l j x y q =
      ⊎_elim (λ z. k.behind j (omega arith) z) (λ z. absurd (omega (arith, k.next.above j z y))) (lt_or_ge j e)

-- what the searches have found
pub looked : (m : List ℕ) → Room m → ((k : ℕ) → val.Fits w8 (get_or m k 0)) → (first end : ℕ) {t s e kl kh low high : ℕ} → RowsFrom (tagged_of m) t s → RowsFrom (tagged_of m) (t + 1) e
    → kh ≡ min (end - 1) most_key → high ≡ s + last_index (up_to kh) (keys_in m s e) → kl ≡ min (first - (longest - 1)) most_key
    → low ≡ s + first_index (at_least kl) (keys_in m s high) → Looked m t first end s e low high
looked m room small first end {s = s} {e = e} {kl = kl} {kh = kh} {low = low} {high = high} f g eh qh el ql =
    let o = table_order m f g in
    let n : e ≤ length (flat_of m).rows = omega (arith, g.most, tagged_length m room) in
    let b = high_bounds m small first end s e kh high o n qh in
    record {
      table = f;
      next = g;
      inside = b.1;
      start = (low_bounds m small first end s high kl low b.0 (omega (arith, b.1)) ql).0;
      below = low_passed m small first end s high kl low b.0 (omega (arith, b.1)) ql el;
      behind = high_passed m small first end s e kh high o n qh eh;
    }
