-- Where a run begins and ends: rows of one table are neighbours, so that within its bounds the keys alone are compared. And the whole run.
use Rattle.basics.proofs.Kit.{◌≡◌, refl, sym, ap, ◌∙◌, subst, ⊎_elim, true, false, List, ℕ, ◌+◌, ◌≤◌, ◌<◌, ◌-◌, length, arith}
use Rattle.basics.proofs.Facts.{by}
use Rattle.model.specs.State.{Held}
use Rattle.model.proofs.RowAfter.{at_split, at_join}
use Rattle.model.proofs.RunParts.{same_as, same_self, same_not}
use Rattle.basics.proofs.Tabs.{lt_or_ge}
use Rattle.memory_layout.specs.Views.{table_end}
use Rattle.memory_layout.specs.Flat.{flat_of, row_in, Room}
use Rattle.memory_layout.specs.Store.{start_of}
use Rattle.memory_layout.proofs.Laws.{filled}
use Rattle.memory_layout.proofs.Nest.{total_split}
use Rattle.memory_pages.proofs.Tables.{from_end}
use Rattle.model.specs.Places.{same_key}
use Rattle.engine_close.specs.Close.{tagged_of, row_from, RowOfTable, RowsFrom, RunFrom, RunTo}
use Rattle.engine_close.proofs.Memory.{row_is, rows_from}

-- rows r up to i are of the table and key of row i
abbrev pub Back : List ℕ → ℕ → ℕ → Type 0
Back m i r = (j : ℕ) → r ≤ j → j < i → same_key (row_from (tagged_of m) i) (row_from (tagged_of m) j) ≡ true

-- rows behind i up to r are
abbrev pub Onward : List ℕ → ℕ → ℕ → Type 0
Onward m i r = (j : ℕ) → i < j → j < r → same_key (row_from (tagged_of m) i) (row_from (tagged_of m) j) ≡ true

module _ {m : List ℕ} (room : Room m) where
  -- tables do not fall
  rows_rise : (j i : ℕ) → j ≤ i → i < length (tagged_of m) → (row_from (tagged_of m) i).0 < 8 → (row_from (tagged_of m) j).0 ≤ (row_from (tagged_of m) i).0
  rows_rise j i h l b =
      let t = (row_from (tagged_of m) i).0 in
      let f = rows_from m room (from_end room t b refl) refl (omega (arith, total_split (table_end m t) (flat_of m).entries, filled m room)) in
      ⊎_elim (λ x. omega (arith, f.below j (omega arith))) (λ x. absurd (omega (arith, f.above i x l))) (lt_or_ge i (start_of (flat_of m) (table_end m t)))

module _ {m : List ℕ} {i t : ℕ} (row : RowOfTable m i t) where
  module _ (j : ℕ) where
    key_same : (row_from (tagged_of m) j).0 ≡ (row_from (tagged_of m) i).0 → (row_in (flat_of m) j).tuple.key ≡ (row_in (flat_of m) i).tuple.key
        → same_key (row_from (tagged_of m) i) (row_from (tagged_of m) j) ≡ true
    key_same a k = at_join _ _ _ a (ap (λ (x : Held). x.tuple.key) (row_is m row.room j) ∙ k ∙ sym (ap (λ (x : Held). x.tuple.key) (row_is m row.room i)))

    key_other : ((row_in (flat_of m) j).tuple.key ≡ (row_in (flat_of m) i).tuple.key → ⊥) → same_key (row_from (tagged_of m) i) (row_from (tagged_of m) j) ≡ false
    key_other k =
        by (same_key (row_from (tagged_of m) i) (row_from (tagged_of m) j))
        (λ s. absurd (k (sym (ap (λ (x : Held). x.tuple.key) (row_is m row.room j)) ∙ split s ∙ ap (λ (x : Held). x.tuple.key) (row_is m row.room i)))) (λ s. s)
      where
        split : same_key (row_from (tagged_of m) i) (row_from (tagged_of m) j) ≡ true → (row_from (tagged_of m) j).1.tuple.key ≡ (row_from (tagged_of m) i).1.tuple.key
        split s = (at_split _ _ _ s).1

    table_other : ((row_from (tagged_of m) j).0 ≡ (row_from (tagged_of m) i).0 → ⊥) → same_key (row_from (tagged_of m) i) (row_from (tagged_of m) j) ≡ false
    table_other k = by (same_key (row_from (tagged_of m) i) (row_from (tagged_of m) j)) (λ s. absurd (k (split s))) (λ s. s)
      where
        split : same_key (row_from (tagged_of m) i) (row_from (tagged_of m) j) ≡ true → (row_from (tagged_of m) j).0 ≡ (row_from (tagged_of m) i).0
        split s = (at_split _ _ _ s).0

  -- ---- back

  module _ {first : ℕ} (f : RowsFrom (tagged_of m) t first) where
    pub first_low : first ≤ i
    first_low = ⊎_elim (λ x. absurd (omega (arith, f.below i x))) (λ x. x) (lt_or_ge i first)

    module _ {r : ℕ} (s : Back m i r) where
      -- one row more
      pub back_more : first < r → r ≤ i → (row_in (flat_of m) (r - 1)).tuple.key ≡ (row_in (flat_of m) i).tuple.key → Back m i (r - 1)
      back_more l u k j x y =
          ⊎_elim (λ z. let q : j ≡ r - 1 = omega arith in
          key_same j (omega (arith, f.above j (omega arith) (omega arith), rows_rise row.room j i (omega arith) row.inside (omega arith))) (ap (λ n. (row_in (flat_of m) n).tuple.key) q ∙ k))
          (λ z. s j z y) (lt_or_ge j r)

      -- the row before is of another key
      pub back_ends : (from : ℕ) → from ≤ r → r ≤ i → ((row_in (flat_of m) (r - 1)).tuple.key ≡ (row_in (flat_of m) i).tuple.key → ⊥) → RunFrom (tagged_of m) from i r
      back_ends from l u k = record { low = l; high = u; same = s; first = λ x. key_other (r - 1) k }

      -- no row before it is in the table, or it is not looked at
      pub back_stops : (from : ℕ) → from ≤ r → r ≤ i → (from < r → r ≡ first) → RunFrom (tagged_of m) from i r
      back_stops from l u k =
          record { low = l; high = u; same = s; first = λ x. table_other (r - 1) (λ q. omega (arith, k x, f.below (r - 1) (omega (arith, k x)))) }

  -- ---- onward

  module _ {end : ℕ} (f : RowsFrom (tagged_of m) (t + 1) end) where
    pub end_high : i < end
    end_high = ⊎_elim (λ x. x) (λ x. absurd (omega (arith, f.above i x row.inside))) (lt_or_ge i end)

    module _ {r : ℕ} (s : Onward m i r) where
      pub onward_more : i < r → r < end → (row_in (flat_of m) r).tuple.key ≡ (row_in (flat_of m) i).tuple.key → Onward m i (r + 1)
      onward_more l u k j x y =
          ⊎_elim (λ z. s j x z)
          (λ z. let q : j ≡ r = omega arith in
          let v = f.below j (omega arith) in
          key_same j (omega (arith, rows_rise row.room i j (omega arith) (omega (arith, f.most)) (omega arith))) (ap (λ n. (row_in (flat_of m) n).tuple.key) q ∙ k))
          (lt_or_ge j r)

      pub onward_ends : i < r → r < end → ((row_in (flat_of m) r).tuple.key ≡ (row_in (flat_of m) i).tuple.key → ⊥) → RunTo (tagged_of m) i r
      onward_ends l u k = record { low = l; most = omega (arith, f.most); same = s; last = λ x. key_other r k }

      pub onward_stops : i < r → r ≡ end → RunTo (tagged_of m) i r
      onward_stops l q =
          record { low = l; most = omega (arith, f.most); same = s; last = λ x. table_other r (λ z. omega (arith, f.above r (omega arith) x)) }

-- ---- the whole run of a row

-- it goes from row a up to row e, and a is not before row `from`
pub record WholeRun (xs : List (ℕ × Held)) (from a e : ℕ) : Type 0 where
  pub low : from ≤ a
  pub some : a < e
  pub most : e ≤ length xs
  pub before : from < a → same_key (row_from xs (a - 1)) (row_from xs a) ≡ false
  pub same : (j : ℕ) → a ≤ j → j < e → same_key (row_from xs a) (row_from xs j) ≡ true
  pub behind : e < length xs → same_key (row_from xs a) (row_from xs e) ≡ false

module _ {xs : List (ℕ × Held)} {from i a e : ℕ} (f : RunFrom xs from i a) (t : RunTo xs i e) where
  abbrev row : ℕ → ℕ × Held
  row j = row_from xs j

  same_here : (j : ℕ) → j ≡ i → same_key (row i) (row j) ≡ true
  same_here j q = subst (λ z. same_key (row i) (row z) ≡ true) (sym q) (same_self (row i))

  same_first : same_key (row i) (row a) ≡ true
  same_first = ⊎_elim (λ x. f.same a (omega arith) x) (λ x. same_here a (omega (arith, f.high))) (lt_or_ge a i)

  pub whole_run : WholeRun xs from a e
  whole_run =
      record {
        low = f.low;
        some = omega (arith, f.high, t.low);
        most = t.most;
        before = λ x. same_not (row i) (row (a - 1)) (row a) (f.first x) same_first;
        same = λ j x y. same_as (row i) (row a) (row j) same_first
            ∙ ⊎_elim (λ l. f.same j x l) (λ l. ⊎_elim (λ g. t.same j g y) (λ g. same_here j (omega arith)) (lt_or_ge i j)) (lt_or_ge j i);
        behind = λ x. same_as (row i) (row a) (row e) same_first ∙ t.last x;
      }
