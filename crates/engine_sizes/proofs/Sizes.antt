-- Rows from s up to e, turn by turn: their sizes.
use Rattle.basics.proofs.Kit.{◌≡◌, refl, sym, ap, ◌∙◌, List, [], ◌∷◌, ℕ, suc, ◌+◌, ◌*◌, ◌≤◌, ◌<◌, ◌-◌, add-one, ltb, length, take, drop, drop-cons}
use Rattle.basics.proofs.Kit.{map, get_or, arith}
use Rattle.basics.specs.Basics.{sum}
use Rattle.basics.specs.Lists.{tab}
use Rattle.basics.proofs.Facts.{AllOf}
use Rattle.block_forms.specs.Limits.{payload_limit, most_record, committed_value}
use Rattle.model.specs.State.{Held}
use Rattle.model.specs.Rules.{held_size}
use Rattle.model.proofs.Splits.{Small}
use Rattle.basics.proofs.Elements.{all_take, all_drop}
use Rattle.memory_layout.specs.Flat.{flat_of, capacity_of, row_in, no_row}
use Rattle.memory_layout.specs.Views.{length_of, state_of}
use Rattle.memory_rows.proofs.Fields.{size_is, owner_most}
use Rattle.memory_layout.specs.Elements.{rows_from, RowRange}
use Rattle.basics.proofs.Tabs.{all_by, tab_part, length_tab, tab_within, map_tab}

-- ---- no row is large

length_most : (s : ℕ) → length_of s ≤ payload_limit
unfolding length_of
length_most s = omega arith

row_small : (m : List ℕ) (i : ℕ) → i < length (flat_of m).rows → held_size (row_in (flat_of m) i) ≤ most_record
row_small m i h =
    let s : ℕ = state_of m (capacity_of m) i in
    omega (arith, size_is m i h s refl, length_most s, owner_most (ltb s committed_value))

pub rows_small : (m : List ℕ) (s e : ℕ) → AllOf Small (rows_from m s e)
rows_small m s e = all_take Small (e - s) _ (all_drop Small s (flat_of m).rows (all_by Small (flat_of m).rows no_row (row_small m)))

small_sum : (hs : List Held) → AllOf Small hs → sum held_size hs ≤ most_record * length hs
unfolding sum
small_sum [] a = omega arith
small_sum (h ∷ hs) a = omega (arith, a.0, small_sum hs a.1)

-- ---- turn by turn

pub rows_by : {m : List ℕ} {s e : ℕ} → RowRange m s e → tab (row_in (flat_of m)) s (e - s) ≡ rows_from m s e
rows_by {m} {s} {e} g = tab_part (flat_of m).rows no_row s (e - s) (omega (arith, g.order, g.inside))

pub range_length : {m : List ℕ} {s e : ℕ} → RowRange m s e → length (rows_from m s e) ≡ e - s
range_length {m} {s} {e} g = ap length (sym (rows_by g)) ∙ length_tab (row_in (flat_of m)) s (e - s)

-- they are no larger than as many of the largest
pub rows_most : {m : List ℕ} {s e : ℕ} → RowRange m s e → sum held_size (rows_from m s e) ≤ most_record * (e - s)
rows_most {m} {s} {e} g = omega (arith, small_sum (rows_from m s e) (rows_small m s e), range_length g)

-- the size of row i, among their sizes
pub row_size : {m : List ℕ} {s e : ℕ} → RowRange m s e → (i : ℕ) → s ≤ i → i < e → get_or (map held_size (rows_from m s e)) (i - s) 0 ≡ held_size (row_in (flat_of m) i)
row_size {m} {s} {e} g i l h =
    let f : ℕ → ℕ = λ k. held_size (row_in (flat_of m) k) in
    ap (λ (z : List Held). get_or (map held_size z) (i - s) 0) (sym (rows_by g))
    ∙ ap (λ (z : List ℕ). get_or z (i - s) 0) (sym (map_tab held_size (row_in (flat_of m)) s (e - s))) ∙ tab_within f s (e - s) i 0 l (omega arith)

module _ (m : List ℕ) (i e : ℕ) where
  rows_next : i < e → e ≤ length (flat_of m).rows → rows_from m i e ≡ row_in (flat_of m) i ∷ rows_from m (i + 1) e
  rows_next h l =
      let rs : List Held = (flat_of m).rows in
      let z : e - i ≡ suc (e - (i + 1)) = omega arith in
      ap (λ (n : ℕ). take n (drop i rs)) z ∙ ap (take (suc (e - (i + 1)))) (drop-cons rs i no_row (omega arith))
      ∙ ap (λ (n : ℕ). row_in (flat_of m) i ∷ take (e - (i + 1)) (drop n rs)) (sym (add-one i))

  rows_none : e ≤ i → rows_from m i e ≡ []
  rows_none h = let z : e - i ≡ 0 = omega arith in ap (λ (n : ℕ). take n (drop i (flat_of m).rows)) z

  pub sum_next : i < e → e ≤ length (flat_of m).rows → sum held_size (rows_from m i e) ≡ held_size (row_in (flat_of m) i) + sum held_size (rows_from m (i + 1) e)
  unfolding sum
  sum_next h l = ap (sum held_size) (rows_next h l)

  pub sum_none : e ≤ i → sum held_size (rows_from m i e) ≡ 0
  unfolding sum
  sum_none h = ap (sum held_size) (rows_none h)
