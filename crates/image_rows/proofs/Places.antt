-- Places in order: what `follows` is where the place rises, stays or falls; the first row. A place is table and key in one number.
use Rattle.basics.proofs.Kit.{◌≡◌, refl, sym, ◌∙◌, Bool, true, false, ◌&&◌, not, ◌||◌, List, ℕ, suc, ◌+◌, ◌%◌, ◌≤◌, ◌<◌, ◌/◌, ◌-◌, leb, eqb, ltb, get_or, le-leb, lt-ltb, le-ltb, lt-leb}
use Rattle.basics.proofs.Kit.{eqb-true, eq-eqb, ne_eqb, eqb-false, not-true, not-false, arith}
use Rattle.basics.specs.Basics.{if'◌then◌else◌, paired}
use Rattle.basics.proofs.Facts.{by}
use Rattle.block_forms.specs.Limits.{statement_limit}
use Rattle.image_rows.specs.Rows.{is_at, is_lower, owner_after, follows, starts_well}
use Rattle.image_rows.specs.Columns.{coded, coded_owner, row_at, rows_in}
use Rattle.basics.specs.Lists.{tab}
use Rattle.basics.proofs.Ands.{and_yes, and_no}
use Rattle.basics.proofs.Iterations.{tab_whole, pair_iteration, pair_stop}

abbrev B : ℕ
B = 4294967296

abbrev same : ℕ → ℕ → Bool
same p q = eqb (p / B) (q / B) && eqb (p % B) (q % B)

abbrev lower : ℕ → ℕ → Bool
lower p q = ltb (p / B) (q / B) || (eqb (p / B) (q / B) && ltb (p % B) (q % B))

module _ (p q : ℕ) where
  not_same : (p ≡ q → ⊥) → same p q ≡ false
  not_same h =
      by (eqb (p / B) (q / B))
      (λ e. let t = eqb-true (p / B) (q / B) e in rw (e, ne_eqb (p % B) (q % B) (λ d. h (omega arith))))
      (λ e. rw e)

  rises_lower : p < q → lower p q ≡ true
  rises_lower h =
      by (eqb (p / B) (q / B))
      (λ e. let t = eqb-true (p / B) (q / B) e in rw (le-ltb (p / B) (q / B) (omega arith), e, lt-ltb (p % B) (q % B) (omega arith)))
      (λ e. let t = eqb-false (p / B) (q / B) e in rw (lt-ltb (p / B) (q / B) (omega arith)))

  falls_not_lower : q < p → lower p q ≡ false
  falls_not_lower h =
      by (eqb (p / B) (q / B))
      (λ e. let t = eqb-true (p / B) (q / B) e in rw (le-ltb (p / B) (q / B) (omega arith), e, le-ltb (p % B) (q % B) (omega arith)))
      (λ e. let t = eqb-false (p / B) (q / B) e in rw (le-ltb (p / B) (q / B) (omega arith), e))

  stays_same : p ≡ q → same p q ≡ true
  stays_same h = rw (h, eq-eqb (q / B) (q / B) refl, eq-eqb (q % B) (q % B) refl)

pub unmarked : (m : ℕ) → eqb m 0 ≡ not (leb 1 m)
unmarked m =
    by (eqb m 0)
    (λ e. let t = eqb-true m 0 e in rw (e, lt-leb 1 m (omega arith)))
    (λ e. let t = eqb-false m 0 e in rw (e, le-leb 1 m (omega arith)))

-- which owner may follow which of the same key, by their codes
pub owner_follows : (o o' : ℕ) → owner_after (coded_owner o) (coded_owner o') ≡ (ltb 0 o' && (eqb o 0 || eqb ((o - 1) / statement_limit) ((o' - 1) / statement_limit)))
unfolding owner_after coded_owner if'◌then◌else◌
owner_follows o o' =
    by (eqb o 0)
    (λ e. by (eqb o' 0)
    (λ f. let t = eqb-true o' 0 f in rw (e, f, le-ltb 0 o' (omega arith)))
    (λ f. let t = eqb-false o' 0 f in rw (e, f, lt-ltb 0 o' (omega arith))))
    (λ e. by (eqb o' 0)
    (λ f. let t = eqb-true o' 0 f in rw (e, f, le-ltb 0 o' (omega arith)))
    (λ f. let t = eqb-false o' 0 f in rw (e, f, lt-ltb 0 o' (omega arith))))

module _ (p n o p' n' o' m : ℕ) where
  pub follows_rising : p < p' → follows (coded p n o 0) (coded p' n' o' m) ≡ eqb m 0
  unfolding follows is_at is_lower coded if'◌then◌else◌
  follows_rising h = rw (unmarked m, not_same p p' (λ e. omega arith), rises_lower p p' h)

  pub follows_falling : p' < p → follows (coded p n o 0) (coded p' n' o' m) ≡ false
  unfolding follows is_at is_lower coded if'◌then◌else◌
  follows_falling h = rw (not_same p p' (λ e. omega arith), falls_not_lower p p' h)

  pub follows_there : p ≡ p' → follows (coded p n o 0) (coded p' n' o' m) ≡ (ltb n n' && owner_after (coded_owner o) (coded_owner o'))
  unfolding follows is_at is_lower coded if'◌then◌else◌
  follows_there h = rw (stays_same p p' h)

-- ---- the first row

module _ (ps ns os ms : List ℕ) (n : ℕ) where
  pub rising_none : n ≡ 0 → (paired follows (rows_in ps ns os ms n) && starts_well (rows_in ps ns os ms n)) ≡ true
  unfolding rows_in paired starts_well
  rising_none e = rw e

  well : 0 < n → starts_well (rows_in ps ns os ms n) ≡ eqb (get_or ms 0 0) 0
  unfolding rows_in starts_well row_at coded
  well h = let e : n ≡ suc (n - 1) = omega arith in rw (e, unmarked (get_or ms 0 0))

  pub rising_marked : 0 < n → (get_or ms 0 0 ≡ 0 → ⊥) → (paired follows (rows_in ps ns os ms n) && starts_well (rows_in ps ns os ms n)) ≡ false
  rising_marked h m = rw (well h, ne_eqb (get_or ms 0 0) 0 m, and_no)

  pub rising_first : 0 < n → get_or ms 0 0 ≡ 0
      → (paired follows (rows_in ps ns os ms n) && starts_well (rows_in ps ns os ms n)) ≡ paired follows (tab (row_at ps ns os ms) 0 (n - 0))
  unfolding rows_in
  rising_first h m = rw (tab_whole (row_at ps ns os ms) n, well h, eq-eqb (get_or ms 0 0) 0 m, and_yes)

-- the mark of the first of two does not matter
pub follows_unmarked : (ps ns os ms : List ℕ) (i j : ℕ)
    → follows (coded (get_or ps i 0) (get_or ns i 0) (get_or os i 0) 0) (coded (get_or ps j 0) (get_or ns j 0) (get_or os j 0) (get_or ms j 0))
    ≡ follows (row_at ps ns os ms i) (row_at ps ns os ms j)
unfolding follows is_at is_lower row_at coded
follows_unmarked ps ns os ms i j = refl

-- ---- a turn: the test of row i after the one before it answers t

module _ (ps ns os ms : List ℕ) (i n : ℕ) (low : 1 ≤ i) (h : i < n) {whole t : Bool}
    (w : whole ≡ paired follows (tab (row_at ps ns os ms) (i - 1) (n - (i - 1))))
    (e : t ≡ follows (coded (get_or ps (i - 1) 0) (get_or ns (i - 1) 0) (get_or os (i - 1) 0) 0) (coded (get_or ps i 0) (get_or ns i 0) (get_or os i 0) (get_or ms i 0))) where
  tested : t ≡ follows (row_at ps ns os ms (i - 1)) (row_at ps ns os ms i)
  tested = e ∙ follows_unmarked ps ns os ms (i - 1) i

  pub rising_stop : not t ≡ true → false ≡ whole
  rising_stop k = sym (w ∙ pair_stop follows (row_at ps ns os ms) i n low h (sym tested ∙ not-true t k))

  pub rising_iteration : not t ≡ false → whole ≡ paired follows (tab (row_at ps ns os ms) (i + 1 - 1) (n - (i + 1 - 1)))
  rising_iteration k = let z : i + 1 - 1 ≡ i = omega arith in w ∙ rw z (pair_iteration follows (row_at ps ns os ms) i n low h (sym tested ∙ not-false t k))
