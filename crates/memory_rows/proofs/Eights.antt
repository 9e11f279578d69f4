-- Rows moved by eights: what a block of them becomes, and the turns of the two loops.
use Rattle.basics.proofs.Kit.{◌≡◌, refl, ap, ◌∙◌, subst, ⊎_elim, List, ℕ, ◌+◌, ◌*◌, ◌≤◌, ◌<◌, ◌-◌, length, get_or, arith}
use Rattle.memory_bytes.specs.Bytes.{bytes, Apart, Wrote}
use Rattle.memory_bytes.proofs.Bytes.{length_bytes, get_d_bytes, le2_cong, le4_cong, le2_below, le4_below, bytes_above}
use Rattle.basics.proofs.Tabs.{lt_or_ge}
use Rattle.memory_layout.specs.Places.{keys_at, refs_at, states_at}
use Rattle.memory_rows.specs.Cells.{SameCells, ColumnsOnly, ColumnsFit, EightFits, EightOf, EightPut, RowsRaised, RowsLowered}
use Rattle.memory_rows.specs.declared.Eight.{Eight}
use Rattle.memory_rows.proofs.Moving.{cells_then, three}

-- ---- a block written

-- the n bytes of m' from a on are those of m₀ from b on, and no other byte differs from m
record Copied (m₀ m m' : List ℕ) (b a n : ℕ) : Type 0 where
  apart : Apart m m' a n
  byte : (u : ℕ) → u < n → get_or m' (a + u) 0 ≡ get_or m₀ (b + u) 0

copied : (m₀ : List ℕ) (b n : ℕ) {m m' xs : List ℕ} {a : ℕ} → xs ≡ bytes m₀ b n → Wrote m m' a xs → Copied m₀ m m' b a n
copied m₀ b n {m} {m'} {xs} {a} e w =
    let v : Wrote m m' a (bytes m₀ b n) = subst (Wrote m m' a) e w in
    let l = length_bytes m₀ b n in
    record { apart = subst (Apart m m' a) l v.apart; byte = λ u h. v.here u (omega arith) ∙ get_d_bytes m₀ b n u h }

-- eight rows, a block in each column
module _ {m₀ m m1 m2 m3 : List ℕ} {c i k a4 a2 a1 : ℕ} (e4 : a4 ≡ keys_at c) (e2 : a2 ≡ refs_at c) (e1 : a1 ≡ states_at c) (l : k + 8 ≤ c)
    (w4 : Copied m₀ m m1 (keys_at c + i * 4) (a4 + k * 4) 32) (w2 : Copied m₀ m1 m2 (refs_at c + i * 2) (a2 + k * 2) 16)
    (w1 : Copied m₀ m2 m3 (states_at c + i) (a1 + k) 8) where
  eight_put : EightPut m₀ m m3 c i k
  eight_put =
      let t = three c k (k + 8) w4.apart w2.apart w1.apart (omega arith) (omega arith) (omega arith) (omega arith) (omega arith) (omega arith) (omega arith) in
      record {
        only = t.only;
        here = λ j n f h q. record {
          key = le4_below w1.apart (keys_at c + n * 4) (omega arith) ∙ le4_below w2.apart (keys_at c + n * 4) (omega arith)
              ∙ le4_cong m₀ m1 (keys_at c + j * 4) (keys_at c + n * 4) (λ u p. ap (λ (z : ℕ). get_or m1 z 0) (omega arith)
              ∙ w4.byte ((j - i) * 4 + u) (omega arith) ∙ ap (λ (z : ℕ). get_or m₀ z 0) (omega arith));
          ref = le2_below w1.apart (refs_at c + n * 2) (omega arith)
              ∙ le2_cong m₀ m2 (refs_at c + j * 2) (refs_at c + n * 2) (λ u p. ap (λ (z : ℕ). get_or m2 z 0) (omega arith)
              ∙ w2.byte ((j - i) * 2 + u) (omega arith) ∙ ap (λ (z : ℕ). get_or m₀ z 0) (omega arith));
          state = ap (λ (z : ℕ). get_or m3 z 0) (omega arith) ∙ w1.byte (j - i) (omega arith) ∙ ap (λ (z : ℕ). get_or m₀ z 0) (omega arith);
        };
        before = t.before;
        behind = t.behind;
      }

-- rows that were taken are whole
pub taken_fits : (m : List ℕ) (c i : ℕ) {rows : Eight} → EightOf m c i rows → EightFits rows
taken_fits m c i o =
    record {
      keys = ap length o.keys ∙ length_bytes m (keys_at c + i * 4) 32;
      refs = ap length o.refs ∙ length_bytes m (refs_at c + i * 2) 16;
      states = ap length o.states ∙ length_bytes m (states_at c + i) 8;
    }

-- rows that were taken from m₀ are given
pub given : {m m1 m2 m3 : List ℕ} {c k a4 a2 a1 : ℕ} (rows : Eight) → a4 ≡ keys_at c → a2 ≡ refs_at c → a1 ≡ states_at c → k + 8 ≤ c
    → Wrote m m1 (a4 + k * 4) rows.keys → Wrote m1 m2 (a2 + k * 2) rows.refs → Wrote m2 m3 (a1 + k) rows.states
    → (m₀ : List ℕ) (i : ℕ) → EightOf m₀ c i rows → EightPut m₀ m m3 c i k
given {c = c} rows e4 e2 e1 l w4 w2 w1 m₀ i o =
    eight_put e4 e2 e1 l (copied m₀ (keys_at c + i * 4) 32 o.keys w4) (copied m₀ (refs_at c + i * 2) 16 o.refs w2) (copied m₀ (states_at c + i) 8 o.states w1)

-- rows are copied from one place to the other
pub copied_eight : {m m1 m2 m3 : List ℕ} {c i k a4 a2 a1 : ℕ} → a4 ≡ keys_at c → a2 ≡ refs_at c → a1 ≡ states_at c → i + 8 ≤ c → k + 8 ≤ c
    → Wrote m m1 (a4 + k * 4) (bytes m (a4 + i * 4) 32) → Wrote m1 m2 (a2 + k * 2) (bytes m1 (a2 + i * 2) 16) → Wrote m2 m3 (a1 + k) (bytes m2 (a1 + i) 8)
    → EightPut m m m3 c i k
copied_eight {m} {m1} {m2} {m3} {c} {i} {k} {a4} {a2} {a1} e4 e2 e1 h l w4 w2 w1 =
    let p4 : Copied m m m1 (keys_at c + i * 4) (a4 + k * 4) 32 = copied m (keys_at c + i * 4) 32 (ap (λ (z : ℕ). bytes m (z + i * 4) 32) e4) w4 in
    let p2 : Copied m m1 m2 (refs_at c + i * 2) (a2 + k * 2) 16 =
    copied m (refs_at c + i * 2) 16 (ap (λ (z : ℕ). bytes m1 (z + i * 2) 16) e2 ∙ bytes_above p4.apart (refs_at c + i * 2) 16 (omega arith)) w2 in
    let p1 : Copied m m2 m3 (states_at c + i) (a1 + k) 8 =
    copied m (states_at c + i) 8 (ap (λ (z : ℕ). bytes m2 (z + i) 8) e1 ∙ bytes_above p2.apart (states_at c + i) 8 (omega arith)
    ∙ bytes_above p4.apart (states_at c + i) 8 (omega arith)) w1 in
    eight_put e4 e2 e1 l p4 p2 p1

-- ---- one change after the other

only_then : {m m1 m2 : List ℕ} {c : ℕ} → ColumnsOnly m m1 c → ColumnsOnly m1 m2 c → ColumnsOnly m m2 c
only_then p q = record { size = q.size ∙ p.size; below = λ b h. q.below b h ∙ p.below b h; above = λ b h. q.above b h ∙ p.above b h }

cells_self : (m : List ℕ) (c j : ℕ) → SameCells m m c j j
cells_self m c j = record { key = refl; ref = refl; state = refl }

only_self : (m : List ℕ) (c : ℕ) → ColumnsOnly m m c
only_self m c = record { size = refl; below = λ b h. refl; above = λ b h. refl }

-- the columns have room after a change too
pub fit_then : {m m' : List ℕ} {c : ℕ} → ColumnsFit m c → ColumnsOnly m m' c → ColumnsFit m' c
fit_then f o = record { most = f.most; long = omega (arith, f.long, o.size) }

-- ---- up: the rows from row k up to row top are one further up, those up to row k where they were

pub record Raising (m m' : List ℕ) (c i n top k : ℕ) : Type 0 where
  pub low : i < k
  pub high : k ≤ top
  pub most : top ≤ n
  pub least : n ≤ top + 7
  pub only : ColumnsOnly m m' c
  pub rest : (j : ℕ) → j ≤ k → SameCells m m' c j j
  pub moved : (j : ℕ) → k ≤ j → j < top → SameCells m m' c j (j + 1)

pub raising_start : (m : List ℕ) (c i n top : ℕ) → i < top → top ≤ n → n ≤ top + 7 → Raising m m c i n top top
raising_start m c i n top a b d =
    record {
      low = a;
      high = omega arith;
      most = b;
      least = d;
      only = only_self m c;
      rest = λ j h. cells_self m c j;
      moved = λ j h g. absurd (omega arith);
    }

pub raising_iteration : {m m1 m2 : List ℕ} {c i n top k : ℕ} → Raising m m1 c i n top k → n < c → i + 8 < k → EightPut m1 m1 m2 c (k - 8) (k - 8 + 1)
    → Raising m m2 c i n top (k - 8)
raising_iteration {m} {m1} {m2} {c} {i} {n} {top} {k} s l h p =
    let low = s.low in
    let high = s.high in
    let most = s.most in
    record {
      low = omega arith;
      high = omega arith;
      most = most;
      least = s.least;
      only = only_then s.only p.only;
      rest = λ j g. cells_then (s.rest j (omega arith)) (p.before j (omega arith));
      moved = λ j f g. ⊎_elim
          (λ (q : j < k). cells_then (s.rest j (omega arith)) (p.here j (j + 1) f (omega arith) (omega arith)))
          (λ (q : k ≤ j). cells_then (s.moved j q g) (p.behind (j + 1) (omega arith) (omega arith)))
          (lt_or_ge j k);
    }

pub raising_end : {m m1 m2 m3 : List ℕ} {c i n top k : ℕ} → Raising m m1 c i n top k → i + 8 ≤ n → n < c → k ≤ i + 8 → EightPut m m1 m2 c i (i + 1)
    → EightPut m m2 m3 c (n - 8) (n - 7) → RowsRaised m m3 c i n
raising_end {m} {m1} {m2} {m3} {c} {i} {n} {top} {k} s d l h p z =
    let low = s.low in
    let high = s.high in
    let least = s.least in
    record {
      only = only_then (only_then s.only p.only) z.only;
      before = λ j g. cells_then (cells_then (s.rest j (omega arith)) (p.before j (omega arith))) (z.before j (omega arith));
      moved = λ j f g. ⊎_elim
          (λ (q : j < n - 8). cells_then
          (⊎_elim (λ (r : j < i + 8). p.here j (j + 1) f r (omega arith)) (λ (r : i + 8 ≤ j). cells_then (s.moved j (omega arith) (omega arith))
          (p.behind (j + 1) (omega arith) (omega arith))) (lt_or_ge j (i + 8)))
          (z.before (j + 1) (omega arith)))
          (λ (q : n - 8 ≤ j). z.here j (j + 1) q (omega arith) (omega arith))
          (lt_or_ge j (n - 8));
    }

-- ---- down: the rows behind row low are one further down as far as row k, those from row k on where they were

pub record Lowering (m m' : List ℕ) (c i n low k : ℕ) : Type 0 where
  pub least : i ≤ low
  pub most : low ≤ i + 7
  pub high : low ≤ k
  pub inside : k + 2 ≤ n
  pub only : ColumnsOnly m m' c
  pub before : (j : ℕ) → j < i → SameCells m m' c j j
  pub rest : (j : ℕ) → k ≤ j → j < c → SameCells m m' c j j
  pub moved : (j : ℕ) → low ≤ j → j < k → SameCells m m' c (j + 1) j

pub lowering_start : (m : List ℕ) (c i n low : ℕ) → i ≤ low → low ≤ i + 7 → low + 2 ≤ n → Lowering m m c i n low low
lowering_start m c i n low a b d =
    record {
      least = a;
      most = b;
      high = omega arith;
      inside = d;
      only = only_self m c;
      before = λ j h. cells_self m c j;
      rest = λ j h g. cells_self m c j;
      moved = λ j h g. absurd (omega arith);
    }

pub lowering_iteration : {m m1 m2 : List ℕ} {c i n low k : ℕ} → Lowering m m1 c i n low k → n ≤ c → k + 9 < n → EightPut m1 m1 m2 c (k + 1) k
    → Lowering m m2 c i n low (k + 8)
lowering_iteration {m} {m1} {m2} {c} {i} {n} {low} {k} s l h p =
    let least = s.least in
    let high = s.high in
    record {
      least = least;
      most = s.most;
      high = omega arith;
      inside = omega arith;
      only = only_then s.only p.only;
      before = λ j g. cells_then (s.before j g) (p.before j (omega arith));
      rest = λ j f g. cells_then (s.rest j (omega arith) g) (p.behind j f g);
      moved = λ j f g. ⊎_elim
          (λ (q : j < k). cells_then (s.moved j f q) (p.before j q))
          (λ (q : k ≤ j). cells_then (s.rest (j + 1) (omega arith) (omega arith)) (p.here (j + 1) j (omega arith) (omega arith) (omega arith)))
          (lt_or_ge j k);
    }

pub lowering_end : {m m1 m2 m3 : List ℕ} {c i n low k : ℕ} → Lowering m m1 c i n low k → i + 9 ≤ n → n ≤ c → n ≤ k + 9 → EightPut m m1 m2 c (i + 1) i
    → EightPut m m2 m3 c (n - 8) (n - 9) → RowsLowered m m3 c i n
lowering_end {m} {m1} {m2} {m3} {c} {i} {n} {low} {k} s d l h p z =
    let most = s.most in
    record {
      only = only_then (only_then s.only p.only) z.only;
      before = λ j g. cells_then (cells_then (s.before j g) (p.before j g)) (z.before j (omega arith));
      moved = λ j f g. ⊎_elim
          (λ (q : j < n - 9). cells_then
          (⊎_elim (λ (r : j < i + 8). p.here (j + 1) j (omega arith) (omega arith) (omega arith)) (λ (r : i + 8 ≤ j). cells_then (s.moved j (omega arith) (omega arith))
          (p.behind j r (omega arith))) (lt_or_ge j (i + 8)))
          (z.before j q))
          (λ (q : n - 9 ≤ j). z.here (j + 1) j (omega arith) (omega arith) (omega arith))
          (lt_or_ge j (n - 9));
    }
