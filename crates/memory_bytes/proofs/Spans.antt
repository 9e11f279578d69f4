-- Where the numbers that are a key stand: what the searches find of them, and one turn of each loop that looks for the span of them.
use Rattle.basics.proofs.Kit.{◌≡◌, refl, sym, ap, ◌∙◌, ⊎_elim, Bool, true, false, ◌&&◌, cond, List, ℕ, ◌+◌, ◌*◌, ◌≤◌, ◌<◌, ◌-◌, eqb, eqb-true, ne_eqb, eqb-false, arith}
use Rattle.basics.specs.Basics.{any}
use Rattle.memory_bytes.specs.Columns.{equals, Covers, Grouped}
use Rattle.basics.specs.Lists.{tab, first_index, last_index}
use Rattle.memory_bytes.specs.Bytes.{le4, column4}
use Rattle.basics.proofs.Tabs.{lt_or_ge, length_tab, tab_within}
use Rattle.basics.proofs.Searches.{none_tab, tab_none_at}
use Rattle.basics.proofs.Found.{first_most, first_before, last_most, last_behind}

-- ---- the first one that is the key, or the end; from it to the last one all of them stand

pub first_in : (g : ℕ → ℕ) (key s e : ℕ) {a : ℕ} → s ≤ e → a ≡ s + first_index (equals key) (tab g s (e - s)) → a ≤ e
first_in g key s e h ea = omega (arith, first_most (equals key) 0 (tab g s (e - s)), length_tab g s (e - s))

pub found_covers : (g : ℕ → ℕ) (key s e a b : ℕ) → s ≤ e → a ≡ s + first_index (equals key) (tab g s (e - s))
    → b ≡ a + last_index (equals key) (tab g a (e - a)) → Covers g key s e a b
found_covers g key s e a b h ea eb =
    let m1 = first_most (equals key) 0 (tab g s (e - s)) in
    let n1 = length_tab g s (e - s) in
    let m2 = last_most (equals key) 0 (tab g a (e - a)) in
    let n2 = length_tab g a (e - a) in
    record {
      low = omega arith;
      order = omega arith;
      high = omega arith;
      before = λ j x y. ap (equals key) (sym (tab_within g s (e - s) j 0 x (omega arith))) ∙ first_before (equals key) 0 (tab g s (e - s)) (j - s) (omega arith);
      behind = λ j x y. ap (equals key) (sym (tab_within g a (e - a) j 0 (omega arith) (omega arith)))
          ∙ last_behind (equals key) 0 (tab g a (e - a)) (j - a) (omega arith) (omega arith);
    }

-- ---- number by number

module _ {g : ℕ → ℕ} {key : ℕ} where
  -- nothing is looked at yet
  pub covers_none : (i : ℕ) → Covers g key i i i i
  covers_none i = record { low = omega arith; order = omega arith; high = omega arith; before = λ j x y. absurd (omega arith); behind = λ j x y. absurd (omega arith) }

  module _ {s e a b : ℕ} (c : Covers g key s e a b) where
    -- the same by other names
    pub covers_is : {s' e' : ℕ} → s' ≡ s → e' ≡ e → Covers g key s' e' a b
    covers_is p q =
        let l = c.low in
        let h = c.high in
        record { low = omega arith; order = c.order; high = omega arith; before = λ j x y. c.before j (omega arith) y; behind = λ j x y. c.behind j x (omega arith) }

    -- one before the others is the key, or is not
    pub down_here : 0 < s → {a' : ℕ} → a' ≡ s - 1 → Covers g key (s - 1) e a' b
    down_here h p =
        let l = c.low in
        let o = c.order in
        record { low = omega arith; order = omega arith; high = c.high; before = λ j x y. absurd (omega arith); behind = c.behind }

    pub down_past : 0 < s → (g (s - 1) ≡ key → ⊥) → Covers g key (s - 1) e a b
    down_past h n =
        let l = c.low in
        record {
          low = omega arith;
          order = c.order;
          high = c.high;
          before = λ j x y. ⊎_elim
              (λ (q : j < s). let p : s - 1 ≡ j = omega arith in ne_eqb (g j) key (λ w. n (ap g p ∙ w)))
              (λ (q : s ≤ j). c.before j q y)
              (lt_or_ge j s);
          behind = c.behind;
        }

    -- one behind the others is the key, or is not
    pub up_here : {b' : ℕ} → b' ≡ e + 1 → Covers g key s (e + 1) a b'
    up_here p =
        let o = c.order in
        let h = c.high in
        record { low = c.low; order = omega arith; high = omega arith; before = c.before; behind = λ j x y. absurd (omega arith) }

    pub up_past : (g e ≡ key → ⊥) → {b' : ℕ} → b' ≡ b → Covers g key s (e + 1) a b'
    up_past n p =
        let o = c.order in
        let h = c.high in
        record {
          low = c.low;
          order = omega arith;
          high = omega arith;
          before = c.before;
          behind = λ j x y. ⊎_elim
              (λ (q : j < e). c.behind j (omega arith) q)
              (λ (q : e ≤ j). let r : e ≡ j = omega arith in ne_eqb (g j) key (λ w. n (ap g r ∙ w)))
              (lt_or_ge j e);
        }

-- ---- group by group

module _ {g : ℕ → ℕ} {key s : ℕ} where
  pub grouped_none : (a : ℕ) → Grouped g key s s a s
  grouped_none a = record { found = λ n. absurd (n refl); high = omega arith; before = λ j x y z. absurd (omega arith); behind = λ j x y z. absurd (omega arith) }

  -- the group from t on, which may overlap the one before it
  module _ {k e t a b : ℕ} (p : Grouped g key s k a b) (low : s ≤ t) (on : t ≤ k) (all : k ≤ e) (top : t + 16 ≡ e) where
    iteration_by : (h z : Bool) → h ≡ any (equals key) (tab g t 16) → z ≡ eqb b s → Grouped g key s e (cond (h && z) t a) (cond h e b)
    iteration_by true true q w =
        let is : b ≡ s = eqb-true b s (sym w) in
        record {
          found = λ n. (low, (omega arith, sym q));
          high = omega arith;
          before = λ j x y z. p.behind j x (omega arith) (omega arith);
          behind = λ j x y z. absurd (omega arith);
        }
    iteration_by true false q w =
        let f = p.found (eqb-false b s (sym w)) in
        let h = p.high in
        record {
          found = λ n. (f.0, (omega arith, f.1.1));
          high = omega arith;
          before = λ j x y z. p.before j x y (omega arith);
          behind = λ j x y z. absurd (omega arith);
        }
    iteration_by false z q w =
        let h = p.high in
        let none : (j : ℕ) → k ≤ j → j < e → equals key (g j) ≡ false = λ j x y. tab_none_at (equals key) g t 16 (sym q) j (omega arith) (omega arith) in
        record {
          found = p.found;
          high = omega arith;
          before = λ j x y v. ⊎_elim (λ (u : j < k). p.before j x y u) (λ (u : k ≤ j). none j u v) (lt_or_ge j k);
          behind = λ j x y v. ⊎_elim (λ (u : j < k). p.behind j x y u) (λ (u : k ≤ j). none j u v) (lt_or_ge j k);
        }

    pub grouped_iteration : {h : Bool} {a' b' v : ℕ} → h ≡ any (equals key) (tab g t 16) → a' ≡ cond (h && eqb b s) t a → b' ≡ cond h v b → v ≡ e → Grouped g key s e a' b'
    grouped_iteration {h} q x y w = rw (x, y, w) (iteration_by h (eqb b s) q refl)

-- ---- the two groups looked at number by number

module _ (m : List ℕ) (base key : ℕ) {s e lo hi : ℕ} (p : Grouped (column4 m base) key s e lo hi) where
  -- there is none
  pub grouped_empty : s ≤ e → hi ≡ s → Covers (column4 m base) key s e e e
  grouped_empty h q =
      record { low = h; order = omega arith; high = omega arith; before = λ j x y. p.behind j x (omega arith) y; behind = λ j x y. absurd (omega arith) }

  in_group : (t j : ℕ) → t ≤ j → {v : Bool} → equals key (column4 m (base + t * 4) (j - t)) ≡ v → equals key (column4 m base j) ≡ v
  in_group t j h r = let q : base + j * 4 ≡ base + t * 4 + (j - t) * 4 = omega arith in ap (λ (z : ℕ). equals key (le4 m z)) q ∙ r

  pub grouped_covers : (hi ≡ s → ⊥) → {a b : ℕ} → Covers (column4 m (base + lo * 4)) key 0 16 a 16 → Covers (column4 m (base + (hi - 16) * 4)) key 0 16 0 b
      → Covers (column4 m base) key s e (lo + a) (hi - 16 + b)
  grouped_covers n {a} {b} c d =
      let f = p.found n in
      let h = p.high in
      let ca = c.order in
      let db = d.high in
      let before : (j : ℕ) → s ≤ j → j < lo + a → equals key (column4 m base j) ≡ false =
      λ j x y. ⊎_elim
      (λ (u : j < lo). p.before j x u (omega arith))
      (λ (u : lo ≤ j). in_group lo j u (c.before (j - lo) (omega arith) (omega arith)))
      (lt_or_ge j lo) in
      let behind : (j : ℕ) → hi - 16 + b ≤ j → j < e → equals key (column4 m base j) ≡ false =
      λ j x y. ⊎_elim
      (λ (u : j < hi). in_group (hi - 16) j (omega arith) (d.behind (j - (hi - 16)) (omega arith) (omega arith)))
      (λ (u : hi ≤ j). p.behind j (omega arith) u y)
      (lt_or_ge j hi) in
      record {
        low = omega arith;
        order = ⊎_elim
            (λ (u : hi - 16 + b < lo + a).
            let none = none_tab (equals key) (column4 m base) lo 16
            (λ j x y. ⊎_elim (λ (v : j < lo + a). before j (omega arith) v) (λ (v : lo + a ≤ j). behind j (omega arith) (omega arith)) (lt_or_ge j (lo + a))) in
            let z : ◌≡◌ {A = ℕ} 0 1 = ap (λ (t : Bool). cond t 0 1) (sym f.1.1 ∙ none) in absurd (omega arith))
            (λ (u : lo + a ≤ hi - 16 + b). u)
            (lt_or_ge (hi - 16 + b) (lo + a));
        high = omega arith;
        before = before;
        behind = behind;
      }
