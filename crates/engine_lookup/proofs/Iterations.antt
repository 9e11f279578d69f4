-- Rows noted along a list: one by one, in parts, and past rows of other keys.
use Rattle.basics.proofs.Kit.{◌≡◌, refl, sym, ap, ◌∙◌, true, false, List, ◌∷◌, ℕ, suc, ◌+◌, ◌≤◌, ◌<◌, zero, ◌-◌, add-one, eqb, eq-eqb, ne_eqb, arith}
use Rattle.basics.specs.Basics.{if'◌then◌else◌}
use Rattle.model.specs.State.{Held}
use Rattle.memory_bytes.specs.Columns.{Covers}
use Rattle.basics.specs.Lists.{tab}
use Rattle.basics.proofs.Searches.{tab_next, tab_none}
use Rattle.memory_layout.specs.Flat.{Flat, row_in}
use Rattle.memory_rows.specs.Rows.{key_in}
use Rattle.engine_lookup.specs.Lookup.{note, notes, blank}
use Rattle.engine_lookup.specs.declared.Visibility.{Visibility}

-- the n rows from row i on, noted one after another
abbrev pub along : Flat → ℕ → ℕ → ℕ → ℕ → Visibility → Visibility
along f tx k i n l = notes tx k i (tab (row_in f) i n) l

module _ (tx k i : ℕ) (h : Held) (hs : List Held) (l : Visibility) where
  pub notes_on : eqb h.tuple.key k ≡ false → notes tx k i (h ∷ hs) l ≡ notes tx k (suc i) hs l
  unfolding notes if'◌then◌else◌
  notes_on e = rw e

  pub notes_here : eqb h.tuple.key k ≡ true → notes tx k i (h ∷ hs) l ≡ notes tx k (suc i) hs (note tx i h l)
  unfolding notes if'◌then◌else◌
  notes_here e = rw e

-- ---- turn by turn

module _ (f : Flat) (tx k i e : ℕ) (l : Visibility) where
  abbrev rest : ℕ → List Held
  rest j = tab (row_in f) j (e - j)

  step : i < e → (l1 : Visibility) → notes tx k i (row_in f i ∷ rest (i + 1)) l ≡ notes tx k (suc i) (rest (i + 1)) l1
      → notes tx k i (rest i) l ≡ notes tx k (i + 1) (rest (i + 1)) l1
  step h l1 q =
      ap (λ (z : List Held). notes tx k i z l) (tab_next (row_in f) i e h) ∙ q ∙ ap (λ (z : ℕ). notes tx k z (rest (i + 1)) l1) (sym (add-one i))

  pub iteration_here : i < e → (row_in f i).tuple.key ≡ k → along f tx k i (e - i) l ≡ along f tx k (i + 1) (e - (i + 1)) (note tx i (row_in f i) l)
  iteration_here h q = step h _ (notes_here tx k i (row_in f i) (rest (i + 1)) l (eq-eqb _ _ q))

  pub iteration_on : i < e → ((row_in f i).tuple.key ≡ k → ⊥) → along f tx k i (e - i) l ≡ along f tx k (i + 1) (e - (i + 1)) l
  iteration_on h q = step h _ (notes_on tx k i (row_in f i) (rest (i + 1)) l (ne_eqb _ _ q))

  pub iteration_end : e ≤ i → along f tx k i (e - i) l ≡ l
  unfolding notes
  iteration_end h = ap (λ (z : List Held). notes tx k i z l) (tab_none (row_in f) i e h)

-- ---- in parts

module _ (f : Flat) (tx k : ℕ) where
  notes_parts : (i a n : ℕ) (l : Visibility) → along f tx k i (a + n) l ≡ along f tx k (i + a) n (along f tx k i a l)
  unfolding notes
  notes_parts i zero n l =
      let e : 0 + n ≡ n = omega arith in
      let q : i + 0 ≡ i = omega arith in
      ap (λ (z : ℕ). along f tx k i z l) e ∙ sym (ap (λ (z : ℕ). along f tx k z n l) q)
  notes_parts i (suc a) n l =
      let e : suc a + n ≡ suc (a + n) = omega arith in
      let q : suc i + a ≡ i + suc a = omega arith in
      let l1 : Visibility = if' eqb (row_in f i).tuple.key k then note tx i (row_in f i) l else l in
      ap (λ (z : ℕ). along f tx k i z l) e
      ∙ notes_parts (suc i) a n l1
      ∙ ap (λ (z : ℕ). along f tx k z n (along f tx k (suc i) a l1)) q

  -- rows of other keys change nothing
  notes_past : (i n : ℕ) (l : Visibility) → ((j : ℕ) → i ≤ j → j < i + n → eqb (row_in f j).tuple.key k ≡ false) → along f tx k i n l ≡ l
  unfolding notes
  notes_past i zero l h = refl
  notes_past i (suc n) l h =
      notes_on tx k i (row_in f i) (tab (row_in f) (suc i) n) l (h i (omega arith) (omega arith))
      ∙ notes_past (suc i) n l (λ j a b. h j (omega arith) (omega arith))

-- the rows between which all with the key stand are enough
pub notes_covered : (f : Flat) (tx : ℕ) {k s e a b : ℕ} (l : Visibility) → Covers (key_in f) k s e a b
    → along f tx k a (b - a) l ≡ along f tx k s (e - s) l
notes_covered f tx {k} {s} {e} {a} {b} l c =
    let n1 : e - s ≡ (a - s) + (e - a) = omega (arith, c.low, c.order, c.high) in
    let n2 : e - a ≡ (b - a) + (e - b) = omega (arith, c.low, c.order, c.high) in
    let p1 : s + (a - s) ≡ a = omega (arith, c.low) in
    let p2 : a + (b - a) ≡ b = omega (arith, c.order) in
    let l1 : Visibility = along f tx k a (b - a) l in
    sym (ap (λ (z : ℕ). along f tx k s z l) n1
    ∙ notes_parts f tx k s (a - s) (e - a) l
    ∙ (λ i. along f tx k (p1 i) (n2 i) (notes_past f tx k s (a - s) l (λ j x y. c.before j x (omega arith)) i))
    ∙ notes_parts f tx k a (b - a) (e - b) l
    ∙ ap (λ (z : ℕ). along f tx k z (e - b) l1) p2
    ∙ notes_past f tx k b (e - b) l1 (λ j x y. c.behind j x (omega (arith, c.high))))

-- so starting there, with nothing seen, shows what all rows show
pub range_noted : (f : Flat) (tx : ℕ) {k s e a b : ℕ} {l none : Visibility} → l ≡ along f tx k a (b - a) none → none ≡ blank → Covers (key_in f) k s e a b
    → l ≡ along f tx k s (e - s) blank
range_noted f tx {k} {s} {e} {none = none} p q c = p ∙ notes_covered f tx none c ∙ ap (along f tx k s (e - s)) q
