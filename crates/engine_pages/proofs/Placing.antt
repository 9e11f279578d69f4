-- Placing, by place: the model's walks from the back and from the front.
use Rattle.basics.proofs.Kit.{◌≡◌, refl, sym, ap, ◌∙◌, Bool, true, false, cond, some, none, Option, Option·map, List, [], ◌∷◌, ◌++◌, append_assoc, ℕ, suc, ◌≤◌, ◌<◌, zero, leb, eqb, take}
use Rattle.basics.proofs.Kit.{drop, take-append-drop, lt-ltb, le-ltb, eq-eqb, ne_eqb, arith}
use Rattle.basics.specs.Basics.{if'◌then◌else◌}
use Rattle.block_forms.specs.Tuple.{Tuple}
use Rattle.model.specs.State.{Held, Page}
use Rattle.model.specs.Rules.{after, grown, entering, fresh, without_pending, place_after, place_front, place}
use Rattle.basics.specs.Lists.{insert_at, last_index}
use Rattle.basics.proofs.Parts.{take_snoc}
use Rattle.memory_pages.specs.Spots.{key_up_to}
use Rattle.engine_pages.specs.Pages.{swapped}
use Rattle.engine_pages.specs.Spots.{placed_on}

-- ---- within a page

-- one place later than p, if p is a place; else 1 if the first tuple passes
unfoldable past : Bool → ℕ → ℕ
past b n = elim n [ zero ↦ cond b 1 0 | suc k ↦ suc (suc k) ]

unfoldable spotted : ℕ → Held → List Held → Option (List Held)
spotted zero x ys = none
spotted (suc j) x ys = some (insert_at (suc j) x ys)

unfoldable after_step : Bool → Held → Held → List Held → Option (List Held) → Option (List Held)
after_step b y x ys o = elim o [ some zs ↦ some (y ∷ zs) | none ↦ if' b then some (y ∷ x ∷ ys) else none ]

after_step_lem : (b : Bool) (y x : Held) (ys : List Held) (n : ℕ) → after_step b y x ys (spotted n x ys) ≡ spotted (past b n) x (y ∷ ys)
unfolding after_step spotted past if'◌then◌else◌
after_step_lem b y x ys (suc n) = refl
after_step_lem true y x ys zero = refl
after_step_lem false y x ys zero = refl

after_at : (x : Held) (ys : List Held) → after x ys ≡ spotted (last_index (key_up_to x.tuple.key) ys) x ys
unfolding after last_index spotted after_step past
after_at x [] = refl
after_at x (y ∷ ys) =
    ap (after_step (leb y.tuple.key x.tuple.key) y x ys) (after_at x ys)
    ∙ after_step_lem (leb y.tuple.key x.tuple.key) y x ys (last_index (key_up_to x.tuple.key) ys)

after_none : (x : Held) (ys : List Held) → last_index (key_up_to x.tuple.key) ys ≡ 0 → after x ys ≡ none
unfolding spotted
after_none x ys e = after_at x ys ∙ ap (λ (n : ℕ). spotted n x ys) e

after_some : (x : Held) (ys : List Held) (j : ℕ) → last_index (key_up_to x.tuple.key) ys ≡ suc j → after x ys ≡ some (insert_at (suc j) x ys)
unfolding spotted
after_some x ys j e = after_at x ys ∙ ap (λ (n : ℕ). spotted n x ys) e

-- ---- over the pages, from the back

unfoldable place_step : Bool → Page → List Page → Option (List Held) → Option (List Page) → Option (List Page)
place_step b p ps a o = elim o [ some qs ↦ some (p ∷ qs) | none ↦ if' b then Option·map (λ ts. grown p ts ++ ps) a else none ]

place_cons : (t : ℕ) (x : Tuple) (p : Page) (ps : List Page)
    → place_after t x (p ∷ ps) ≡ place_step (eqb p.table t) p ps (after (entering p x) p.tuples) (place_after t x ps)
unfolding place_after place_step
place_cons t x p ps = refl

entering_key : (p : Page) (x : Tuple) → (entering p x).tuple.key ≡ x.key
unfolding entering
entering_key p x = refl

module _ (t k : ℕ) (x : Tuple) (ek : x.key ≡ k) (p : Page) (ps : List Page) (n : place_after t x ps ≡ none) where
  pub other_table : (p.table ≡ t → ⊥) → place_after t x (p ∷ ps) ≡ none
  unfolding place_step if'◌then◌else◌
  other_table e =
      place_cons t x p ps
      ∙ ap (place_step (eqb p.table t) p ps (after (entering p x) p.tuples)) n
      ∙ ap (λ (b : Bool). place_step b p ps (after (entering p x) p.tuples) none) (ne_eqb _ _ e)

  pub no_key : p.table ≡ t → last_index (key_up_to k) p.tuples ≡ 0 → place_after t x (p ∷ ps) ≡ none
  unfolding place_step if'◌then◌else◌
  no_key e z =
      let z1 : last_index (key_up_to (entering p x).tuple.key) p.tuples ≡ 0 = ap (λ (q : ℕ). last_index (key_up_to q) p.tuples) (entering_key p x ∙ ek) ∙ z in
      place_cons t x p ps
      ∙ (λ i. place_step (eq-eqb _ _ e i) p ps (after_none (entering p x) p.tuples z1 i) (n i))

  pub on_page : (j : ℕ) → p.table ≡ t → last_index (key_up_to k) p.tuples ≡ j → 0 < j → place_after t x (p ∷ ps) ≡ some (placed_on x j p ++ ps)
  unfolding place_step if'◌then◌else◌ placed_on
  on_page zero e z h = absurd (omega arith)
  on_page (suc j) e z h =
      let z1 : last_index (key_up_to (entering p x).tuple.key) p.tuples ≡ suc j = ap (λ (q : ℕ). last_index (key_up_to q) p.tuples) (entering_key p x ∙ ek) ∙ z in
      place_cons t x p ps
      ∙ (λ i. place_step (eq-eqb _ _ e i) p ps (after_some (entering p x) p.tuples j z1 i) (n i))

pub behind : (t : ℕ) (x : Tuple) (ps qs rs : List Page) → place_after t x qs ≡ some rs → place_after t x (ps ++ qs) ≡ some (ps ++ rs)
unfolding place_step
behind t x [] qs rs e = e
behind t x (p ∷ ps) qs rs e =
    place_cons t x p (ps ++ qs)
    ∙ ap (place_step (eqb p.table t) p (ps ++ qs) (after (entering p x) p.tuples)) (behind t x ps qs rs e)

unfoldable chosen : List Page → Option (List Page) → List Page
chosen qs o = elim o [ some ps ↦ ps | none ↦ qs ]

pub place_after_lem : (t : ℕ) (x : Tuple) (ps qs : List Page) → place_after t x ps ≡ some qs → place t x ps ≡ qs
unfolding place chosen
place_after_lem t x ps qs e = ap (chosen (place_front t x ps)) e

pub place_front_lem : (t : ℕ) (x : Tuple) (ps : List Page) → place_after t x ps ≡ none → place t x ps ≡ place_front t x ps
unfolding place chosen
place_front_lem t x ps e = ap (chosen (place_front t x ps)) e

-- page i is found, and x goes on it
pub place_on : (t k : ℕ) (x : Tuple) (ps : List Page) (i j : ℕ) (q : Page) → x.key ≡ k → drop i ps ≡ q ∷ drop (suc i) ps
    → place_after t x (drop (suc i) ps) ≡ none → q.table ≡ t → last_index (key_up_to k) q.tuples ≡ j → 0 < j
    → place t x ps ≡ swapped i (placed_on x j q) ps
unfolding swapped
place_on t k x ps i j q ek ed n et ea h =
    let h1 : place_after t x (drop i ps) ≡ some (placed_on x j q ++ drop (suc i) ps) =
    ap (place_after t x) ed ∙ on_page t k x ek q (drop (suc i) ps) n j et ea h in
    place_after_lem t x ps _ (ap (place_after t x) (sym (take-append-drop i ps)) ∙ behind t x (take i ps) (drop i ps) _ h1)

-- ---- from the front

module _ (t : ℕ) (x : Tuple) (q : Page) (qs : List Page) where
  front_lower : q.table < t → place_front t x (q ∷ qs) ≡ q ∷ place_front t x qs
  unfolding place_front if'◌then◌else◌
  front_lower h = simp (lt-ltb q.table t h)

  front_same : q.table ≡ t → place_front t x (q ∷ qs) ≡ placed_on x 0 q ++ qs
  unfolding place_front if'◌then◌else◌ placed_on
  front_same e =
      let le : t ≤ q.table = omega arith in
      simp (le-ltb q.table t le, eq-eqb q.table t e)

  front_higher : t < q.table → place_front t x (q ∷ qs) ≡ fresh t (without_pending x ∷ []) ∷ (q ∷ qs)
  unfolding place_front if'◌then◌else◌
  front_higher h =
      let le : t ≤ q.table = omega arith in
      simp (le-ltb q.table t le, ne_eqb q.table t (λ e. omega arith))

module _ (t : ℕ) (x : Tuple) (ps : List Page) (i : ℕ) (q : Page) (ed : drop i ps ≡ q ∷ drop (suc i) ps)
    (inv : place_front t x ps ≡ take i ps ++ place_front t x (drop i ps)) where
  pub front_iteration : q.table < t → place_front t x ps ≡ take (suc i) ps ++ place_front t x (drop (suc i) ps)
  front_iteration h =
      inv ∙ ap (λ (z : List Page). take i ps ++ z) (ap (place_front t x) ed ∙ front_lower t x q (drop (suc i) ps) h)
      ∙ sym (append_assoc (take i ps) (q ∷ []) (place_front t x (drop (suc i) ps)))
      ∙ ap (λ (z : List Page). z ++ place_front t x (drop (suc i) ps)) (sym (take_snoc ps i q ed))

  pub front_on : q.table ≡ t → place_front t x ps ≡ swapped i (placed_on x 0 q) ps
  unfolding swapped
  front_on h = inv ∙ ap (λ (z : List Page). take i ps ++ z) (ap (place_front t x) ed ∙ front_same t x q (drop (suc i) ps) h)

  pub front_new : t < q.table → place_front t x ps ≡ take i ps ++ fresh t (without_pending x ∷ []) ∷ drop i ps
  front_new h =
      inv ∙ ap (λ (z : List Page). take i ps ++ z)
      (ap (place_front t x) ed ∙ front_higher t x q (drop (suc i) ps) h ∙ ap (λ (z : List Page). fresh t (without_pending x ∷ []) ∷ z) (sym ed))

pub front_last : (t : ℕ) (x : Tuple) (ps : List Page) (i : ℕ) → drop i ps ≡ [] → place_front t x ps ≡ take i ps ++ place_front t x (drop i ps)
    → place_front t x ps ≡ take i ps ++ fresh t (without_pending x ∷ []) ∷ drop i ps
unfolding place_front
front_last t x ps i e inv =
    inv ∙ ap (λ (z : List Page). take i ps ++ place_front t x z) e ∙ ap (λ (z : List Page). take i ps ++ fresh t (without_pending x ∷ []) ∷ z) (sym e)
