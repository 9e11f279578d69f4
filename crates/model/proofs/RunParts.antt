-- What is given by each run, part by part: rows that give nothing are passed over, and a run is split off at its end.
use Rattle.basics.proofs.Kit.{◌≡◌, refl, sym, ap, ◌∙◌, subst, ap₂, ⊎_elim, true, false, List, [], ◌∷◌, ◌++◌, append_assoc, append-nil, ℕ, suc, ◌+◌, ◌≤◌, ◌<◌, ◌-◌, length, take, drop, get_or}
use Rattle.basics.proofs.Kit.{length-take, length-drop, drop_of_length-le, drop-cons, arith}
use Rattle.basics.proofs.Facts.{by, AllOf}
use Rattle.model.specs.Places.{Placed, same_key, placed, continues, runs, each_run}
use Rattle.basics.proofs.Elements.{all_append}
use Rattle.basics.proofs.Tabs.{lt_or_ge, all_between, all_behind}
use Rattle.basics.proofs.Parts.{parts}
use Rattle.model.proofs.Rows.{Entry, as_row}
use Rattle.model.proofs.RowAfter.{with_self, with_as, with_sym}

-- ---- of one key

-- of one key with y: the same as y to every other
pub same_as : (y x z : Entry) → same_key y x ≡ true → same_key x z ≡ same_key y z
same_as y x z h = with_as (as_row y) (as_row x) (as_row z) h

pub same_self : (x : Entry) → same_key x x ≡ true
same_self x = with_self (as_row x)

-- w is not of the key of y and x is: they are of different keys
pub same_not : (y w x : Entry) → same_key y w ≡ false → same_key y x ≡ true → same_key w x ≡ false
same_not y w x a b = with_sym (as_row x) (as_row w) (with_as (as_row y) (as_row x) (as_row w) b ∙ a)

-- the first of them is not of the key of y
abbrev pub Ends : Entry → List Entry → Type 0
Ends y [] = Unit {0}
Ends y (z ∷ zs) = same_key y z ≡ false

runs_more : (run : List Placed) (x : Placed) (xs : List Placed) → continues run x ≡ true → runs run (x ∷ xs) ≡ runs (run ++ x ∷ []) xs
unfolding runs
runs_more run x xs c = rw (c, runs)

continues_key : (run : List Placed) (w x : Placed) → continues run w ≡ true → same_key w.1 x.1 ≡ false → continues (run ++ w ∷ []) x ≡ false
unfolding continues
continues_key [] w x c s = s
continues_key (y ∷ ys) w x c s = sym (same_as y.1 w.1 x.1 c) ∙ s

-- G gives nothing of a run of dull rows
module _ {X : Type 0} (G : List Placed → List X) (Dull : Entry → Type 0) (nothing : (run : List Placed) → AllOf (λ x. Dull x.1) run → G run ≡ []) where
  -- ---- dull rows

  runs_end : (run : List Placed) (x : Placed) (xs : List Placed) → AllOf (λ y. Dull y.1) run → continues run x ≡ false
      → each_run G (runs run (x ∷ xs)) ≡ each_run G (runs (x ∷ []) xs)
  unfolding runs each_run
  runs_end run x xs a c = rw (c, runs, each_run, nothing run a)

  none_from : (run : List Placed) (i : ℕ) (xs : List Entry) → AllOf (λ y. Dull y.1) run → AllOf Dull xs → each_run G (runs run (placed i xs)) ≡ []
  unfolding placed
  none_from run i [] a b = unfold runs each_run in rw (nothing run a)
  none_from run i (x ∷ xs) a b =
      by (continues run (i, x))
      (λ c. ap (each_run G) (runs_more run (i, x) (placed (suc i) xs) c)
      ∙ none_from (run ++ (i, x) ∷ []) (suc i) xs (all_append _ run ((i, x) ∷ []) a (b.0, tt)) b.1)
      (λ c. runs_end run (i, x) (placed (suc i) xs) a c ∙ none_from ((i, x) ∷ []) (suc i) xs (b.0, tt) b.1)

  -- only dull rows are left
  runs_none : (i : ℕ) (xs : List Entry) → AllOf Dull xs → each_run G (runs [] (placed i xs)) ≡ []
  runs_none i xs a = none_from [] i xs tt a

  past_from : (run : List Placed) (i j : ℕ) (ws : List Entry) (w x : Entry) (ys : List Entry) → AllOf (λ y. Dull y.1) run → AllOf Dull ws
      → Dull w → same_key w x ≡ false → j ≡ i + suc (length ws)
      → each_run G (runs run (placed i (ws ++ w ∷ x ∷ ys))) ≡ each_run G (runs [] (placed j (x ∷ ys)))
  unfolding placed
  past_from run i j [] w x ys a b o s e =
      let p : Placed = (i, w) in
      let q : Placed = (suc i, x) in
      let z : suc i ≡ j = omega arith in
      let f : each_run G (runs (q ∷ []) (placed (suc (suc i)) ys)) ≡ each_run G (runs [] (placed j (x ∷ ys))) = ap (λ k. each_run G (runs ((k, x) ∷ []) (placed (suc k) ys))) z
      ∙ ap (each_run G) (sym (runs_more [] (j, x) (placed (suc j) ys) (unfold continues in refl))) in
      by (continues run p)
      (λ c. ap (each_run G) (runs_more run p (q ∷ placed (suc (suc i)) ys) c)
      ∙ runs_end (run ++ p ∷ []) q (placed (suc (suc i)) ys) (all_append _ run (p ∷ []) a (o, tt)) (continues_key run p q c s) ∙ f)
      (λ c. runs_end run p (q ∷ placed (suc (suc i)) ys) a c
      ∙ runs_end (p ∷ []) q (placed (suc (suc i)) ys) (o, tt) (continues_key [] p q (unfold continues in refl) s) ∙ f)
  past_from run i j (v ∷ ws) w x ys a b o s e =
      let rest = placed (suc i) (ws ++ w ∷ x ∷ ys) in
      by (continues run (i, v))
      (λ c. ap (each_run G) (runs_more run (i, v) rest c)
      ∙ past_from (run ++ (i, v) ∷ []) (suc i) j ws w x ys (all_append _ run ((i, v) ∷ []) a (b.0, tt)) b.1 o s (omega arith))
      (λ c. runs_end run (i, v) rest a c ∙ past_from ((i, v) ∷ []) (suc i) j ws w x ys (b.0, tt) b.1 o s (omega arith))

  -- dull rows up to w are passed over; x, behind w, is of another key
  runs_past : (i j : ℕ) (ws : List Entry) (w x : Entry) (ys : List Entry) → AllOf Dull ws → Dull w → same_key w x ≡ false → j ≡ i + suc (length ws)
      → each_run G (runs [] (placed i (ws ++ w ∷ x ∷ ys))) ≡ each_run G (runs [] (placed j (x ∷ ys)))
  runs_past i j ws w x ys a o s e = past_from [] i j ws w x ys tt a o s e

  -- ---- a run

  rest_from : (h : Placed) (acc : List Placed) (i j : ℕ) (xs ys : List Entry) → AllOf (λ x. same_key h.1 x ≡ true) xs → Ends h.1 ys
      → j ≡ i + length xs
      → each_run G (runs (h ∷ acc) (placed i (xs ++ ys))) ≡ G ((h ∷ acc) ++ placed i xs) ++ each_run G (runs [] (placed j ys))
  unfolding placed
  rest_from h acc i j [] [] a b e =
      unfold runs each_run in ap₂ (λ u v. G u ++ v) (sym (append-nil (h ∷ acc))) (sym (ap (λ z. z ++ []) (nothing [] tt)))
  rest_from h acc i j [] (y ∷ ys) a b e =
      let z : i ≡ j = omega arith in
      let c : continues (h ∷ acc) (i, y) ≡ false = unfold continues in b in
      runs_split h acc (i, y) (placed (suc i) ys) c
      ∙ ap₂ (λ u v. G u ++ v) (sym (append-nil (h ∷ acc)))
      (ap (λ k. each_run G (runs ((k, y) ∷ []) (placed (suc k) ys))) z
      ∙ ap (each_run G) (sym (runs_more [] (j, y) (placed (suc j) ys) (unfold continues in refl))))
    where
      runs_split : (h : Placed) (acc : List Placed) (x : Placed) (xs : List Placed) → continues (h ∷ acc) x ≡ false
          → each_run G (runs (h ∷ acc) (x ∷ xs)) ≡ G (h ∷ acc) ++ each_run G (runs (x ∷ []) xs)
      runs_split h acc x xs c = unfold runs each_run in rw (c, runs, each_run)
  rest_from h acc i j (x ∷ xs) ys a b e =
      let c : continues (h ∷ acc) (i, x) ≡ true = unfold continues in a.0 in
      ap (each_run G) (runs_more (h ∷ acc) (i, x) (placed (suc i) (xs ++ ys)) c)
      ∙ rest_from h (acc ++ (i, x) ∷ []) (suc i) j xs ys a.1 b (omega arith)
      ∙ ap (λ u. G u ++ each_run G (runs [] (placed j ys))) (append_assoc (h ∷ acc) ((i, x) ∷ []) (placed (suc i) xs))

  -- x and those behind it that have its key are the first run
  runs_first : (i j : ℕ) (x : Entry) (xs ys : List Entry) → AllOf (λ z. same_key x z ≡ true) xs → Ends x ys → j ≡ i + suc (length xs)
      → each_run G (runs [] (placed i ((x ∷ xs) ++ ys))) ≡ G (placed i (x ∷ xs)) ++ each_run G (runs [] (placed j ys))
  unfolding placed
  runs_first i j x xs ys a b e =
      ap (each_run G) (runs_more [] (i, x) (placed (suc i) (xs ++ ys)) (unfold continues in refl)) ∙ rest_from (i, x) [] (suc i) j xs ys a b (omega arith)

-- ---- by index

-- what G gives of the runs of xs from element i on, which stands at place p
abbrev pub given_from : {X : Type 0} → (List Placed → List X) → List Entry → ℕ → ℕ → List X
given_from G xs p i = each_run G (runs [] (placed p (drop i xs)))

module _ {X : Type 0} (G : List Placed → List X) (Dull : Entry → Type 0) (nothing : (run : List Placed) → AllOf (λ x. Dull x.1) run → G run ≡ [])
    (xs : List Entry) (d : Entry) where
  -- only dull rows are left
  pub from_none : (p i : ℕ) → ((j : ℕ) → i ≤ j → j < length xs → Dull (get_or xs j d)) → given_from G xs p i ≡ []
  from_none p i h = runs_none G Dull nothing p (drop i xs) (all_behind Dull xs d i h)

  -- dull rows up to row a, which is of another key than the one before it
  pub from_skip : (p q i a : ℕ) → i < a → a < length xs → ((j : ℕ) → i ≤ j → j < a → Dull (get_or xs j d))
      → same_key (get_or xs (a - 1) d) (get_or xs a d) ≡ false → q ≡ p + (a - i) → given_from G xs p i ≡ given_from G xs q a
  from_skip p q i a l u h s e =
      let b = a - 1 in
      let z : suc b ≡ a = omega arith in
      let ws = take (b - i) (drop i xs) in
      let t = length-take (b - i) (drop i xs) in
      let n = length-drop i xs in
      let c : drop i xs ≡ ws ++ get_or xs b d ∷ get_or xs a d ∷ drop (suc a) xs = parts xs i b (omega arith)
      ∙ ap (λ y. ws ++ y) (drop-cons xs b d (omega arith) ∙ ap (λ y. get_or xs b d ∷ y) (ap (λ k. drop k xs) z ∙ drop-cons xs a d u)) in
      ap (λ y. each_run G (runs [] (placed p y))) c
      ∙ runs_past G Dull nothing p q ws (get_or xs b d) (get_or xs a d) (drop (suc a) xs)
      (all_between Dull xs d i b (λ j x y v. h j x (omega arith))) (h b (omega arith) (omega arith)) s (omega arith)
      ∙ ap (λ y. each_run G (runs [] (placed q y))) (sym (drop-cons xs a d u))

  -- the run from row a up to row e
  pub from_first : (p q a e : ℕ) → a < e → e ≤ length xs → ((j : ℕ) → a < j → j < e → same_key (get_or xs a d) (get_or xs j d) ≡ true)
      → (e < length xs → same_key (get_or xs a d) (get_or xs e d) ≡ false) → q ≡ p + (e - a)
      → given_from G xs p a ≡ G (placed p (take (e - a) (drop a xs))) ++ given_from G xs q e
  from_first p q a e l u s o c =
      let x = get_or xs a d in
      let rest = take (e - suc a) (drop (suc a) xs) in
      let r = length-take (e - suc a) (drop (suc a) xs) in
      let n = length-drop (suc a) xs in
      let z : e - a ≡ suc (e - suc a) = omega arith in
      let f : take (e - a) (drop a xs) ≡ x ∷ rest = ap (λ y. take y (drop a xs)) z ∙ ap (take (suc (e - suc a))) (drop-cons xs a d (omega arith)) in
      ap (λ y. each_run G (runs [] (placed p y))) (parts xs a e (omega arith) ∙ ap (λ y. y ++ drop e xs) f)
      ∙ runs_first G Dull nothing p q x rest (drop e xs) (all_between _ xs d (suc a) e (λ j y z g. s j (omega arith) z)) ends (omega arith)
      ∙ ap (λ y. G (placed p y) ++ given_from G xs q e) (sym f)
    where
      ends : Ends (get_or xs a d) (drop e xs)
      ends = ⊎_elim (λ h. subst (Ends (get_or xs a d)) (sym (drop-cons xs e d h)) (o h)) (λ h. subst (Ends (get_or xs a d)) (sym (drop_of_length-le xs h)) tt) (lt_or_ge e (length xs))
