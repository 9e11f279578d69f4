-- Runs of neighbours of one key: on rising tuples a run has all live rows of its key.
use Rattle.basics.proofs.Kit.{◌≡◌, refl, sym, ap, ◌∙◌, subst, ap₂, Bool, true, false, List, [], ◌∷◌, ◌++◌, append_assoc, append-nil, map, ℕ, suc, arith}
use Rattle.basics.specs.Basics.{if'◌then◌else◌, keep}
use Rattle.basics.proofs.Lists.{map_append}
use Rattle.basics.proofs.Facts.{by, lie, AllOf}
use Rattle.image_rows.specs.Rows.{Row, is_at}
use Rattle.model.specs.Rules.{is_removing, applied}
use Rattle.model.specs.Places.{Placed, row_of, placed, continues, runs, live_of}
pub use Rattle.model.specs.Transactions.{rows_in}
use Rattle.basics.proofs.Elements.{Pairs, all_mem, all_map, all_two, all_append, all_parts, pairs_parts, keep_append, keep_all, keep_none}
use Rattle.model.proofs.Rows.{Entry, live_rows, applied_is}
use Rattle.model.proofs.Placing.{Before}
use Rattle.model.proofs.RowAfter.{With, with_self, with_as, with_sym, at_split, at_join}

-- ---- the live rows of placed tuples

live_append : (a b : List Placed) → live_of (a ++ b) ≡ live_of a ++ live_of b
unfolding live_of if'◌then◌else◌
live_append [] b = refl
live_append (x ∷ a) b = by (is_removing x.1.1.pending) (λ h. rw (h, live_append a b)) (λ h. rw (h, live_append a b))

pub rows_append : (a b : List Placed) → rows_in (a ++ b) ≡ rows_in a ++ rows_in b
rows_append a b = ap (map (λ y. y.1)) (live_append a b) ∙ map_append (λ y. y.1) (live_of a) (live_of b)

pub rows_placed : (i : ℕ) (es : List Entry) → rows_in (placed i es) ≡ live_rows es
unfolding placed live_of live_rows if'◌then◌else◌
rows_placed i [] = refl
rows_placed i (e ∷ es) =
    by (is_removing e.1.pending) (λ h. rw h (rows_placed (suc i) es)) (λ h. rw h (ap (λ z. (e.0, applied e.1) ∷ z) (rows_placed (suc i) es)))

-- the key of a live row is its tuple's
rows_at : (t k : ℕ) (b : Bool) (xs : List Placed) → AllOf (λ x. is_at t k (row_of x) ≡ b) xs → AllOf (λ r. is_at t k r ≡ b) (rows_in xs)
unfolding live_of is_at if'◌then◌else◌
rows_at t k b [] a = tt
rows_at t k b (x ∷ xs) a =
    by (is_removing x.1.1.pending) (λ h. rw h (rows_at t k b xs a.1)) (λ h. rw h (ap (λ z. is_at t k (x.1.0, z)) (applied_is x.1.1) ∙ a.0, rows_at t k b xs a.1))

-- ---- runs of one key

-- x and z are of one table and key
abbrev Same : Placed → Placed → Bool
Same x z = With (row_of x) (row_of z)

-- tuples that rise: what stands behind one of another key is of another key
same_later : (y x z : Placed) → Before (row_of y) (row_of x) → Before (row_of x) (row_of z) → Same y x ≡ false → Same y z ≡ false
same_later y x z b c h =
    by (Same y z)
    (λ k. let s = at_split (row_of y).0 (row_of y).1.key (row_of z) k in
    let t : (row_of x).0 ≡ (row_of y).0 = omega (arith, b.0, c.0, s.0) in
    let v = b.1 (omega arith) in
    let w = c.1 (omega (arith, s.0)) in
    lie (sym h ∙ at_join (row_of y).0 (row_of y).1.key (row_of x) t (omega (arith, v.0, w.0, s.1))))
    (λ k. k)

unfoldable pub flat : List (List Placed) → List Placed
flat [] = []
flat (r ∷ rs) = r ++ flat rs

-- every run has all rows of ev at its key, and the later runs have none
abbrev pub Grouped : List Row → List (List Placed) → Type 0
Grouped ev [] = Unit {0}
Grouped ev (run ∷ rs) = AllOf (λ x. rows_in run ≡ keep (With (row_of x)) ev) run × AllOf (λ x. AllOf (λ q. With (row_of x) q ≡ false) (rows_in (flat rs))) run
    × Grouped ev rs

keep_same : (y x : Placed) (rs : List Row) → Same y x ≡ true → keep (With (row_of x)) rs ≡ keep (With (row_of y)) rs
keep_same y x rs h = let s = at_split (row_of y).0 (row_of y).1.key (row_of x) h in ap₂ (λ t k. keep (is_at t k) rs) s.0 s.1

-- a run, all of the key of y, and what stands behind it, none of that key
module _ (ev : List Row) (y : Placed) (run behind : List Placed) (same : AllOf (λ x. Same y x ≡ true) run) (other : AllOf (λ z. Same y z ≡ false) behind) where
  run_at : keep (With (row_of y)) (rows_in (run ++ behind)) ≡ rows_in run
  run_at =
      let f = With (row_of y) in
      ap (keep f) (rows_append run behind) ∙ keep_append f (rows_in run) (rows_in behind)
      ∙ ap₂ (λ a b. a ++ b) (keep_all f (rows_in run) (rows_at _ _ true run same)) (keep_none f (rows_in behind) (rows_at _ _ false behind other))
      ∙ append-nil (rows_in run)

  run_rows_lem : AllOf (λ x. keep (With (row_of x)) ev ≡ keep (With (row_of x)) (rows_in (run ++ behind))) run
      → AllOf (λ x. rows_in run ≡ keep (With (row_of x)) ev) run
  run_rows_lem h = all_two _ _ (λ x. rows_in run ≡ keep (With (row_of x)) ev)
      (λ x s e. sym (e ∙ keep_same y x (rows_in (run ++ behind)) s ∙ run_at)) run same h

  run_apart : (z : Placed) → Same y z ≡ false → AllOf (λ x. Same z x ≡ false) run
  run_apart z h = all_map _ _ (λ x s. with_sym (row_of x) (row_of z) (with_as (row_of y) (row_of x) (row_of z) s ∙ h)) run same

  behind_rows : AllOf (λ z. keep (With (row_of z)) ev ≡ keep (With (row_of z)) (rows_in (run ++ behind))) behind
      → AllOf (λ z. keep (With (row_of z)) ev ≡ keep (With (row_of z)) (rows_in behind)) behind
  behind_rows h = all_two (λ z. Same y z ≡ false) _ (λ z. keep (With (row_of z)) ev ≡ keep (With (row_of z)) (rows_in behind))
      (λ z d e. let f = With (row_of z) in
      e ∙ ap (keep f) (rows_append run behind) ∙ keep_append f (rows_in run) (rows_in behind)
      ∙ ap (λ a. a ++ keep f (rows_in behind)) (keep_none f (rows_in run) (rows_at _ _ false run (run_apart z d))))
      behind other h

  behind_apart : AllOf (λ x. AllOf (λ q. With (row_of x) q ≡ false) (rows_in behind)) run
  behind_apart = all_map _ _
      (λ x s. rows_at _ _ false behind (all_map (λ z. Same y z ≡ false) (λ z. Same x z ≡ false) (λ z d. with_as (row_of y) (row_of x) (row_of z) s ∙ d) behind other)) run same

-- tuples that rise
abbrev pub Risen : List Placed → Type 0
Risen xs = Pairs (λ a b. Before (row_of a) (row_of b)) xs

-- ev has no other rows at their keys
abbrev Complete : List Row → List Placed → Type 0
Complete ev xs = AllOf (λ x. keep (With (row_of x)) ev ≡ keep (With (row_of x)) (rows_in xs)) xs

group : (ev : List Row) (y : Placed) (run xs : List Placed) → AllOf (λ x. Same y x ≡ true) (y ∷ run) → Risen ((y ∷ run) ++ xs)
    → Complete ev ((y ∷ run) ++ xs) → Grouped ev (runs (y ∷ run) xs) × (flat (runs (y ∷ run) xs) ≡ (y ∷ run) ++ xs)
unfolding runs continues flat
group ev y run [] s r h = ((run_rows_lem ev y (y ∷ run) [] s tt (all_parts _ (y ∷ run) [] h).0, behind_apart ev y (y ∷ run) [] s tt, tt), refl)
group ev y run (x ∷ xs) s r h =
    by (Same y x)
    (λ c. let e : (y ∷ run) ++ x ∷ xs ≡ (y ∷ (run ++ x ∷ [])) ++ xs = sym (append_assoc (y ∷ run) (x ∷ []) xs) in
    let g = group ev y (run ++ x ∷ []) xs (all_append _ (y ∷ run) (x ∷ []) s (c, tt)) (subst Risen e r) (subst (Complete ev) e h) in
    rw (c, runs) (g.0, g.1 ∙ sym e))
    (λ c. let p = pairs_parts (λ a b. Before (row_of a) (row_of b)) (y ∷ run) (x ∷ xs) r in
    let b : AllOf (λ z. Before (row_of y) (row_of z)) (x ∷ xs) = p.2.0 in
    let o : AllOf (λ z. Same y z ≡ false) (x ∷ xs) = (c, all_map _ _ (λ z k. same_later y x z b.0 k c) xs p.1.0) in
    let q = all_parts _ (y ∷ run) (x ∷ xs) h in
    let g = group ev x [] xs (with_self (row_of x), tt) p.1 (behind_rows ev y (y ∷ run) (x ∷ xs) s o q.1) in
    rw (c, runs) (
      (
        run_rows_lem ev y (y ∷ run) (x ∷ xs) s o q.0,
        subst (λ l. AllOf (λ x. AllOf (λ q. With (row_of x) q ≡ false) (rows_in l)) (y ∷ run)) (sym g.1) (behind_apart ev y (y ∷ run) (x ∷ xs) s o),
        g.0,
      ),
      ap (λ z. (y ∷ run) ++ z) g.1,
    ))

pub group_all : (xs : List Placed) → Risen xs → Grouped (rows_in xs) (runs [] xs) × (flat (runs [] xs) ≡ xs)
unfolding runs continues flat
group_all [] r = ((tt, tt, tt), refl)
group_all (x ∷ xs) r = group (rows_in (x ∷ xs)) x [] xs (with_self (row_of x), tt) r (all_mem _ (x ∷ xs) (λ z m. refl))
