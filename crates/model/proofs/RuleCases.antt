-- Cases of the rules, by which every induction over them goes.
use Rattle.basics.proofs.Kit.{◌≡◌, true, some, none, Option, List, [], ◌∷◌, ◌++◌, ℕ, ◌-◌, eqb, ltb, length, not, false, refl, subst, append-nil, ◌≤◌, ◌+◌, not-true, eqb-true, leb-true}
use Rattle.basics.specs.Basics.{if'◌then◌else◌, sum, is_empty}
use Rattle.basics.proofs.Facts.{AllOf, by, never, by-option, and_true}
use Rattle.basics.proofs.Elements.{all_append, some_eq}
use Rattle.block_forms.specs.Tuple.{Tuple}
use Rattle.block_forms.specs.Limits.{join_sum}
use Rattle.model.specs.State.{Page, Held}
use Rattle.model.specs.Rules.{grown, place_after, after, entering, list_of, at_row, held_size, joins, joined, settle, settle_next, settle_full}

-- a tuple placed after an equal key: on this page, none of the later ones having that key, or on a later page
pub after_cases : {X : Type 0} (t : ℕ) (x : Tuple) (p : Page) (ps qs : List Page) → place_after t x (p ∷ ps) ≡ some qs
    → ((ts : List Held) → place_after t x ps ≡ none → eqb p.table t ≡ true → after (entering p x) p.tuples ≡ some ts → grown p ts ++ ps ≡ qs → X)
    → ((ws : List Page) → place_after t x ps ≡ some ws → p ∷ ws ≡ qs → X) → X
unfolding place_after if'◌then◌else◌
after_cases t x p ps qs e here past =
    by-option (place_after t x ps)
    (λ n. by (eqb p.table t)
    (λ h. by-option (after (entering p x) p.tuples) (λ m. never (rw (n, h, m) at e)) (λ ts m. here ts n h m (some_eq (rw (n, h, m) at e))))
    (λ h. never (rw (n, h) at e)))
    (λ ws n. past ws n (some_eq (rw (n, place_after) at e)))

-- a property of all pages that a change of one row keeps
pub all_row : (Q : Page → Type 0) (f : ℕ → Option Page → Page → List Page → List Page)
    → ((j : ℕ) (o : Option Page) (p : Page) (ps : List Page) → AllOf Q (list_of o) → AllOf Q (p ∷ ps) → AllOf Q (f j o p ps))
    → (i : ℕ) (o : Option Page) (ps : List Page) → AllOf Q (list_of o) → AllOf Q ps → AllOf Q (at_row f i o ps)
unfolding at_row list_of
all_row Q f F i o [] l a = l
all_row Q f F i o (p ∷ ps) l a =
    by (ltb i (length p.tuples)) (λ h. rw (h, at_row) (F i o p ps l a))
    (λ h. rw (h, at_row) (all_append Q (list_of o) _ l (all_row Q f F (i - length p.tuples) (some p) ps (a.0, tt) a.1)))

-- ---- joining and settling

-- two pages that join
pub record Joinable (p q : Page) : Type 0 where
  pub left : p.frozen ≡ false
  pub right : q.frozen ≡ false
  pub table : p.table ≡ q.table
  pub few : sum held_size p.tuples + sum held_size q.tuples ≤ join_sum

pub joinable : (p q : Page) → joins p q ≡ true → Joinable p q
unfolding joins
joinable p q e =
    let a = and_true (not p.frozen) _ e in
    let b = and_true (not q.frozen) _ a.1 in
    let c = and_true (eqb p.table q.table) _ b.1 in
    record { left = not-true _ a.0; right = not-true _ b.0; table = eqb-true _ _ c.0; few = leb-true _ join_sum c.1 }

next_cases : (S : List Page → Type 0) (rest : List Page) (p : Page) (ps : List Page)
    → ((q : Page) (qs : List Page) → ps ≡ q ∷ qs → Joinable p q → S (joined p q ∷ qs)) → S (rest ++ ps) → S (settle_next rest p ps)
unfolding settle_next if'◌then◌else◌
next_cases S rest p [] r s = subst S (append-nil rest) s
next_cases S rest p (q ∷ qs) r s = by (joins p q) (λ h. rw h (r q qs refl (joinable p q h))) (λ h. rw h s)

full_cases : (S : List Page → Type 0) (rest : List Page) (o : Option Page) (p : Page) (ps : List Page)
    → ((q : Page) → o ≡ some q → Joinable q p → S (joined q p ∷ ps))
    → ((q : Page) (qs : List Page) → ps ≡ q ∷ qs → Joinable p q → S (list_of o ++ joined p q ∷ qs))
    → S (list_of o ++ (rest ++ ps)) → S (settle_full rest o p ps)
unfolding settle_full list_of if'◌then◌else◌
full_cases S rest none p ps l r s = next_cases S rest p ps r s
full_cases S rest (some o) p ps l r s = by (joins o p) (λ h. rw h (l o refl (joinable o p h))) (λ h. rw h (next_cases (λ z. S (o ∷ z)) rest p ps r s))

-- a page settles: it is dropped if it is empty; else it joins the page before it, or the page behind it, or the pages `rest` stand for it
pub settle_cases : (S : List Page → Type 0) (rest : List Page) (o : Option Page) (p : Page) (ps : List Page) → (is_empty p.tuples ≡ true → S (list_of o ++ ps))
    → (is_empty p.tuples ≡ false → (q : Page) → o ≡ some q → Joinable q p → S (joined q p ∷ ps))
    → (is_empty p.tuples ≡ false → (q : Page) (qs : List Page) → ps ≡ q ∷ qs → Joinable p q → S (list_of o ++ joined p q ∷ qs))
    → (is_empty p.tuples ≡ false → S (list_of o ++ (rest ++ ps))) → S (settle rest o p ps)
unfolding settle if'◌then◌else◌
settle_cases S rest o p ps e l r s = by (is_empty p.tuples) (λ h. rw h (e h)) (λ h. rw h (full_cases S rest o p ps (l h) (r h) (s h)))
