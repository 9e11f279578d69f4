-- Every rule for tuples is made of moves: a fresh page comes, a page that is not frozen goes, a frozen page gets other tuples and shows
-- the same. So a relation between the pages before and after that each move keeps is kept by every rule.
use Rattle.basics.proofs.Kit.{◌≡◌, true, false, some, none, Option, List, [], ◌∷◌, ◌++◌, append-nil, map, sym, subst, ℕ, ◌-◌, eqb, ltb, length}
use Rattle.basics.specs.Basics.{if'◌then◌else◌}
use Rattle.basics.proofs.Facts.{by, never, by-option}
use Rattle.block_forms.specs.Tuple.{Tuple}
use Rattle.model.specs.State.{Page, Held}
use Rattle.model.specs.Rules.{shown, fresh, grown, with_tuples, split_once, place_after, place, entering, place_front, settle, joined, list_of, pend_remove_at}
use Rattle.model.specs.Rules.{remove_row_on, committed_at, commit_row_on, at_row, remove_row, commit_row, edit_at, pend_commit, remove_now, commit_now}
use Rattle.model.specs.Transactions.{PlaceOp, commit_place, remove_place, carry_out}
use Rattle.model.proofs.RuleCases.{after_cases, settle_cases}
use Rattle.model.proofs.Shown.{after_shown, entering_adding, shown_taken_at, shown_pend_commit}

-- a page that is frozen, with other tuples
unfoldable pub still_frozen : Page → List Held → Page
still_frozen p ts = record { table = p.table; block = p.block; frozen = true; tuples = ts }

-- ---- the rules for one page, by whether it is frozen

module _ (p : Page) (h : p.frozen ≡ true) where
  grown_frozen : (ts : List Held) → grown p ts ≡ still_frozen p ts ∷ []
  unfolding grown with_tuples still_frozen if'◌then◌else◌
  grown_frozen ts = rw h

  removed_frozen : (j : ℕ) (o : Option Page) (ps : List Page) → remove_row_on j o p ps ≡ list_of o ++ still_frozen p (pend_remove_at j p.tuples) ∷ ps
  unfolding remove_row_on with_tuples still_frozen if'◌then◌else◌
  removed_frozen j o ps = rw h

  committed_frozen : (j : ℕ) (o : Option Page) (ps : List Page) → commit_row_on j o p ps ≡ list_of o ++ still_frozen p (edit_at pend_commit j p.tuples) ∷ ps
  unfolding commit_row_on committed_at with_tuples still_frozen if'◌then◌else◌
  committed_frozen j o ps = rw h

module _ (p : Page) (h : p.frozen ≡ false) where
  grown_other : (ts : List Held) → grown p ts ≡ map (fresh p.table) (split_once ts)
  unfolding grown if'◌then◌else◌
  grown_other ts = rw h

  removed_other : (j : ℕ) (o : Option Page) (ps : List Page)
      → remove_row_on j o p ps ≡ settle (fresh p.table (edit_at remove_now j p.tuples) ∷ []) o (fresh p.table (edit_at remove_now j p.tuples)) ps
  unfolding remove_row_on if'◌then◌else◌
  removed_other j o ps = rw h

  committed_other : (j : ℕ) (o : Option Page) (ps : List Page) → commit_row_on j o p ps ≡ list_of o ++ fresh p.table (edit_at commit_now j p.tuples) ∷ ps
  unfolding commit_row_on committed_at if'◌then◌else◌
  committed_other j o ps = rw h

-- ---- moves

-- the relation holds of each move, of moves one after another, and beside other pages
pub record Moves (R : List Page → List Page → Type 0) : Type 0 where
  pub same : (ps : List Page) → R ps ps
  pub chain : (ps qs rs : List Page) → R ps qs → R qs rs → R ps rs
  pub left : (a ps qs : List Page) → R ps qs → R (a ++ ps) (a ++ qs)
  pub right : (b ps qs : List Page) → R ps qs → R (ps ++ b) (qs ++ b)
  pub comes : (t : ℕ) (ts : List Held) → R [] (fresh t ts ∷ [])
  pub goes : (p : Page) → p.frozen ≡ false → R (p ∷ []) []
  pub stays : (p : Page) (ts : List Held) → p.frozen ≡ true → shown ts ≡ shown p.tuples → R (p ∷ []) (still_frozen p ts ∷ [])

module _ (R : List Page → List Page → Type 0) (m : Moves R) where
  one_comes : (t : ℕ) (ts : List Held) (ps : List Page) → R ps (fresh t ts ∷ ps)
  one_comes t ts ps = m.right ps [] (fresh t ts ∷ []) (m.comes t ts)

  one_goes : (p : Page) (ps : List Page) → p.frozen ≡ false → R (p ∷ ps) ps
  one_goes p ps h = m.right ps (p ∷ []) [] (m.goes p h)

  becomes_fresh : (p : Page) (t : ℕ) (ts : List Held) (ps : List Page) → p.frozen ≡ false → R (p ∷ ps) (fresh t ts ∷ ps)
  becomes_fresh p t ts ps h = m.chain _ _ _ (one_goes p ps h) (one_comes t ts ps)

  pub all_come : (t : ℕ) (tss : List (List Held)) (ps : List Page) → R ps (map (fresh t) tss ++ ps)
  all_come t [] ps = m.same ps
  all_come t (ts ∷ tss) ps = m.chain _ _ _ (all_come t tss ps) (one_comes t ts _)

  -- ---- placing

  moves_grown : (p : Page) (ts : List Held) (ps : List Page) → (p.frozen ≡ true → shown ts ≡ shown p.tuples) → R (p ∷ ps) (grown p ts ++ ps)
  moves_grown p ts ps f =
      by p.frozen (λ h. subst (λ z. R (p ∷ ps) (z ++ ps)) (sym (grown_frozen p h ts)) (m.right ps (p ∷ []) _ (m.stays p ts h (f h))))
      (λ h. subst (λ z. R (p ∷ ps) (z ++ ps)) (sym (grown_other p h ts)) (m.chain _ _ _ (one_goes p ps h) (all_come p.table (split_once ts) ps)))

  moves_place_after : (t : ℕ) (x : Tuple) (ps qs : List Page) → place_after t x ps ≡ some qs → R ps qs
  unfolding place_after
  moves_place_after t x [] qs e = never e
  moves_place_after t x (p ∷ ps) qs e =
      after_cases t x p ps qs e
      (λ ts n h a k. subst (R (p ∷ ps)) k (moves_grown p ts ps (λ f. after_shown (entering p x) p.tuples ts (entering_adding p x f) a)))
      (λ ws n k. subst (R (p ∷ ps)) k (m.left (p ∷ []) ps ws (moves_place_after t x ps ws n)))

  moves_place_front : (t : ℕ) (x : Tuple) (ps : List Page) → R ps (place_front t x ps)
  unfolding place_front if'◌then◌else◌ shown
  moves_place_front t x [] = m.comes t _
  moves_place_front t x (p ∷ ps) =
      by (ltb p.table t) (λ h. rw h (m.left (p ∷ []) ps _ (moves_place_front t x ps)))
      (λ h. by (eqb p.table t) (λ k. rw (h, k) (moves_grown p (entering p x ∷ p.tuples) ps (λ f. rw (entering_adding p x f))))
      (λ k. rw (h, k) (one_comes t _ (p ∷ ps))))

  pub moves_place : (t : ℕ) (x : Tuple) (ps : List Page) → R ps (place t x ps)
  unfolding place
  moves_place t x ps =
      by-option (place_after t x ps) (λ n. rw (n, place) (moves_place_front t x ps)) (λ qs n. rw (n, place) (moves_place_after t x ps qs n))

  -- ---- settling, where the pages `rest` may come

  pub moves_settle : (rest : List Page) → ((ps : List Page) → R ps (rest ++ ps)) → (o : Option Page) (p : Page) (ps : List Page) → R (list_of o ++ ps) (settle rest o p ps)
  unfolding list_of joined
  moves_settle rest r o p ps =
      settle_cases (R (list_of o ++ ps)) rest o p ps (λ h. m.same _)
      (λ h q e j. subst (λ z. R (list_of z ++ ps) (joined q p ∷ ps)) (sym e) (becomes_fresh q q.table (q.tuples ++ p.tuples) ps j.left))
      (λ h q qs e j. subst (λ z. R (list_of o ++ z) (list_of o ++ joined p q ∷ qs)) (sym e)
      (m.left (list_of o) (q ∷ qs) (joined p q ∷ qs) (becomes_fresh q p.table (p.tuples ++ q.tuples) qs j.right)))
      (λ h. m.left (list_of o) ps _ (r ps))

  -- ---- removing and committing a tuple

  moves_row : (f : ℕ → Option Page → Page → List Page → List Page) → ((j : ℕ) (o : Option Page) (p : Page) (ps : List Page) → R (list_of o ++ p ∷ ps) (f j o p ps))
      → (i : ℕ) (o : Option Page) (ps : List Page) → R (list_of o ++ ps) (at_row f i o ps)
  unfolding at_row list_of
  moves_row f F i o [] = subst (λ z. R z (list_of o)) (sym (append-nil (list_of o))) (m.same (list_of o))
  moves_row f F i o (p ∷ ps) =
      by (ltb i (length p.tuples)) (λ h. rw (h, at_row) (F i o p ps))
      (λ h. rw (h, at_row) (m.left (list_of o) (p ∷ ps) _ (moves_row f F (i - length p.tuples) (some p) ps)))

  moves_remove_row_on : (j : ℕ) (o : Option Page) (p : Page) (ps : List Page) → R (list_of o ++ p ∷ ps) (remove_row_on j o p ps)
  moves_remove_row_on j o p ps =
      by p.frozen
      (λ h. subst (R (list_of o ++ p ∷ ps)) (sym (removed_frozen p h j o ps))
      (m.left (list_of o) (p ∷ ps) _ (m.right ps (p ∷ []) _ (m.stays p _ h (shown_taken_at j p.tuples)))))
      (λ h. subst (R (list_of o ++ p ∷ ps)) (sym (removed_other p h j o ps))
      (m.chain _ _ _ (m.left (list_of o) _ _ (one_goes p ps h)) (moves_settle _ (one_comes _ _) o _ ps)))

  moves_commit_row_on : (j : ℕ) (o : Option Page) (p : Page) (ps : List Page) → R (list_of o ++ p ∷ ps) (commit_row_on j o p ps)
  moves_commit_row_on j o p ps =
      by p.frozen
      (λ h. subst (R (list_of o ++ p ∷ ps)) (sym (committed_frozen p h j o ps))
      (m.left (list_of o) (p ∷ ps) _ (m.right ps (p ∷ []) _ (m.stays p _ h (shown_pend_commit j p.tuples)))))
      (λ h. subst (R (list_of o ++ p ∷ ps)) (sym (committed_other p h j o ps)) (m.left (list_of o) (p ∷ ps) _ (becomes_fresh p _ _ ps h)))

  pub moves_carry : (n : ℕ) (os : List PlaceOp) (ps : List Page) → R ps (carry_out n os ps)
  unfolding carry_out remove_row commit_row list_of
  moves_carry n [] ps = m.same ps
  moves_carry n (commit_place i ∷ os) ps = m.chain _ _ _ (moves_row commit_row_on moves_commit_row_on _ none ps) (moves_carry n os _)
  moves_carry n (remove_place i ∷ os) ps = m.chain _ _ _ (moves_row remove_row_on moves_remove_row_on _ none ps) (moves_carry n os _)
