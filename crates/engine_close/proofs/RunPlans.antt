-- The plan of a commit, run by run: rows without an own one among them are passed over, and a run is split off at its end.
use Rattle.basics.proofs.Kit.{◌≡◌, refl, ap, ◌∙◌, true, false, not, some, none, List, [], ◌∷◌, ◌++◌, ℕ, suc, ◌+◌, ◌≤◌, ◌<◌, ◌-◌, eqb, length, take, drop, get_or, eq-eqb, ne_eqb, arith}
use Rattle.basics.specs.Basics.{if'◌then◌else◌, keep, last}
use Rattle.basics.proofs.Facts.{by, lie, AllOf}
use Rattle.image_rows.specs.Rows.{is_by, is_own}
use Rattle.model.specs.Rules.{is_removing, applied}
use Rattle.model.specs.Places.{remove_place, Placed, placed, same_key, live_of, own_placed, remove_places, plan_newest, plan_run}
use Rattle.model.proofs.Rows.{Entry}
use Rattle.model.proofs.RunParts.{given_from, from_none, from_skip, from_first}
use Rattle.memory_rows.specs.Rows.{is_live_own}
use Rattle.engine_close.specs.Close.{is_live}
use Rattle.engine_close.proofs.Removals.{picks}

module _ (tx : ℕ) where
  -- ---- runs without an own row

  abbrev NoneIn : List Placed → Type 0
  NoneIn xs = AllOf (λ x. is_live_own tx x.1.1 ≡ false) xs

  -- the same of rows without their places
  abbrev pub NoOwn : List Entry → Type 0
  NoOwn xs = AllOf (λ x. is_live_own tx x.1 ≡ false) xs

  none_last : (xs : List Placed) → NoneIn xs → last (own_placed tx) (live_of xs) ≡ none
  unfolding last live_of own_placed is_own is_live_own if'◌then◌else◌
  none_last [] a = refl
  none_last (x ∷ xs) a =
      by (is_removing x.1.1.pending) (λ h. rw h (none_last xs a.1))
      (λ h. let b : is_by tx (applied x.1.1).owner ≡ false = rw h at a.0 in rw (h, none_last xs a.1, b))

  run_none : (run : List Placed) → NoneIn run → plan_run tx run ≡ []
  unfolding plan_run plan_newest
  run_none run a = rw (none_last run a, plan_newest)

  -- ---- by index: the plan of the runs from row i on, the first of which stands at place p

  module _ (xs : List Entry) (d : Entry) where
    -- no own row is left
    pub plan_none : (p i : ℕ) → ((j : ℕ) → i ≤ j → j < length xs → is_live_own tx (get_or xs j d).1 ≡ false) → given_from (plan_run tx) xs p i ≡ []
    plan_none = from_none (plan_run tx) (λ x. is_live_own tx x.1 ≡ false) run_none xs d

    -- rows up to row a, none of them own, are passed over; row a is of another key than the one before it
    pub plan_skip : (p q i a : ℕ) → i < a → a < length xs → ((j : ℕ) → i ≤ j → j < a → is_live_own tx (get_or xs j d).1 ≡ false)
        → same_key (get_or xs (a - 1) d) (get_or xs a d) ≡ false → q ≡ p + (a - i) → given_from (plan_run tx) xs p i ≡ given_from (plan_run tx) xs q a
    plan_skip = from_skip (plan_run tx) (λ x. is_live_own tx x.1 ≡ false) run_none xs d

    -- the run from row a up to row e
    pub plan_first : (p q a e : ℕ) → a < e → e ≤ length xs → ((j : ℕ) → a < j → j < e → same_key (get_or xs a d) (get_or xs j d) ≡ true)
        → (e < length xs → same_key (get_or xs a d) (get_or xs e d) ≡ false) → q ≡ p + (e - a)
        → given_from (plan_run tx) xs p a ≡ plan_run tx (placed p (take (e - a) (drop a xs))) ++ given_from (plan_run tx) xs q e
    plan_first = from_first (plan_run tx) (λ x. is_live_own tx x.1 ≡ false) run_none xs d

  -- ---- the operations of a run

  -- the newest own row
  pub newest_is : (i k : ℕ) (ws : List Entry) (x : Entry) (ys : List Entry) → is_live_own tx x.1 ≡ true → NoOwn ys → k ≡ i + length ws
      → last (own_placed tx) (live_of (placed i (ws ++ x ∷ ys))) ≡ some (k, (x.0, applied x.1))
  unfolding placed last live_of own_placed is_own is_live_own if'◌then◌else◌
  newest_is i k [] x ys o n e =
      by (is_removing x.1.pending) (λ h. lie (rw h at o))
      (λ h. let b : is_by tx (applied x.1).owner ≡ true = rw h at o in
      let z : i ≡ k = omega arith in
      rw (h, none_last (placed (suc i) ys) (none_placed (suc i) ys n), b) (ap (λ j. some (j, (x.0, applied x.1))) z))
    where
      none_placed : (i : ℕ) (ys : List Entry) → NoOwn ys → NoneIn (placed i ys)
      none_placed i [] n = tt
      none_placed i (y ∷ ys) n = (n.0, none_placed (suc i) ys n.1)
  newest_is i k (w ∷ ws) x ys o n e =
      let r = newest_is (suc i) k ws x ys o n (omega arith) in
      by (is_removing w.1.pending) (λ h. rw h r) (λ h. rw (h, r, last))

-- the places behind k
behind_picks : (i k : ℕ) (ys : List Entry) → k < i → remove_places (keep (λ y. not (eqb y.0 k)) (live_of (placed i ys))) ≡ picks is_live i ys
unfolding remove_places keep live_of placed picks is_live if'◌then◌else◌
behind_picks i k [] h = refl
behind_picks i k (y ∷ ys) h =
    let e : eqb i k ≡ false = ne_eqb i k (λ q. omega arith) in
    let r = behind_picks (suc i) k ys (omega arith) in
    by (is_removing y.1.pending) (λ d. rw d r) (λ d. rw (d, e) (ap (λ z. remove_place i ∷ z) r))

-- all but place k
pub other_picks : (i k : ℕ) (ws : List Entry) (x : Entry) (ys : List Entry) → k ≡ i + length ws
    → remove_places (keep (λ y. not (eqb y.0 k)) (live_of (placed i (ws ++ x ∷ ys)))) ≡ picks is_live i ws ++ picks is_live (suc k) ys
unfolding remove_places keep live_of placed picks is_live if'◌then◌else◌
other_picks i k [] x ys e =
    let z : i ≡ k = omega arith in
    let s : eqb i k ≡ true = eq-eqb i k z in
    let r = behind_picks (suc i) k ys (omega arith) ∙ ap (λ j. picks is_live (suc j) ys) z in
    by (is_removing x.1.pending) (λ d. rw d r) (λ d. rw (d, s) r)
other_picks i k (w ∷ ws) x ys e =
    let s : eqb i k ≡ false = ne_eqb i k (λ q. omega arith) in
    let r = other_picks (suc i) k ws x ys (omega arith) in
    by (is_removing w.1.pending) (λ d. rw d r) (λ d. rw (d, s) (ap (λ z. remove_place i ∷ z) r))
