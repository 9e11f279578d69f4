-- Whether a booking is open throughout is told at its first minute and at those just behind a row: a minute that follows an open one is open, or
-- some row has just ended.
use Rattle.basics.proofs.Kit.{◌≡◌, sym, ap, ◌∙◌, true, false, List, ℕ, zero, suc, ◌+◌, ◌-◌, ◌%◌, ◌≤◌, ◌<◌, add-zero, mod-lt, mod-eq_of_lt, leb, ltb, arith}
use Rattle.basics.proofs.Kit.{leb-true, leb-false, ltb-true, ltb-false, le-leb, lt-leb}
use native.Mathlib.Nat.{mod-mod, mod-le}
use Rattle.basics.specs.Basics.{any, all}
use Rattle.basics.proofs.Facts.{AllOf, by, lie, and_true, or_else, same_truth}
use Rattle.basics.proofs.Elements.{every_all, and_both, or_right, all_two, all_true, all_split, all_map, any_off, off_any}
use Rattle.basics.proofs.Searches.{all_tab, tab_all, from_tab}
use Rattle.calendar.specs.Calendar.{week, in_range, until, covers, is_open, open_throughout, end_of, edge_open, open_at_edges, ToldAtEdges}
use Rattle.calendar.specs.declared.Hours.{Hours}
use Rattle.calendar.proofs.Weeks.{until_add, until_end, first_past}

-- what a row in range is
pub record Ranged (h : Hours) : Type 0 where
  pub starts : h.start < week
  pub lasts : 0 < h.length
  pub most : h.length ≤ week

pub ranged : {h : Hours} → in_range h ≡ true → Ranged h
unfolding in_range
ranged e = let q = every_all _ e in record { starts = ltb-true _ _ q.0; lasts = ltb-true _ _ q.1.0; most = leb-true _ _ q.1.1.0 }

module _ (hs : List Hours) where
  -- what covers a minute of the week
  pub open_here : {u : ℕ} → u < week → is_open hs u ≡ any (covers u) hs
  unfolding is_open
  open_here h = rw (mod-eq_of_lt h)

  -- a minute is as open as its minute of the week
  open_mod : (u : ℕ) → is_open hs (u % week) ≡ is_open hs u
  unfolding is_open
  open_mod u = rw (mod-mod u week)

  module _ (k n : ℕ) where
    -- minute k + i, which the booking has, is open if it is as a minute of the week
    reached : (i : ℕ) → i < n → edge_open hs (k % week) n ((k + i) % week) ≡ true → is_open hs (k + i) ≡ true
    unfolding edge_open
    reached i h e =
        let d : ℕ = until (k % week) ((k + i) % week) in sym (open_mod (k + i)) ∙ or_else _ _ e (lt-leb n d (omega (arith, until_add k i, mod-le i week)))

    -- where every minute is open, so is each minute of the week that the booking has
    told : ((i : ℕ) → i < n → is_open hs (k + i) ≡ true) → (e : ℕ) → e < week → edge_open hs (k % week) n e ≡ true
    unfolding edge_open
    told f e h =
        by (leb n (until (k % week) e)) (λ t. rw t)
        (λ t. or_right (leb n (until (k % week) e)) _ (ap (is_open hs) (sym (until_end k e h)) ∙ open_mod _ ∙ f (until (k % week) e) (leb-false n _ t)))

    -- a row is in range, and the minute just behind it is open where the booking has it
    abbrev Ends : Hours → Type 0
    Ends h = (in_range h ≡ true) × (edge_open hs (k % week) n (end_of h) ≡ true)

    -- a row that covers a minute covers the next one too, or has just ended, and then that is open
    covered : (j : ℕ) → suc j < n → is_open hs (k + suc j) ≡ false → (h : Hours) → Ends h → covers ((k + suc j) % week) h ≡ false → covers ((k + j) % week) h ≡ false
    unfolding covers end_of
    covered j l off h r past =
        let q = ranged r.0 in
        let m : suc (k + j) ≡ k + suc j = omega arith in
        let ends : until h.start ((k + j) % week) < h.length → (k + suc j) % week ≡ (h.start + h.length) % week =
        rw (← m) (λ t. first_past h.start h.length (k + j) q.starts q.most t (rw m (ltb-false _ _ past))) in
        by (ltb (until h.start ((k + j) % week)) h.length)
        (λ t. lie (sym off ∙ reached (suc j) l (ap (edge_open hs (k % week) n) (ends (ltb-true _ _ t)) ∙ r.1)))
        (λ t. t)

    module _ (rows : AllOf Ends hs) where
      -- so a minute that follows an open one is open
      next : (j : ℕ) → suc j < n → is_open hs (k + j) ≡ true → is_open hs (k + suc j) ≡ true
      unfolding is_open
      next j l here =
          by (is_open hs (k + suc j)) (λ t. t)
          (λ t. lie (sym (any_off _ hs (all_two _ _ _ (λ h a b. covered j l t h a b) hs rows (off_any _ hs t))) ∙ here))

      all_open : edge_open hs (k % week) n (k % week) ≡ true → (j : ℕ) → j < n → is_open hs (k + j) ≡ true
      all_open e zero l = reached 0 l (ap (λ z. edge_open hs (k % week) n (z % week)) (add-zero k) ∙ e)
      all_open e (suc j) l = next j l (all_open e j (omega arith))

    -- ---- a booking that is open throughout, minute by minute

    pub open_each : open_throughout hs k n ≡ true → (u : ℕ) → k ≤ u → u < k + n → is_open hs u ≡ true
    unfolding open_throughout
    open_each t u a b = tab_all (is_open hs) (λ j. j) k n (ap (all (is_open hs)) (sym (from_tab k n)) ∙ t) u a b

    each_open : ((i : ℕ) → i < n → is_open hs (k + i) ≡ true) → open_throughout hs k n ≡ true
    unfolding open_throughout
    each_open f =
        ap (all (is_open hs)) (from_tab k n)
        ∙ all_tab (is_open hs) (λ j. j) k n (λ u a b. let e : k + (u - k) ≡ u = omega arith in ap (is_open hs) (sym e) ∙ f (u - k) (omega arith))

-- ---- the law

pub end_below : (h : Hours) → end_of h < week
unfolding end_of
end_below h = mod-lt _ (omega arith)

pub told_at_edges : ToldAtEdges
unfolding open_at_edges
told_at_edges hs ok k n =
    let rows = all_split in_range hs ok in
    let f : ℕ = k % week in
    same_truth (open_throughout hs k n) (open_at_edges hs k n)
    (λ t.
    let edge = told hs k n (λ i l. open_each hs k n t (k + i) (omega arith) (omega arith)) in
    and_both (edge f (mod-lt k (omega arith))) (all_true _ hs (all_map _ _ (λ h r. edge (end_of h) (end_below h)) hs rows)))
    (λ t.
    let q = and_true (edge_open hs f n f) _ t in
    each_open hs k n (all_open hs k n (all_two _ _ (Ends hs k n) (λ h a b. (a, b)) hs rows (all_split _ hs q.1)) q.0))

-- ---- as the code asks

module _ (hs : List Hours) (f n e : ℕ) where
  pub edge_far : n ≤ until f e → true ≡ edge_open hs f n e
  unfolding edge_open
  edge_far h = rw (le-leb n (until f e) h)

  pub edge_near : until f e < n → is_open hs e ≡ edge_open hs f n e
  unfolding edge_open
  edge_near h = rw (lt-leb n (until f e) h)

module _ (hs : List Hours) (ok : all in_range hs ≡ true) (k n : ℕ) where
  -- the first minute is closed
  pub closed_first : edge_open hs (k % week) n (k % week) ≡ false → open_throughout hs k n ≡ false
  unfolding open_at_edges
  closed_first e = told_at_edges hs ok k n ∙ rw e

  -- it is open, and the minutes just behind rows tell
  pub by_ends : edge_open hs (k % week) n (k % week) ≡ true → open_throughout hs k n ≡ all (λ h. edge_open hs (k % week) n (end_of h)) hs
  unfolding open_at_edges
  by_ends e = told_at_edges hs ok k n ∙ rw e
