-- A commit and an abort, step by step: what is left to do from a row on.
use Rattle.basics.proofs.Kit.{◌≡◌, refl, sym, ap, ◌∙◌, ap₂, ⊎_elim, Bool, true, false, some, List, [], ℕ, suc, ◌+◌, ◌≤◌, ◌<◌, ◌-◌, length, take, drop}
use Rattle.basics.proofs.Kit.{length-take, length-drop, arith}
use Rattle.basics.specs.Basics.{last}
use Rattle.model.specs.State.{Held, Page}
use Rattle.model.specs.Sight.{held}
use Rattle.model.specs.Rules.{applied}
use Rattle.model.specs.Places.{tagged, placed, same_key, carry_out, runs, live_of, plan_newest, plan_run, plan_runs, all_placed, all_runs, close_plan, own_placed, Placed}
use Rattle.basics.proofs.Tabs.{lt_or_ge, all_between}
use Rattle.memory_layout.specs.Flat.{no_row}
use Rattle.memory_layout.specs.Store.{holds_store}
use Rattle.memory_rows.specs.Rows.{is_live_own}
use Rattle.engine_close.specs.Close.{tagged_of, row_from, is_own_row, NextOwn, RunFrom, RunTo, NewestOwn, entry_place, closed_run, closed_from, aborted_from, left_from, closed_pages}
use Rattle.engine_close.specs.Close.{RowRemoved, RunClosed, NextDone}
use Rattle.model.proofs.Carry.{carry_append}
use Rattle.engine_close.proofs.Removals.{held_length, behind_fewer, behind_place, behind_left, abort_next, abort_one, abort_ends, abort_starts}
use Rattle.engine_close.proofs.RunBounds.{WholeRun, whole_run}
use Rattle.engine_close.proofs.RunPlans.{plan_none, plan_skip, plan_first, newest_is}
use Rattle.engine_pages.specs.Pages.{PagesNow, pages_of}
use Rattle.engine_pages.proofs.Places.{now_held, now_pages, now_then, now_to, now_stay}
use Rattle.engine_close.proofs.Closing.{now_self, row_next, row_behind, split_run}

run_plan : (tx : ℕ) (run : List Placed) → plan_run tx run ≡ plan_newest (last (own_placed tx) (live_of run)) (live_of run)
unfolding plan_run
run_plan tx run = refl

closed_is : (tx n i : ℕ) (ps : List Page)
    → closed_from tx n i ps ≡ carry_out n (plan_runs tx (runs [] (placed (entry_place n (tagged ps) i) (drop i (tagged ps))))) ps
unfolding closed_from
closed_is tx n i ps = refl

carry_none : (n : ℕ) (ps : List Page) → carry_out n [] ps ≡ ps
unfolding carry_out
carry_none n ps = refl

module _ (tx : ℕ) where
  pub close_starts : (ps : List Page) → carry_out (length (held ps)) (close_plan tx ps) ps ≡ closed_from tx (length (held ps)) 0 ps
  unfolding close_plan all_runs all_placed closed_from
  close_starts ps =
      let z : 0 ≡ entry_place (length (held ps)) (tagged ps) 0 = omega (arith, held_length ps) in
      ap (λ i. carry_out (length (held ps)) (plan_runs tx (runs [] (placed i (tagged ps)))) ps) z

  module _ (n : ℕ) (ps : List Page) where
    -- no own row is left
    pub close_none : (i : ℕ) → ((j : ℕ) → i ≤ j → j < length (tagged ps) → is_own_row tx (tagged ps) j ≡ false) → closed_from tx n i ps ≡ ps
    unfolding closed_from is_own_row
    close_none i h = ap (λ os. carry_out n os ps) (plan_none tx (tagged ps) (0, no_row) (entry_place n (tagged ps) i) i h) ∙ carry_none n ps

    -- rows that are not own, before a run
    pub close_skip : (i a : ℕ) → i < a → a < length (tagged ps) → ((j : ℕ) → i ≤ j → j < a → is_own_row tx (tagged ps) j ≡ false)
        → same_key (row_from (tagged ps) (a - 1)) (row_from (tagged ps) a) ≡ false → closed_from tx n i ps ≡ closed_from tx n a ps
    unfolding closed_from is_own_row
    close_skip i a l u h s =
        let xs = tagged ps in
        ap (λ os. carry_out n os ps) (plan_skip tx xs (0, no_row) (entry_place n xs i) (entry_place n xs a) i a l u h s (omega arith))

    -- a run from row a up to row e, whose newest own row is k
    pub close_first : (a e k : ℕ) → a ≤ k → k < e → e ≤ length (tagged ps) → ((j : ℕ) → a ≤ j → j < e → same_key (row_from (tagged ps) a) (row_from (tagged ps) j) ≡ true)
        → (e < length (tagged ps) → same_key (row_from (tagged ps) a) (row_from (tagged ps) e) ≡ false) → is_own_row tx (tagged ps) k ≡ true
        → ((j : ℕ) → k < j → j < e → is_own_row tx (tagged ps) j ≡ false)
        → closed_from tx n a ps ≡ carry_out n (plan_runs tx (runs [] (placed (entry_place n (tagged ps) e) (drop e (tagged ps))))) (closed_run n a e k ps)
    unfolding closed_from closed_run is_own_row
    close_first a e k l u m s o w v =
        let xs = tagged ps in
        let later = plan_runs tx (runs [] (placed (entry_place n xs e) (drop e xs))) in
        ap (λ os. carry_out n os ps) (plan_first tx xs (0, no_row) (entry_place n xs a) (entry_place n xs e) a e (omega arith) m (λ j x y. s j (omega arith) y) o (omega arith))
        ∙ carry_append n (plan_run tx (placed (entry_place n xs a) (take (e - a) (drop a xs)))) later ps
        ∙ ap (λ os. carry_out n later (carry_out n os ps)) (run_is n xs a e k l u m w v)
      where
        run_is : (n : ℕ) (xs : List (ℕ × Held)) (a e k : ℕ) → a ≤ k → k < e → e ≤ length xs → is_live_own tx (row_from xs k).1 ≡ true
            → ((j : ℕ) → k < j → j < e → is_live_own tx (row_from xs j).1 ≡ false)
            → plan_run tx (placed (entry_place n xs a) (take (e - a) (drop a xs)))
            ≡ plan_newest (some (entry_place n xs k, ((row_from xs k).0, applied (row_from xs k).1))) (live_of (placed (entry_place n xs a) (take (e - a) (drop a xs))))
        run_is n xs a e k l u m w v =
            let ws = take (k - a) (drop a xs) in
            let t = length-take (k - a) (drop a xs) in
            let d = length-drop a xs in
            let z : entry_place n xs k ≡ entry_place n xs a + length ws = omega arith in
            let y = take (e - a) (drop a xs) in
            run_plan tx (placed (entry_place n xs a) y)
            ∙ ap (λ o. plan_newest o (live_of (placed (entry_place n xs a) y)))
            (ap (λ q. last (own_placed tx) (live_of (placed (entry_place n xs a) q))) (split_run xs a e k l u m)
            ∙ newest_is tx (entry_place n xs a) (entry_place n xs k) ws (row_from xs k) (take (e - suc k) (drop (suc k) xs)) w (all_between _ xs (0, no_row) (suc k) e (λ j b g q. v j b g)) z)

-- ---- one step

-- no own row is left
pub none_left : (keep : Bool) {m : List ℕ} {tx i r : ℕ} → holds_store m ≡ true → i < length (tagged_of m) → NextOwn (tagged_of m) tx i (length (tagged_of m)) (length (tagged_of m))
    → r ≡ length (tagged_of m) → NextDone (left_from keep tx) m m i r
none_left keep {m} {tx} {i} {r} s h o e =
    record { pages = now_stay m s; most = omega arith; fewer = omega arith; further = omega arith; same = λ n l. passed n keep }
  where
    passed : (n : ℕ) (keep : Bool) → left_from keep tx n i (pages_of m) ≡ left_from keep tx n r (pages_of m)
    passed n true = close_none tx n (pages_of m) i (λ j x y. o.passed j x (omega arith)) ∙ sym (close_none tx n (pages_of m) r (λ j x y. absurd (omega arith)))
    passed n false = abort_next n tx (pages_of m) o ∙ ap (λ (z : ℕ). aborted_from tx n z (pages_of m)) (sym e)

-- the next own row is removed
pub one_aborted : (keep : Bool) {m m' : List ℕ} {tx i own r : ℕ} → keep ≡ false → NextOwn (tagged_of m) tx i (length (tagged_of m)) own → own < length (tagged_of m)
    → RowRemoved m m' own r → NextDone (left_from keep tx) m m' i r
one_aborted keep {m} {m'} {tx} {i} {own} {r} e o h u =
    let b = row_behind h u in
    record {
      pages = now_self u.pages;
      most = b.most;
      fewer = behind_fewer b h;
      further = omega (arith, behind_left b h, o.low);
      same = λ n l. rw e (abort_next n tx (pages_of m) o ∙ abort_one n tx (pages_of m) own r l h (o.found h) (row_next h u) ∙ ap (aborted_from tx n r) (sym (now_pages u.pages)));
    }

-- the run of the next own row is closed
module _ {m m' : List ℕ} {tx i own a e k r : ℕ} (o : NextOwn (tagged_of m) tx i (length (tagged_of m)) own) (f : RunFrom (tagged_of m) i own a) (t : RunTo (tagged_of m) own e)
    (w : NewestOwn (tagged_of m) tx own e k) (u : RunClosed m m' a e k r) where
  run : WholeRun (tagged_of m) i a e
  run = whole_run f t

  to_run : (n : ℕ) → closed_from tx n i (pages_of m) ≡ closed_from tx n a (pages_of m)
  to_run n =
      ⊎_elim
      (λ x. close_skip tx n (pages_of m) i a x (omega (arith, run.some, t.most)) (λ j y z. o.passed j y (omega (arith, f.high))) (run.before x))
      (λ x. let z : i ≡ a = omega (arith, f.low) in ap (λ j. closed_from tx n j (pages_of m)) z) (lt_or_ge i a)

  pub one_closed : (keep : Bool) → keep ≡ true → NextDone (left_from keep tx) m m' i r
  one_closed keep q =
      let b = u.behind in
      record {
        pages = now_self (u.pages (length (tagged_of m)) (omega arith));
        most = b.most;
        fewer = behind_fewer b t.most;
        further = omega (arith, behind_left b t.most, o.low, t.low);
        same = λ n l. rw q (to_run n ∙ close_first tx n (pages_of m) a e k (omega (arith, f.high, w.low)) w.high t.most run.same run.behind w.own w.later
            ∙ ap (carry_out n (plan_runs tx (runs [] (placed (entry_place n (tagged_of m) e) (drop e (tagged_of m)))))) (sym (now_pages (u.pages n l)))
            ∙ ap₂ (λ p y. carry_out n (plan_runs tx (runs [] (placed p y))) (pages_of m')) (sym (behind_place b t.most n l)) (sym b.rows)
            ∙ sym (closed_is tx n r (pages_of m')));
      }

-- ---- all steps

-- rows before row i are done
pub record Doing (left : ℕ → ℕ → List Page → List Page) (m₀ m : List ℕ) (i : ℕ) : Type 0 where
  pub now : PagesNow m₀ m (pages_of m)
  pub has_store : holds_store m ≡ true
  pub most : i ≤ length (tagged_of m)
  pub fewer : length (tagged_of m) ≤ length (tagged_of m₀)
  pub same : left (length (tagged_of m₀)) 0 (pages_of m₀) ≡ left (length (tagged_of m₀)) i (pages_of m)

module _ {left : ℕ → ℕ → List Page → List Page} where
  pub doing_starts : {m : List ℕ} → holds_store m ≡ true → Doing left m m 0
  doing_starts {m} s = record { now = now_stay m s; has_store = s; most = omega arith; fewer = omega arith; same = refl }

  pub doing_next : {m₀ m m' : List ℕ} {i r : ℕ} → Doing left m₀ m i → NextDone left m m' i r → Doing left m₀ m' r
  doing_next {m₀} d u =
      record {
        now = now_self (now_then d.now u.pages);
        has_store = now_held u.pages;
        most = u.most;
        fewer = omega (arith, d.fewer, u.fewer);
        same = d.same ∙ u.same (length (tagged_of m₀)) d.fewer;
      }

-- the commit or the abort is done
pub all_done : (keep : Bool) (tx : ℕ) {m₀ m : List ℕ} {i : ℕ} → Doing (left_from keep tx) m₀ m i → length (tagged_of m) ≤ i → PagesNow m₀ m (closed_pages keep tx (pages_of m₀))
all_done keep tx {m₀} {m} {i} d h = now_to d.now (sym (starts keep ∙ ap (λ n. left_from keep tx n 0 (pages_of m₀)) (held_length (pages_of m₀)) ∙ d.same ∙ ends keep))
  where
    starts : (keep : Bool) → closed_pages keep tx (pages_of m₀) ≡ left_from keep tx (length (held (pages_of m₀))) 0 (pages_of m₀)
    starts true = close_starts tx (pages_of m₀)
    starts false = abort_starts tx (pages_of m₀)

    ends : (keep : Bool) → left_from keep tx (length (tagged_of m₀)) i (pages_of m) ≡ pages_of m
    ends true = close_none tx (length (tagged_of m₀)) (pages_of m) i (λ j x y. absurd (omega arith))
    ends false = abort_ends (length (tagged_of m₀)) tx (pages_of m) i h
