-- On tuples that rise and have distinct numbers the runs are the keys, and commit and abort by place are commit and abort by number.
use Rattle.basics.proofs.Kit.{◌≡◌, refl, sym, ap, ◌∙◌, subst, ◌≢◌, List, [], ◌∷◌, ◌++◌, append-nil, map, ℕ, suc, ◌+◌, ◌<◌, length, get_or, length-map, arith}
use Rattle.basics.specs.Basics.{keep}
use Rattle.basics.proofs.Facts.{AllOf}
use Rattle.image_rows.specs.Rows.{Row, is_own}
use Rattle.model.specs.State.{Page}
use Rattle.model.specs.Sight.{held, rows}
use Rattle.model.specs.Places.{Placed, row_of, placed, all_placed, runs, all_runs, live_of, own_placed, remove_places, plan_runs, close_plan, abort_plan}
use Rattle.model.specs.Transactions.{committed_pages, aborted_pages, tagged}
use Rattle.basics.proofs.Elements.{Pairs, all_map, all_mem, all_keep}
use Rattle.model.proofs.ByNumber.{remove_all, plan_rows}
use Rattle.model.proofs.Sound.{PageOk}
use Rattle.model.proofs.Rows.{Entry, Sub, as_row, held_plain, rows_live, pairs_plain, Differ, number_of}
use Rattle.model.proofs.Placing.{Before}
use Rattle.model.proofs.RowAfter.{With, gather, row_after, perform_rows}
use Rattle.model.proofs.Places.{numbers, perform}
use Rattle.model.proofs.Carry.{numbered, Rising, carry_out_lem}
use Rattle.model.proofs.Runs.{rows_in, rows_placed, flat, Grouped, Risen, group_all}
use Rattle.model.proofs.Plans.{Between, between_placed, between_live, between_keep, rising_removes, rising_runs, named_placed, named_live, numbered_removes, keep_map, numbered_runs}

pairs_mapped : {A B : Type 0} (R : B → B → Type 0) (f : A → B) (xs : List A) → Pairs (λ a b. R (f a) (f b)) xs → Pairs R (map f xs)
pairs_mapped R f [] p = tt
pairs_mapped R f (x ∷ xs) p = (go xs p.0, pairs_mapped R f xs p.1)
  where
    go : (ys : List _) → AllOf (λ b. R (f x) (f b)) ys → AllOf (R (f x)) (map f ys)
    go [] a = tt
    go (y ∷ ys) a = (a.0, go ys a.1)

before_placed : (r : Row) (i : ℕ) (es : List Entry) → AllOf (λ b. Before r (as_row b)) es → AllOf (λ b. Before r (row_of b)) (placed i es)
unfolding placed
before_placed r i [] a = tt
before_placed r i (e ∷ es) a = (a.0, before_placed r (suc i) es a.1)

risen_placed : (i : ℕ) (es : List Entry) → Pairs (λ a b. Before (as_row a) (as_row b)) es → Risen (placed i es)
unfolding placed
risen_placed i [] p = tt
risen_placed i (e ∷ es) p = (before_placed (as_row e) (suc i) es p.0, risen_placed (suc i) es p.1)

all_placed_lem : (ps : List Page) → all_placed ps ≡ placed 0 (tagged ps)
unfolding all_placed
all_placed_lem ps = refl

pub all_rows : (ps : List Page) → rows_in (all_placed ps) ≡ rows ps
all_rows ps = ap rows_in (all_placed_lem ps) ∙ rows_placed 0 (tagged ps) ∙ sym (rows_live ps)

pub all_risen : (ps : List Page) → Pairs Before (held ps) → Risen (all_placed ps)
all_risen ps rising =
    subst Risen (sym (all_placed_lem ps)) (risen_placed 0 (tagged ps) (pairs_plain Before (tagged ps) (subst (Pairs Before) (held_plain ps) rising)))

-- of pages whose tuples rise and have distinct numbers
module _ (ps : List Page) (rising : Pairs Before (held ps)) (differ : Pairs Differ (held ps)) where
  all_distinct : Pairs (λ a b. a ≢ b) (numbers ps)
  all_distinct = pairs_mapped (λ a b. a ≢ b) number_of (tagged ps) (pairs_plain Differ (tagged ps) (subst (Pairs Differ) (held_plain ps) differ))

  all_named : AllOf (λ x. (x.0 < length (numbers ps)) × (get_or (numbers ps) x.0 0 ≡ (row_of x).1.number)) (all_placed ps)
  all_named = subst (AllOf _) (sym (all_placed_lem ps)) (named_placed [] (tagged ps))

  pub all_grouped : Grouped (rows ps) (all_runs ps) × (flat (all_runs ps) ≡ all_placed ps)
  unfolding all_runs
  all_grouped =
      let g = group_all (all_placed ps) (all_risen ps rising) in
      (subst (λ ev. Grouped ev (runs [] (all_placed ps))) (all_rows ps) g.0, g.1)

  close_numbered : (tx : ℕ) → map (numbered (numbers ps)) (close_plan tx ps) ≡ plan_rows tx (rows ps) (rows ps)
  unfolding close_plan
  close_numbered tx =
      numbered_runs tx (rows ps) (numbers ps) all_distinct (all_runs ps) all_grouped.0 (subst (AllOf _) (sym all_grouped.1) all_named)
      ∙ ap (plan_rows tx (rows ps)) (ap rows_in all_grouped.1 ∙ all_rows ps)

  close_rising : (tx : ℕ) → Rising (length (numbers ps)) 0 (close_plan tx ps)
  unfolding close_plan all_runs
  close_rising tx =
      let l = length-map (tagged ps) number_of in
      subst (λ z. Rising (length (numbers ps)) 0 (plan_runs tx (runs [] z))) (sym (all_placed_lem ps))
      (rising_runs (length (numbers ps)) tx 0 0 [] (tagged ps) (omega arith) (omega arith))

  abort_numbered : (tx : ℕ) → map (numbered (numbers ps)) (abort_plan tx ps) ≡ remove_all (keep (is_own tx) (rows ps))
  unfolding abort_plan own_placed
  abort_numbered tx =
      let vs = live_of (all_placed ps) in
      let own = keep (own_placed tx) vs in
      numbered_removes (numbers ps) own (all_map _ _ (λ y q. q.1) own (all_keep _ (own_placed tx) vs (named_live (numbers ps) (all_placed ps) all_named)))
      ∙ ap remove_all (keep_map (own_placed tx) (is_own tx) vs (all_mem _ vs (λ y m. refl)) ∙ ap (keep (is_own tx)) (all_rows ps))

  abort_rising : (tx : ℕ) → Rising (length (numbers ps)) 0 (abort_plan tx ps)
  unfolding abort_plan
  abort_rising tx =
      let l = length-map (tagged ps) number_of in
      let m = 0 + length (tagged ps) in
      let own = keep (own_placed tx) (live_of (all_placed ps)) in
      subst (Rising (length (numbers ps)) 0) (append-nil (remove_places own))
      (rising_removes (length (numbers ps)) 0 m own [] (omega arith)
      (between_keep (own_placed tx) 0 m (live_of (all_placed ps)) (between_live 0 m (all_placed ps) (subst (λ z. Between 0 m z) (sym (all_placed_lem ps)) (between_placed 0 (tagged ps))))) tt)

  -- commit and abort by place are those by number
  pub commit_by_place : (tx : ℕ) → committed_pages tx ps ≡ perform (plan_rows tx (rows ps) (rows ps)) ps
  commit_by_place tx = carry_out_lem (close_plan tx ps) ps (close_rising tx) all_distinct ∙ ap (λ os. perform os ps) (close_numbered tx)

  pub abort_by_place : (tx : ℕ) → aborted_pages tx ps ≡ perform (remove_all (keep (is_own tx) (rows ps))) ps
  abort_by_place tx = carry_out_lem (abort_plan tx ps) ps (abort_rising tx) all_distinct ∙ ap (λ os. perform os ps) (abort_numbered tx)

  -- so they do this to the rows
  pub commit_carried : AllOf PageOk ps → (tx : ℕ)
      → Sub (held (committed_pages tx ps)) (held ps) × (rows (committed_pages tx ps) ≡ gather (row_after (plan_rows tx (rows ps) (rows ps))) (rows ps))
  commit_carried ok tx = rw (commit_by_place tx) (perform_rows (plan_rows tx (rows ps) (rows ps)) ps ok differ)

  pub abort_carried : AllOf PageOk ps → (tx : ℕ)
      → Sub (held (aborted_pages tx ps)) (held ps) × (rows (aborted_pages tx ps) ≡ gather (row_after (remove_all (keep (is_own tx) (rows ps)))) (rows ps))
  abort_carried ok tx = rw (abort_by_place tx) (perform_rows (remove_all (keep (is_own tx) (rows ps))) ps ok differ)

-- a run among those that are grouped
pub grouped_run : (ev : List Row) (before : List (List Placed)) (run : List Placed) (behind : List (List Placed)) → Grouped ev (before ++ run ∷ behind)
    → AllOf (λ x. rows_in run ≡ keep (With (row_of x)) ev) run
grouped_run ev [] run behind g = g.0
grouped_run ev (r ∷ before) run behind g = grouped_run ev before run behind g.2
