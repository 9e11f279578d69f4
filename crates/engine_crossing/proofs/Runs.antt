-- The keys that cross, from a row on: rows of which none crosses are passed over, and a run is split off.
use Rattle.basics.proofs.Kit.{◌≡◌, refl, sym, ap, ◌∙◌, ⊎_elim, false, some, none, Option, List, [], ◌∷◌, ◌++◌, ℕ, suc, ◌+◌, ◌≤◌, ◌<◌, zero, ◌-◌, eqb, length, take, drop, eq-eqb, eqb-true, arith}
use Rattle.basics.specs.Basics.{if'◌then◌else◌, keep}
use Rattle.basics.specs.Lists.{tab}
use Rattle.basics.proofs.Facts.{by, AllOf}
use Rattle.basics.proofs.Tabs.{lt_or_ge, tab_part}
use Rattle.block_forms.specs.Tuple.{Tuple}
use Rattle.image_rows.specs.Rows.{Row, rows_of}
use Rattle.model.specs.State.{Held}
use Rattle.model.specs.Rules.{is_removing, is_committing, applied, as_committed, live}
use Rattle.model.specs.Sight.{seen_of}
use Rattle.model.specs.Places.{Placed, placed, all_placed, all_runs, live_of}
use Rattle.model.specs.Crossing.{crosses, rows_of_table, key_if, key_of_run, crossing_keys}
use Rattle.model.proofs.Rows.{Entry, with_table, live_rows, live_rows_lem}
use Rattle.model.proofs.Runs.{rows_placed}
use Rattle.model.proofs.RowAfter.{at_split}
use Rattle.model.proofs.RunParts.{given_from, from_none, from_skip, from_first}
use Rattle.model.proofs.Crossings.{seen_all}
use Rattle.memory_layout.specs.Flat.{flat_of, row_in, no_row, Room}
use Rattle.engine_pages.specs.Pages.{pages_of}
use Rattle.engine_close.specs.Close.{tagged_of, row_from}
use Rattle.engine_close.proofs.Memory.{row_is, tagged_length}
use Rattle.engine_close.proofs.RunBounds.{WholeRun}
use Rattle.engine_crossing.specs.Crossing.{OneKey, run_rows, run_keys}

-- ---- a run of which no row crosses

-- a pending operation changes neither key nor payload
pub applied_crosses : (first end : ℕ) (h : Held) → crosses first end (applied h) ≡ crosses first end h.tuple
unfolding crosses applied as_committed if'◌then◌else◌
applied_crosses first end h = by (is_committing h.pending) (λ e. rw e) (λ e. rw e)

module _ (tx t first end : ℕ) where
  -- it does not cross, or is of another table
  abbrev pub Dull : Entry → Type 0
  Dull x = x.0 ≡ t → crosses first end x.1.tuple ≡ false

  none_cross : (run : List Placed) → AllOf (λ x. Dull x.1) run → AllOf (λ r. crosses first end r.1 ≡ false) (rows_of_table t run)
  unfolding rows_of_table live_of keep if'◌then◌else◌
  none_cross [] a = tt
  none_cross (x ∷ run) a =
      let rest = none_cross run a.1 in
      by (is_removing x.1.1.pending) (λ h. rw h rest)
      (λ h. by (eqb x.1.0 t) (λ q. rw (h, q) (applied_crosses first end x.1.1 ∙ a.0 (eqb-true x.1.0 t q), rest)) (λ q. rw (h, q) rest))

  key_none : (o : Option Row) → ((r : Row) → o ≡ some r → crosses first end r.1 ≡ false) → key_if first end o ≡ []
  unfolding key_if if'◌then◌else◌
  key_none none f = refl
  key_none (some r) f = rw (f r refl)

  dull_run : (run : List Placed) → AllOf (λ x. Dull x.1) run → key_of_run tx t first end run ≡ []
  unfolding key_of_run
  dull_run run a =
      key_none (seen_of tx (rows_of_table t run)) (λ r e. seen_all tx first end (λ r. crosses first end r.1 ≡ false) (rows_of_table t run) r e (none_cross run a))

-- ---- the rows of the memory

-- rows of table t
with_table_lem : (t : ℕ) (xs : List Entry) (g : ℕ → Held) (a n : ℕ) → ((j : ℕ) → a ≤ j → j < a + n → row_from xs j ≡ (t, g j)) → tab (row_from xs) a n ≡ with_table t (tab g a n)
with_table_lem t xs g a zero h = refl
with_table_lem t xs g a (suc n) h = rw (h a (omega arith) (omega arith), with_table_lem t xs g (suc a) n (λ j x y. h j (omega arith) (omega arith)))

all_kept : (t : ℕ) (xs : List Tuple) → keep (λ r. eqb r.0 t) (rows_of t xs) ≡ rows_of t xs
unfolding rows_of keep if'◌then◌else◌
all_kept t [] = refl
all_kept t (x ∷ xs) = rw (eq-eqb t t refl, all_kept t xs)

-- the keys of the runs from row i on
abbrev pub keys_from : List ℕ → ℕ → ℕ → ℕ → ℕ → ℕ → List ℕ
keys_from m tx t first end i = given_from (key_of_run tx t first end) (tagged_of m) i i

pub keys_start : (m : List ℕ) (tx t first end : ℕ) → crossing_keys tx t first end (pages_of m) ≡ keys_from m tx t first end 0
unfolding crossing_keys all_runs all_placed
keys_start m tx t first end = refl

-- the rows of the table from row i up to row r do not cross
abbrev pub Passed : List ℕ → ℕ → ℕ → ℕ → ℕ → ℕ → Type 0
Passed m t first end i r = (j : ℕ) → i ≤ j → j < r → (row_from (tagged_of m) j).0 ≡ t → crosses first end (row_in (flat_of m) j).tuple ≡ false

module _ {m : List ℕ} (room : Room m) (tx t first end : ℕ) where
  abbrev from : ℕ → List ℕ
  from i = keys_from m tx t first end i

  dull : (i r : ℕ) → Passed m t first end i r → (j : ℕ) → i ≤ j → j < r → Dull tx t first end (row_from (tagged_of m) j)
  dull i r p j x y e = ap (λ (h : Held). crosses first end h.tuple) (row_is m room j) ∙ p j x y e

  -- no row is left that crosses
  pub keys_none : (i : ℕ) → Passed m t first end i (length (tagged_of m)) → from i ≡ []
  keys_none i p = from_none (key_of_run tx t first end) (Dull tx t first end) (dull_run tx t first end) (tagged_of m) (0, no_row) i i (dull i _ p)

  module _ {i a b : ℕ} (w : WholeRun (tagged_of m) i a b) where
    -- rows that do not cross, before a run
    pub keys_skip : Passed m t first end i a → from i ≡ from a
    keys_skip p =
        ⊎_elim
        (λ x. from_skip (key_of_run tx t first end) (Dull tx t first end) (dull_run tx t first end) (tagged_of m) (0, no_row) i a i a x
        (omega (arith, w.some, w.most)) (dull i a p) (w.before x) (omega arith))
        (λ x. let z : i ≡ a = omega (arith, w.low) in ap from z) (lt_or_ge i a)

    -- all rows of a run have its table and key
    run_row : (row_from (tagged_of m) a).0 ≡ t → (j : ℕ) → a ≤ j → j < b → row_from (tagged_of m) j ≡ (t, row_in (flat_of m) j)
    run_row e j x y = let s = at_split _ _ _ (w.same j x y) in (λ k. ((s.0 ∙ e) k, row_is m room j k))

    pub one_key : OneKey m a b
    one_key =
        record {
          room = room;
          some = w.some;
          inside = omega (arith, w.most, tagged_length m room);
          same = λ j x y. ap (λ (h : Held). h.tuple.key) (sym (row_is m room j)) ∙ (at_split _ _ _ (w.same j x y)).1 ∙ ap (λ (h : Held). h.tuple.key) (row_is m room a);
        }

    run_rows_lem : (row_from (tagged_of m) a).0 ≡ t → rows_of_table t (placed a (take (b - a) (drop a (tagged_of m)))) ≡ run_rows (flat_of m) t a b
    unfolding rows_of_table
    run_rows_lem e =
        let hs = tab (row_in (flat_of m)) a (b - a) in
        let l = w.some in
        let es : take (b - a) (drop a (tagged_of m)) ≡ with_table t hs =
        sym (tab_part (tagged_of m) (0, no_row) a (b - a) (omega (arith, w.most))) ∙ with_table_lem t (tagged_of m) (row_in (flat_of m)) a (b - a) (λ j x y. run_row e j x (omega arith)) in
        ap (keep (λ r. eqb r.0 t)) (rows_placed a (take (b - a) (drop a (tagged_of m))) ∙ ap live_rows es ∙ live_rows_lem t hs) ∙ all_kept t (live hs)

    -- a run of the table, and what stands behind it
    pub keys_run : (row_from (tagged_of m) a).0 ≡ t → from a ≡ run_keys (flat_of m) tx first end t a b ++ from b
    unfolding key_of_run
    keys_run e =
        let l = w.some in
        from_first (key_of_run tx t first end) (Dull tx t first end) (dull_run tx t first end) (tagged_of m) (0, no_row) a b a b w.some w.most
        (λ j x y. w.same j (omega arith) y) w.behind (omega arith)
        ∙ ap (λ rs. key_if first end (seen_of tx rs) ++ from b) (run_rows_lem e)
