-- What a transaction sees of a run: the versions of its key among its rows are all its live rows.
use Rattle.basics.proofs.Kit.{◌≡◌, refl, sym, ap, ◌∙◌, true, List, [], ◌∷◌, ℕ, ◌-◌, arith}
use Rattle.basics.specs.Basics.{if'◌then◌else◌}
use Rattle.basics.specs.Lists.{tab}
use Rattle.basics.proofs.Facts.{by, AllOf}
use Rattle.basics.proofs.Elements.{keep_all}
use Rattle.basics.proofs.Tabs.{all_tab}
use Rattle.block_forms.specs.Tuple.{Tuple}
use Rattle.image_rows.specs.Rows.{rows_of, is_at}
use Rattle.model.specs.State.{Held}
use Rattle.model.specs.Rules.{is_removing, applied, live}
use Rattle.model.proofs.Rows.{applied_is}
use Rattle.model.proofs.RowAfter.{at_join}
use Rattle.memory_layout.specs.Flat.{flat_of, row_in}
use Rattle.memory_rows.specs.Rows.{key_in}
use Rattle.engine_lookup.specs.Lookup.{Shows, blank, notes, picked}
use Rattle.engine_lookup.specs.declared.Visibility.{Visibility}
use Rattle.std.specs.Prelude.{Option as Found}
use Rattle.engine_lookup.proofs.Versions.{versions_on, shows_rows}
use Rattle.engine_lookup.proofs.Picking.{picked_sees}
use Rattle.engine_crossing.specs.Crossing.{OneKey, run_rows, RunSeen}

-- live tuples of one key
all_at : (t k : ℕ) (hs : List Held) → AllOf (λ h. h.tuple.key ≡ k) hs → AllOf (λ r. is_at t k r ≡ true) (rows_of t (live hs))
unfolding live rows_of if'◌then◌else◌
all_at t k [] a = tt
all_at t k (h ∷ hs) a =
    by (is_removing h.pending) (λ e. rw e (all_at t k hs a.1))
    (λ e. rw e (at_join t k (t, applied h) refl (ap (λ (x : Tuple). x.key) (applied_is h) ∙ a.0), all_at t k hs a.1))

module _ {m : List ℕ} (tx : ℕ) {a b : ℕ} (o : OneKey m a b) {l none : Visibility} {k : ℕ} where
  -- the versions of the key are all live rows of the run
  pub run_shows : l ≡ notes tx k a (tab (row_in (flat_of m)) a (b - a)) none → none ≡ blank → k ≡ key_in (flat_of m) a → (t : ℕ) → Shows (flat_of m) t tx (run_rows (flat_of m) t a b) l
  run_shows e q ek t =
      let f = flat_of m in
      let hs = tab (row_in f) a (b - a) in
      let z : versions_on t k hs ≡ run_rows f t a b = keep_all (is_at t k) (rows_of t (live hs))
      (all_at t k hs (all_tab _ (row_in f) a (b - a) (λ j x y. o.same j x (omega (arith, o.some)) ∙ sym ek))) in
      let s = shows_rows f t tx k (b - a) a (omega (arith, o.some, o.inside)) in
      rw (e, q, sym z) s

pub run_seen : (m : List ℕ) (tx a b : ℕ) {l : Visibility} → ((t : ℕ) → Shows (flat_of m) t tx (run_rows (flat_of m) t a b) l) → {r : Found ℕ} → r ≡ picked (flat_of m) l
    → RunSeen (flat_of m) tx a b r
run_seen m tx a b s e t = picked_sees (s t) e
