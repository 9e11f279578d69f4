-- Read: what it answers by the version that is seen.
use Rattle.basics.proofs.Kit.{◌≡◌, sym, ap, ◌∙◌, Option, List, [], ◌∷◌, ℕ, ◌≤◌, ◌<◌, ltb, length, lt-ltb, le-ltb}
use Rattle.basics.specs.Basics.{if'◌then◌else◌}
use Rattle.basics.proofs.Facts.{by}
use Rattle.image_rows.specs.Rows.{Row}
use Rattle.model.specs.State.{Held, Store, Outcome}
use Rattle.model.specs.Rules.{is_committing, as_committed, applied}
use Rattle.model.specs.Sight.{seen}
use Rattle.model.specs.Transactions.{gives, unless, not_open, no_table, replied, read_seen, read_call}
use Rattle.memory_layout.specs.Flat.{Flat, flat_of, row_in}
use Rattle.memory_layout.specs.Store.{store_of, store_in}
use Rattle.engine_lookup.specs.Lookup.{version, seen_at, Sees, Inside}
use Rattle.std.specs.Prelude.{Option as Found, Some, None}
use Rattle.call_transactions.specs.Refusals.{refusal_in}
use Rattle.call_transactions.proofs.Refusing.{refused_here, passed_on, unless_none, unless_append, call_after, open_numbered}
use Rattle.model.specs.State as model

applied_payload : (h : Held) → (applied h).payload ≡ h.tuple.payload
unfolding applied as_committed if'◌then◌else◌
applied_payload h = by (is_committing h.pending) (λ e. rw e) (λ e. rw e)

version_payload : (f : Flat) (t i : ℕ) → (version f t i).1.payload ≡ (row_in f i).tuple.payload
unfolding version
version_payload f t i = applied_payload (row_in f i)

-- what read does once the transaction is known to be open
abbrev pub read_after : ℕ → ℕ → ℕ → ℕ → Store → Outcome
read_after tx t k room s = unless (no_table t ∷ []) s (read_seen room (seen tx t k s) s)

pub read_tests : (tx t k room : ℕ) (s : Store) → read_call tx t k room s ≡ unless (not_open tx s) s (read_after tx t k room s)
unfolding read_call
read_tests tx t k room s = unless_append (not_open tx s) (no_table t ∷ []) s (read_seen room (seen tx t k s) s)

-- the transaction is open
pub read_opened : (tx t k room : ℕ) (m : List ℕ) → 0 ≡ refusal_in (store_in m) (not_open tx)
    → read_call tx t k room (store_of (flat_of m)) ≡ read_after tx t k room (store_of (flat_of m))
read_opened tx t k room m e = call_after m (not_open tx) e (read_call tx t k room) (read_after tx t k room) (read_tests tx t k room) (open_numbered tx)

module _ (tx t k room : ℕ) (f : Flat) where
  pub read_10 : 7 < t → read_after tx t k room (store_of f) ≡ gives (model.refused 10) (store_of f)
  unfolding no_table
  read_10 h = refused_here 10 (ltb 7 t) [] _ _ (lt-ltb 7 t h)

  module _ (h : t ≤ 7) (r : Found ℕ) (sees : Sees f t r (seen tx t k (store_of f))) where
    seen_only : read_after tx t k room (store_of f) ≡ read_seen room (seen_at f t r) (store_of f)
    unfolding no_table
    seen_only = passed_on 10 (ltb 7 t) [] _ _ (le-ltb 7 t h) ∙ unless_none _ _ ∙ ap (λ (o : Option Row). read_seen room o (store_of f)) (sym sees.means)

    pub read_14 : r ≡ None → read_after tx t k room (store_of f) ≡ gives (model.refused 14) (store_of f)
    unfolding seen_at read_seen
    read_14 e = seen_only ∙ ap (λ (z : Found ℕ). read_seen room (seen_at f t z) (store_of f)) e

    module _ (i : ℕ) (e : r ≡ Some i) where
      pub seen_in : i < length f.rows
      unfolding Inside
      seen_in = rw e at sees.inside

      abbrev bytes : List ℕ
      bytes = (row_in f i).tuple.payload

      -- the payload as reply
      pub read_at : {n : ℕ} → n ≡ length bytes → read_after tx t k room (store_of f) ≡ replied room n bytes (store_of f)
      unfolding seen_at read_seen
      read_at q =
          seen_only ∙ ap (λ (z : Found ℕ). read_seen room (seen_at f t z) (store_of f)) e
          ∙ ap (λ (z : List ℕ). replied room (length z) z (store_of f)) (version_payload f t i) ∙ ap (λ (z : ℕ). replied room z bytes (store_of f)) (sym q)
