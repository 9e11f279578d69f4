-- Row by row and run by run: one row more that does not cross, and a run's key put out or not.
use Rattle.basics.proofs.Kit.{◌≡◌, sym, ap, ◌∙◌, ⊎_elim, true, false, some, List, [], ◌∷◌, ℕ, ◌+◌, ◌*◌, ◌<◌, length, arith}
use Rattle.basics.specs.Basics.{if'◌then◌else◌}
use Rattle.basics.specs.Lists.{over}
use Rattle.basics.proofs.Tabs.{lt_or_ge}
use Rattle.basics.proofs.Overs.{over_nil}
use Rattle.model.specs.Crossing.{crosses, key_if, key_bytes}
use Rattle.memory_layout.specs.Flat.{Flat, row_in}
use Rattle.memory_rows.specs.Rows.{key_in}
use Rattle.engine_lookup.specs.Lookup.{version, seen_at, Inside}
use Rattle.std.specs.Prelude.{Option as Found, Some, None}
use Rattle.model.proofs.Rows.{applied_is}
use Rattle.block_forms.specs.Tuple.{Tuple}
use Rattle.engine_crossing.specs.Crossing.{NoneCross, RunSeen, run_keys, RunAdded}
use Rattle.engine_crossing.proofs.Runs.{applied_crosses}

-- one row more does not cross
pub cross_more : (f : Flat) (first end i r : ℕ) → NoneCross f first end i r → crosses first end (row_in f r).tuple ≡ false → NoneCross f first end i (r + 1)
cross_more f first end i r p h j x y =
    ⊎_elim (λ l. p j x l) (λ l. let q : j ≡ r = omega arith in ap (λ k. crosses first end (row_in f k).tuple) q ∙ h) (lt_or_ge j r)

-- ---- what is seen of a run

module _ {f : Flat} (tx first end a b : ℕ) {r : Found ℕ} (s : RunSeen f tx a b r) where
  -- nothing
  keys_nothing : r ≡ None → (t : ℕ) → run_keys f tx first end t a b ≡ []
  unfolding seen_at key_if
  keys_nothing e t = ap (key_if first end) (sym (s t).means ∙ ap (seen_at f t) e)

  module _ (k : ℕ) (e : r ≡ Some k) where
    pub run_inside : k < length f.rows
    unfolding Inside
    run_inside = rw e at (s 0).inside

    keys_version : (t : ℕ) → run_keys f tx first end t a b ≡ key_if first end (some (version f t k))
    unfolding seen_at
    keys_version t = ap (key_if first end) (sym (s t).means ∙ ap (seen_at f t) e)

    keys_not : crosses first end (row_in f k).tuple ≡ false → (t : ℕ) → run_keys f tx first end t a b ≡ []
    unfolding key_if version if'◌then◌else◌
    keys_not c t = keys_version t ∙ rw (applied_crosses first end (row_in f k) ∙ c)

    keys_one : crosses first end (row_in f k).tuple ≡ true → (t : ℕ) → run_keys f tx first end t a b ≡ key_in f k ∷ []
    unfolding key_if version if'◌then◌else◌
    keys_one c t = keys_version t ∙ rw (applied_crosses first end (row_in f k) ∙ c) (ap (λ (x : Tuple). x.key ∷ []) (applied_is (row_in f k)))

  -- ---- what is put out

  module _ (n : ℕ) (out : List ℕ) where
    added_none : ((t : ℕ) → run_keys f tx first end t a b ≡ []) → RunAdded f tx first end a b n n out out
    unfolding key_bytes
    added_none e =
        record { count = λ t. omega (arith, ap length (e t)); keys = λ t. sym (over_nil out (4 * n)) ∙ ap (λ ks. over out (4 * n) (key_bytes ks)) (sym (e t)) }

    pub added_unseen : r ≡ None → RunAdded f tx first end a b n n out out
    added_unseen e = added_none (keys_nothing e)

    pub added_not : (k : ℕ) → r ≡ Some k → crosses first end (row_in f k).tuple ≡ false → RunAdded f tx first end a b n n out out
    added_not k e c = added_none (keys_not k e c)

    pub added_key : {out' : List ℕ} {key : ℕ} (k : ℕ) → r ≡ Some k → crosses first end (row_in f k).tuple ≡ true → key ≡ key_in f k
        → out' ≡ over out (4 * n) (key_bytes (key ∷ [])) → RunAdded f tx first end a b n (n + 1) out out'
    added_key k e c q h =
        record {
          count = λ t. omega (arith, ap length (keys_one k e c t));
          keys = λ t. h ∙ ap (λ ks. over out (4 * n) (key_bytes ks)) (ap (λ z. z ∷ []) q ∙ sym (keys_one k e c t));
        }
