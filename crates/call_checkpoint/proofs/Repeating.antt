-- Run: steps in turn.
use Rattle.block_forms.specs.Limits.{block_size}
use Rattle.basics.proofs.Kit.{◌≡◌, refl, sym, ap, ◌∙◌, true, false, some, List, [], ◌∷◌, ◌++◌, ℕ, suc, ◌*◌, ◌≤◌, ◌<◌, min, length, eq-eqb, ne_eqb, arith}
use Rattle.basics.specs.Basics.{if'◌then◌else◌}
use Rattle.model.specs.State.{Store, Write, Outcome}
use Rattle.model.specs.Transactions.{gives, unless}
use Rattle.model.specs.Checkpoint.{is_running, left, step_at, bad_image, in_turn, run_call}
use Rattle.model.specs.Recover.{image_after}
use Rattle.model.proofs.Laws.{step_size}
use Rattle.memory_layout.specs.Flat.{flat_of}
use Rattle.memory_layout.specs.Store.{holds_store, store_of}
use Rattle.memory_layout.proofs.Laws.{Sound, blocks_is, in_some, in_sound}
use Rattle.call_contracts.specs.Shape.{Stores}
use Rattle.call_contracts.specs.declared.Reply.TheVariants.{Count}
use Rattle.std.specs.Prelude.{Ok}
use Rattle.call_contracts.proofs.Answering.{stores_count}
use Rattle.call_checkpoint.specs.Keeping.{Ready, Steps}
use Rattle.call_checkpoint.proofs.Running.{left_runs}
use Rattle.call_checkpoint.proofs.Allotting.{lowers}
use Rattle.model.specs.State as model

image_append : (ws vs : List Write) (img : List ℕ) → image_after (ws ++ vs) img ≡ image_after vs (image_after ws img)
unfolding image_after
image_append [] vs img = refl
image_append (w ∷ ws) vs img = image_append ws vs _

-- ---- the tests

module _ (limit len : ℕ) (s : Store) where
  pub run_5 : (len ≡ block_size * s.blocks → ⊥) → run_call limit len s ≡ gives (model.refused 5) s
  unfolding run_call bad_image unless if'◌then◌else◌
  run_5 h = rw (ne_eqb len (block_size * s.blocks) h)

  module _ (e : len ≡ block_size * s.blocks) where
    pub run_18 : is_running s.checkpoint ≡ false → run_call limit len s ≡ gives (model.refused 18) s
    unfolding run_call bad_image unless if'◌then◌else◌
    run_18 h = rw (eq-eqb len (block_size * s.blocks) e, h)

    run_at : is_running s.checkpoint ≡ true
        → run_call limit len s ≡ record { answer = model.count (min limit (left s)); store = (in_turn (min limit (left s)) s).store; writes = (in_turn (min limit (left s)) s).writes }
    unfolding run_call bad_image unless if'◌then◌else◌
    run_at h = rw (eq-eqb len (block_size * s.blocks) e, h)

-- ---- turn by turn

-- n of k steps are still to be made
pub record Repeats (img₀ m₀ : List ℕ) (k : ℕ) (img m : List ℕ) (n : ℕ) : Type 0 where
  pub size : length m ≡ length m₀
  pub wide : length img ≡ length img₀
  pub has_store : holds_store m ≡ true
  pub long : length img ≡ block_size * (flat_of m).head.blocks
  pub few : n ≤ left (store_of (flat_of m))
  pub store : (in_turn n (store_of (flat_of m))).store ≡ (in_turn k (store_of (flat_of m₀))).store
  pub image : image_after (in_turn n (store_of (flat_of m))).writes img ≡ image_after (in_turn k (store_of (flat_of m₀))).writes img₀

pub repeats_start : (img m : List ℕ) (k n : ℕ) → n ≡ k → Ready img m → k ≤ left (store_of (flat_of m)) → Repeats img m k img m n
repeats_start img m k n e r h =
    let s : Store = store_of (flat_of m) in
    record {
      size = refl;
      wide = refl;
      has_store = r.runs.has_store;
      long = r.long;
      few = omega (arith, e, h);
      store = ap (λ (z : ℕ). (in_turn z s).store) e;
      image = ap (λ (z : ℕ). image_after (in_turn z s).writes img) e;
    }

in_turn_next : (n : ℕ) (s : Store) → ((in_turn (suc n) s).store ≡ (in_turn n (step_at s.checkpoint s).store).store)
    × ((in_turn (suc n) s).writes ≡ (step_at s.checkpoint s).writes ++ (in_turn n (step_at s.checkpoint s).store).writes)
unfolding in_turn
in_turn_next n s = (refl, refl)

module _ {img₀ m₀ : List ℕ} {k : ℕ} {img m : List ℕ} {n : ℕ} (c : Repeats img₀ m₀ k img m n) where
  -- while steps are still to be made, the next one may be
  pub repeats_ready : 0 < n → Ready img m
  repeats_ready h = record { runs = record { has_store = c.has_store; on = left_runs (flat_of m) (omega (arith, c.few)) }; long = c.long }

  pub repeats_iteration : {i : ℕ} → n ≡ suc i → {img' m' : List ℕ} → length img' ≡ length img → Steps img m img' m' → Repeats img₀ m₀ k img' m' i
  repeats_iteration {i} j {img'} {m'} w d =
      let s : Store = store_of (flat_of m) in
      let o : Outcome = step_at s.checkpoint s in
      let e : length img ≡ block_size * s.blocks = c.long ∙ ap (λ (z : ℕ). block_size * z) (sym (blocks_is (flat_of m))) in
      let u : Sound m' o.store = in_sound m' o.store d.memory.store in
      let less : left s ≡ suc (left o.store) = lowers s (left_runs (flat_of m) (omega (arith, c.few))) in
      let x = in_turn_next i s in
      record {
        size = d.memory.size ∙ c.size;
        wide = w ∙ c.wide;
        has_store = u.has_store;
        long = w ∙ e ∙ ap (λ (z : ℕ). block_size * z) (sym (step_size s) ∙ ap (λ (z : Store). z.blocks) (sym u.means) ∙ blocks_is (flat_of m'));
        few = omega (arith, c.few, less, ap left u.means);
        store = ap (λ (z : Store). (in_turn i z).store) u.means ∙ sym x.0 ∙ ap (λ (z : ℕ). (in_turn z s).store) (sym j) ∙ c.store;
        image =
            ap (λ (z : Store). image_after (in_turn i z).writes img') u.means
            ∙ ap (image_after (in_turn i o.store).writes) d.image
            ∙ sym (image_append o.writes (in_turn i o.store).writes img)
            ∙ ap (λ (z : List Write). image_after z img) (sym x.1)
            ∙ ap (λ (z : ℕ). image_after (in_turn z s).writes img) (sym j)
            ∙ c.image;
      }

  none_left : n ≡ 0 → (store_of (flat_of m) ≡ (in_turn k (store_of (flat_of m₀))).store) × (img ≡ image_after (in_turn k (store_of (flat_of m₀))).writes img₀)
  unfolding in_turn gives image_after
  none_left z =
      (ap (λ (i : ℕ). (in_turn i (store_of (flat_of m))).store) (sym z) ∙ c.store, ap (λ (i : ℕ). image_after (in_turn i (store_of (flat_of m))).writes img) (sym z) ∙ c.image)

  pub repeats_end : n ≡ 0 → (limit : ℕ) → Ready img₀ m₀ → k ≡ min limit (left (store_of (flat_of m₀))) → (a : ℕ) → a ≡ k
      → Stores (run_call limit (length img₀)) img₀ m₀ (Ok (Count a)) img m
  repeats_end h limit r ek a ea =
      let s : Store = store_of (flat_of m₀) in
      let x = none_left h in
      let e : length img₀ ≡ block_size * s.blocks = r.long ∙ ap (λ (z : ℕ). block_size * z) (sym (blocks_is (flat_of m₀))) in
      stores_count (run_call limit (length img₀)) m₀ img₀ img m a (in_turn k s).store (in_turn k s).writes r.runs.has_store
      (run_at limit (length img₀) s e r.runs.on
      ∙ ap (λ (i : ℕ). record { answer = model.count i; store = (in_turn i s).store; writes = (in_turn i s).writes }) (sym ek)
      ∙ ap (λ (i : ℕ). record { answer = model.count i; store = (in_turn k s).store; writes = (in_turn k s).writes }) (sym ea))
      (record { size = c.size; store = in_some m c.has_store ∙ ap some x.0 }) x.1
