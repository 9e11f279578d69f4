-- The allocator from store to store: each store makes the stores left one less, and each block store the blocks left.
use Rattle.block_forms.specs.Limits.{block_size}
use Rattle.basics.proofs.Kit.{◌≡◌, refl, sym, ap, ◌∙◌, true, List, ℕ, suc, ◌+◌, ◌*◌, ◌≤◌, arith}
use Rattle.model.specs.State.{Store, Outcome}
use Rattle.model.specs.Checkpoint.{with_progress, is_running, left, left_of, header_stored, step_at, step_call}
use Rattle.model.specs.Calls.{accepted}
use Rattle.model.proofs.Laws.{one_less, step_at_lem}
use Rattle.memory_layout.specs.Flat.{flat_of}
use Rattle.memory_layout.specs.Store.{store_of, HoldsNow}
use Rattle.memory_layout.proofs.Laws.{taken_is, in_sound}
use Rattle.engine_allocator.specs.Blocks.{allocator_in}
use Rattle.call_checkpoint.specs.Keeping.{after_store, RunningIn, Steps}
use Rattle.call_checkpoint.proofs.Running.{left_runs, left_is}
use Rattle.call_checkpoint.proofs.Stepping.{answer_of}
use Rattle.model.specs.State as model

accepts : (a : model.Answer) (n : ℕ) → a ≡ model.count n → accepted a ≡ true
unfolding accepted
accepts a n e = ap accepted e

-- each step lowers what is left by one
pub lowers : (s : Store) → is_running s.checkpoint ≡ true → left s ≡ suc (left (step_at s.checkpoint s).store)
lowers s on =
    let len : ℕ = block_size * s.blocks in
    let q : step_call len s ≡ step_at s.checkpoint s = step_at_lem len s refl in
    (one_less len s (ap (λ (z : Outcome). accepted z.answer) q ∙ accepts _ _ (answer_of s.checkpoint s on))).1
    ∙ ap (λ (z : Outcome). suc (left z.store)) q

-- the block last taken, in the memory that holds s
pub taken_now : {m m' : List ℕ} {s : Store} → HoldsNow m m' s → s.taken ≡ (allocator_in m').taken
taken_now {m} {m'} {s} l = sym (ap (λ (z : Store). z.taken) (in_sound m' s l.store).means) ∙ taken_is (flat_of m')

-- after the header nothing is left
pub none_left : {m m' : List ℕ} → HoldsNow m m' (after_store (λ n. header_stored) (flat_of m)) → left (store_of (flat_of m')) ≡ 0
unfolding with_progress left left_of
none_left {m} {m'} l = ap left (in_sound m' _ l.store).means

module _ {img m img' m' : List ℕ} (r : RunningIn m) (h : 1 ≤ (allocator_in m).left) (d : Steps img m img' m') where
  store_less : left (store_of (flat_of m)) ≡ suc (left (store_of (flat_of m')))
  store_less = lowers (store_of (flat_of m)) r.on ∙ ap (λ (z : Store). suc (left z)) (sym (in_sound m' _ d.memory.store).means)

  -- the checkpoint runs on: its header is left
  pub header_left : (allocator_in m').left + 1 ≡ left (store_of (flat_of m'))
  header_left = left_is (flat_of m') (left_runs (flat_of m') (omega (arith, left_is (flat_of m) r.on, store_less)))

  pub block_less : (allocator_in m).left ≡ suc (allocator_in m').left
  block_less = omega (arith, left_is (flat_of m) r.on, store_less, header_left)
