-- Numbers of a row's columns as the model's values.
use Rattle.basics.proofs.Kit.{◌≡◌, refl, sym, ap, ◌∙◌, Bool, true, false, ◌&&◌, List, ℕ, ◌+◌, ◌≤◌, ◌<◌, ltb, length, arith}
use Rattle.basics.specs.Basics.{if'◌then◌else◌}
use Rattle.block_forms.specs.Limits.{record_head, owner_width, committed_value}
use Rattle.block_forms.specs.Tuple.{Tuple, size, owner_size, record_size}
use Rattle.image_rows.specs.Rows.{is_by}
use Rattle.model.specs.State.{Pending, nothing, adding, committing, removing, Held}
use Rattle.model.specs.Rules.{held_size, is_removing, is_committing, applied, as_committed}
use Rattle.block_forms.proofs.ReadTuples.{owner_size_lem}
use Rattle.memory_bytes.specs.Bytes.{le4}
use Rattle.memory_bytes.proofs.Bytes.{length_bytes}
use Rattle.memory_layout.specs.Views.{length_of, state_of, slot_place}
use Rattle.memory_layout.specs.Flat.{flat_of, rows_of, capacity_of, row_in}
use Rattle.memory_rows.specs.Rows.{is_live_own}
use Rattle.memory_rows.specs.Cells.{keeps_owner, slot_at}
use Rattle.memory_rows.proofs.Access.{owner_is_lem, payload_is}

-- ---- sizes

-- the size goes by the state alone
pub size_is : (m : List ℕ) (i : ℕ) → i < length (rows_of m) → (s : ℕ) → s ≡ state_of m (capacity_of m) i
    → held_size (row_in (flat_of m) i) ≡ record_size (ltb s committed_value) (length_of s)
unfolding held_size size
size_is m i h s e =
    let o : owner_size (row_in (flat_of m) i).tuple.owner ≡ (if' ltb s committed_value then owner_width else 0) =
    ap owner_size (owner_is_lem m i h) ∙ owner_size_lem (state_of m (capacity_of m) i) (le4 m (slot_place (slot_at m i) + 4))
    ∙ ap (λ (z : ℕ). if' ltb z committed_value then owner_width else 0) (sym e) in
    let p : length (row_in (flat_of m) i).tuple.payload ≡ length_of s =
    ap length (payload_is m i h) ∙ length_bytes m (slot_place (slot_at m i) + 8) (length_of (state_of m (capacity_of m) i)) ∙ ap length_of (sym e) in
    λ j. record_head + o j + p j

-- ---- owners

-- a live row is its owner's as long as the pending operation leaves it there
pub live_is : (tx : ℕ) (h : Held) → is_live_own tx h ≡ (keeps_owner h.pending && is_by tx h.tuple.owner)
unfolding is_live_own applied as_committed is_removing is_committing is_by if'◌then◌else◌
live_is tx h = by_pending_lem h.tuple h.pending
  where
    by_pending_lem : (x : Tuple) (p : Pending) → is_live_own tx (record { tuple = x; pending = p }) ≡ (keeps_owner p && is_by tx x.owner)
    by_pending_lem x nothing = refl
    by_pending_lem x adding = refl
    by_pending_lem x committing = refl
    by_pending_lem x removing = refl

pub owner_most : (t : Bool) → (if' t then owner_width else 0) ≤ owner_width
unfolding if'◌then◌else◌
owner_most true = omega arith
owner_most false = omega arith
