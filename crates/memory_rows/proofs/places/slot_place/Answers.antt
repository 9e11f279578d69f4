-- `memory_rows::places::slot_place` meets its contract, by those of `capacity`, `ref_at`, `slot_of` and `slot_at`.
use Rattle.memory_rows.specs.Cells.{slot_in, slot_at}
use Rattle.memory_layout.specs.Views.{slot_of, slot_place}
use Rattle.basics.proofs.Kit.{◌≡◌, ap, ◌∙◌, arith}
use Rattle.memory_rows.proofs.places.slot_place.Goals as goal

pub returns : goal.returns
unfolding slot_in
returns c = let s = c.slot_of in
    let e : s.result ≡ slot_at c.args.m.now c.args.i = s.ensures.0 ∙ (λ i. slot_of (c.capacity.ensures.is i) (c.ref_at.ensures i)) in
    (c.slot_at.ensures ∙ ap slot_place e, omega arith)
