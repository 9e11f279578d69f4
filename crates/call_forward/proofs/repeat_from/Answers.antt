-- `call_forward::repeat_from` meets its contract: a walk along the records, each repeated (`going_next`), to the end or to one that is refused.
use Rattle.basics.proofs.Kit.{refl, ap, ◌∙◌, ◌+◌, arith}
use Rattle.block_forms.specs.Tuple.{AllBytes}
use Rattle.block_forms.proofs.Spelled.{all_bytes}
use Rattle.log_records.proofs.Walks.{small_entry}
use Rattle.std.proofs.lemmas.Result.{err_from_is_err_and}
use Rattle.call_forward.proofs.Walking.{turn_end, going_start, going_turn, going_end, going_next, going_stop}
use Rattle.call_forward.proofs.repeat_from.Goals as goal

pub loop-e-init : goal.loop-e-init
loop-e-init c = going_start c.args.s.now c.args.log.now c.args.at c.requires

pub entry_size-size-requires : goal.entry_size-size-requires
entry_size-size-requires c = let bytes : AllBytes c.args.log.now = all_bytes c.args.log.now (λ j. omega (arith, c.type_inv.log j)) in
    small_entry c.args.log.now bytes c.loop-e.p c.entry_at-e.ensures

pub returns-then-size-eq0 : goal.returns-then-size-eq0
returns-then-size-eq0 c = let bytes : AllBytes c.args.log.now = all_bytes c.args.log.now (λ j. omega (arith, c.type_inv.log j)) in
    going_end c.loop-e.invariant
    (turn_end c.args.log.now bytes c.loop-e.p c.loop-e.invariant.records c.loop-e.invariant.read c.entry_at-e.ensures c.entry_size-size.ensures
    (omega (arith, c.if-size-eq0.true)))

pub overflow_add-from : goal.overflow_add-from
overflow_add-from c = let t = going_turn c.loop-e.invariant (λ j. omega (arith, c.type_inv.log j)) c.entry_at-e.ensures c.entry_size-size.ensures (λ h. omega (arith, c.if-size-eq0.false)) in
    omega (arith, t.inside, c.min.ensures, c.type_inv.log 0)

pub overflow_add-next : goal.overflow_add-next
overflow_add-next c = let t = going_turn c.loop-e.invariant (λ j. omega (arith, c.type_inv.log j)) c.entry_at-e.ensures c.entry_size-size.ensures (λ h. omega (arith, c.if-size-eq0.false)) in
    omega (arith, t.inside, c.type_inv.log 0)

pub slice_bounds-repeat_entry-count : goal.slice_bounds-repeat_entry-count
slice_bounds-repeat_entry-count c = omega (arith, c.min.ensures)

pub slice_bounds-repeat_entry-start : goal.slice_bounds-repeat_entry-start
slice_bounds-repeat_entry-start c =
    let t = going_turn c.loop-e.invariant (λ j. omega (arith, c.type_inv.log j)) c.entry_at-e.ensures c.entry_size-size.ensures (λ h. omega (arith, c.if-size-eq0.false)) in
    omega (arith, t.inside, c.min.ensures)

pub slice_bounds-repeat_entry-end : goal.slice_bounds-repeat_entry-end
slice_bounds-repeat_entry-end c =
    let t = going_turn c.loop-e.invariant (λ j. omega (arith, c.type_inv.log j)) c.entry_at-e.ensures c.entry_size-size.ensures (λ h. omega (arith, c.if-size-eq0.false)) in
    omega (arith, t.inside)

pub shape_of-s-in_err-repeat_entry : goal.shape_of-s-in_err-repeat_entry
shape_of-s-in_err-repeat_entry c = c.repeat_entry.ensures.memory.size ∙ c.loop-e.invariant.left.stored.size

pub returns-in_err-repeat_entry : goal.returns-in_err-repeat_entry
returns-in_err-repeat_entry c = let t = going_turn c.loop-e.invariant (λ j. omega (arith, c.type_inv.log j)) c.entry_at-e.ensures c.entry_size-size.ensures (λ h. omega (arith, c.if-size-eq0.false)) in
    rw (err_from_is_err_and c.from_residual.result c.from_residual.ensures.1).1
    (going_stop c.loop-e.invariant t _ (t.payload _ _ (ap (λ n. c.loop-e.p + n) c.min.ensures) refl) c.in_err-repeat_entry.ensures refl)

pub loop-e-smaller : goal.loop-e-smaller
loop-e-smaller c = let t = going_turn c.loop-e.invariant (λ j. omega (arith, c.type_inv.log j)) c.entry_at-e.ensures c.entry_size-size.ensures (λ h. omega (arith, c.if-size-eq0.false)) in
    omega (arith, t.inside, t.two)

pub loop-e-preserved : goal.loop-e-preserved
loop-e-preserved c = let t = going_turn c.loop-e.invariant (λ j. omega (arith, c.type_inv.log j)) c.entry_at-e.ensures c.entry_size-size.ensures (λ h. omega (arith, c.if-size-eq0.false)) in
    going_next c.loop-e.invariant t _ (t.payload _ _ (ap (λ n. c.loop-e.p + n) c.min.ensures) refl) c.in_ok-repeat_entry.ensures refl

pub entry_at-e-requires : goal.entry_at-e-requires
entry_at-e-requires c = c.loop-e.invariant.inside

pub shape_of-s-then-size-eq0 : goal.shape_of-s-then-size-eq0
shape_of-s-then-size-eq0 c = c.loop-e.invariant.left.stored.size

pub repeat_entry-requires : goal.repeat_entry-requires
repeat_entry-requires c = c.loop-e.invariant.left.stored.has_store
