-- `call_forward::repeat_marked` meets its contract: the mark's opens, then the records behind it.
use Rattle.basics.proofs.Kit.{refl, arith}
use Rattle.block_forms.proofs.Spelled.{all_bytes}
use Rattle.std.proofs.lemmas.Result.{err_from_is_err_and}
use Rattle.call_forward.proofs.Marked.{at_mark, mark_here, marked_stop, marked_may, marked_then}
use Rattle.call_forward.proofs.repeat_marked.Goals as goal

pub returns-in_err-open_marked : goal.returns-in_err-open_marked
returns-in_err-open_marked c =
    let here = mark_here c.args.s.now c.args.log.now c.args.at (all_bytes c.args.log.now (λ j. omega (arith, c.type_inv.log j))) c.requires c.entry_at.ensures c.in-Mark.is in
    rw (err_from_is_err_and c.from_residual.result c.from_residual.ensures.1).1 (marked_stop c.args.s.now c.args.log.now c.args.at _ _ _ here c.in_err-open_marked.ensures refl)

pub mark_size-requires : goal.mark_size-requires
mark_size-requires c = let here = mark_here c.args.s.now c.args.log.now c.args.at (all_bytes c.args.log.now (λ j. omega (arith, c.type_inv.log j))) c.requires c.entry_at.ensures c.in-Mark.is in
    omega (arith, here.opens.few)

pub overflow_add-at : goal.overflow_add-at
overflow_add-at c = let here = mark_here c.args.s.now c.args.log.now c.args.at (all_bytes c.args.log.now (λ j. omega (arith, c.type_inv.log j))) c.requires c.entry_at.ensures c.in-Mark.is in
    omega (arith, here.inside, c.mark_size.ensures)

pub repeat_from-requires : goal.repeat_from-requires
repeat_from-requires c = let here = mark_here c.args.s.now c.args.log.now c.args.at (all_bytes c.args.log.now (λ j. omega (arith, c.type_inv.log j))) c.requires c.entry_at.ensures c.in-Mark.is in
    marked_may c.args.s.now c.args.log.now c.args.at _ _ _ here c.in_ok-open_marked.ensures refl _ c.mark_size.ensures

pub returns : goal.returns
returns c = let here = mark_here c.args.s.now c.args.log.now c.args.at (all_bytes c.args.log.now (λ j. omega (arith, c.type_inv.log j))) c.requires c.entry_at.ensures c.in-Mark.is in
    marked_then c.args.s.now c.args.log.now c.args.at _ _ _ here c.in_ok-open_marked.ensures refl _ c.mark_size.ensures
    c.repeat_from.ensures

pub open_marked-requires : goal.open_marked-requires
open_marked-requires c = let here = mark_here c.args.s.now c.args.log.now c.args.at (all_bytes c.args.log.now (λ j. omega (arith, c.type_inv.log j))) c.requires c.entry_at.ensures c.in-Mark.is in
    here.opens

pub unreachable-requires : goal.unreachable-requires
unreachable-requires c = c.in_default.not-Mark _ _ (at_mark c.args.s.now c.args.log.now c.args.at c.requires c.entry_at.ensures)
