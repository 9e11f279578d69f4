-- `call_forward::abort_open` meets its contract: it lends room for the numbers.
use Rattle.basics.proofs.Kit.{sym, ◌∙◌, ◌≤◌, length-take-le, arith}
use Rattle.image_rows.specs.Rows.{open_limit}
use Rattle.memory_layout.proofs.Laws.{known, holds_room}
use Rattle.call_forward.proofs.abort_open.Goals as goal

pub slice_bounds-numbers-end : goal.slice_bounds-numbers-end
slice_bounds-numbers-end c = let few : c.args.n ≤ open_limit = omega (arith, c.requires.count, known _ (holds_room _ c.requires.has_store)) in
    few

pub slice_bounds-abort_listed-end : goal.slice_bounds-abort_listed-end
slice_bounds-abort_listed-end c = let few : c.args.n ≤ open_limit = omega (arith, c.requires.count, known _ (holds_room _ c.requires.has_store)) in
    sym (length-take-le _ _ few)

pub abort_listed-requires : goal.abort_listed-requires
abort_listed-requires c = let few : c.args.n ≤ open_limit = omega (arith, c.requires.count, known _ (holds_room _ c.requires.has_store)) in
    let l = length-take-le _ _ few in
    record { has_store = c.requires.has_store; count = l ∙ c.requires.count; room = omega (arith, l, c.requires.room) }

pub returns : goal.returns
returns c = c.abort_listed.ensures
