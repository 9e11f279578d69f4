-- `engine_pages::has_pending` meets its contract. The invariant (`AnyFrom`): the answer is hit, or whether one of the page's rows from row i on has a pending operation.
use Rattle.basics.proofs.Kit.{ap, ◌∙◌, arith}
use Rattle.memory_bytes.proofs.Scans.{any_starts, any_next, any_ends}
use Rattle.engine_sizes.proofs.Sizes.{rows_by}
use Rattle.engine_pages.proofs.Places.{room, start_there, next_there, page_span, tuples_are}
use Rattle.memory_layout.proofs.Laws.{sizes}
use Rattle.engine_pages.specs.Pending.{has_pending}
use Rattle.memory_layout.specs.Elements.{RowRange}
use Rattle.basics.specs.Basics.{any}
use Rattle.engine_pages.proofs.has_pending.Goals as goal

pub overflow_add-p : goal.overflow_add-p
overflow_add-p c = let a = c.requires in omega (arith, a.inside, (sizes (room a)).pages)

pub is_pending-hit-requires : goal.is_pending-hit-requires
is_pending-hit-requires c = let spanned : RowRange c.args.m.now c.start_of-s.result c.start_of-e.result = page_span c.requires c.start_of-s.ensures.0 c.start_of-e.ensures.0 in
    let g = spanned in (g.room, omega (arith, g.inside, c.loop-i-test.true))

pub returns : goal.returns
returns c = let spanned : RowRange c.args.m.now c.start_of-s.result c.start_of-e.result = page_span c.requires c.start_of-s.ensures.0 c.start_of-e.ensures.0 in
    any_ends c.loop-i.invariant c.loop-i-test.false
    ∙ ap (any has_pending) (rows_by (spanned) ∙ tuples_are c.requires c.start_of-s.ensures.0 c.start_of-e.ensures.0)

pub start_of-e-requires : goal.start_of-e-requires
start_of-e-requires c = next_there c.requires

pub start_of-s-requires : goal.start_of-s-requires
start_of-s-requires c = start_there c.requires

pub loop-i-init : goal.loop-i-init
loop-i-init c = let spanned : RowRange c.args.m.now c.start_of-s.result c.start_of-e.result = page_span c.requires c.start_of-s.ensures.0 c.start_of-e.ensures.0 in
    any_starts (spanned).order

pub loop-i-preserved : goal.loop-i-preserved
loop-i-preserved c = any_next c.loop-i.invariant c.loop-i-test.true c.is_pending-hit.ensures
