-- `engine_pages::apply_pending_rows` meets its contract. The invariant: the operations of all rows but those that are left are applied, and row i is the next.
use Rattle.engine_pages.proofs.Places.{start_there}
use Rattle.memory_layout.proofs.Laws.{sizes}
use Rattle.engine_pages.proofs.Applying.{apply_start, apply_may, apply_next, apply_end, one_most}
use Rattle.basics.proofs.Kit.{◌≡◌, ◌+◌, ◌-◌, arith}
use Rattle.engine_pages.proofs.apply_pending_rows.Goals as goal

pub start_of-s-requires : goal.start_of-s-requires
start_of-s-requires c = start_there c.requires

pub loop-init : goal.loop-init
loop-init c = let n = c.count_at-n.result in let e : n - 0 ≡ n = omega arith in
    rw e (apply_start c.requires c.start_of-s.ensures.0 c.count_at-n.ensures)

pub apply_pending_row-i-requires : goal.apply_pending_row-i-requires
apply_pending_row-i-requires c = apply_may c.requires (omega (arith, c.loop-test.true)) c.loop.invariant

pub overflow_add-i : goal.overflow_add-i
overflow_add-i c = let g = apply_may c.requires (omega (arith, c.loop-test.true)) c.loop.invariant in
    omega (arith, one_most c.apply_pending_row-i.result c.apply_pending_row-i.ensures, g.1.row, (sizes g.0).rows)

pub loop-preserved : goal.loop-preserved
loop-preserved c = let n = c.count_at-n.result in let k = c.loop.counter in let e : n - (k + 1) ≡ n - k - 1 = omega arith in
    rw e (apply_next c.requires (omega (arith, c.loop-test.true)) c.loop.invariant c.apply_pending_row-i.result c.apply_pending_row-i.ensures)

pub overflow_sub-result : goal.overflow_sub-result
overflow_sub-result c = omega (arith, c.loop.invariant.place, c.start_of-s.ensures.0)

pub shape_of-m : goal.shape_of-m
shape_of-m c = c.loop.invariant.becomes.size

pub returns : goal.returns
returns c = apply_end c.requires c.start_of-s.ensures.0 (omega (arith, c.loop-test.false)) c.loop.invariant
