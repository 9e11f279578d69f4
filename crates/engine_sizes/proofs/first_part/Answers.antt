-- `engine_sizes::first_part` meets its contract. The invariant (`Between`): the rest of the walk, from rows i and j on, ends where the whole walk does.
use Rattle.basics.proofs.Kit.{arith}
use Rattle.engine_sizes.proofs.Walking.{walk_start, row_there, few, light, walk_left, walk_right, walk_end}
use Rattle.engine_sizes.proofs.first_part.Goals as goal

pub loop-i-init : goal.loop-i-init
loop-i-init c = let g = c.requires in walk_start g.0 g.1 c.size_at-left.ensures.0 c.size_at-right.ensures.0

pub size_at-left-requires-then-left-right : goal.size_at-left-requires-then-left-right
size_at-left-requires-then-left-right c = row_there c.requires.0 c.loop-i.invariant (omega arith) (omega (arith, c.loop-i-test.true))

pub loop-i-preserved-then-left-right : goal.loop-i-preserved-then-left-right
loop-i-preserved-then-left-right c = walk_left c.requires.0 c.loop-i.invariant (omega (arith, c.loop-i-test.true)) (omega (arith, c.if-left-right.true)) c.size_at-left-then-left-right.ensures.0

pub size_at-right-requires-else-left-right : goal.size_at-right-requires-else-left-right
size_at-right-requires-else-left-right c = row_there c.requires.0 c.loop-i.invariant (omega (arith, c.loop-i-test.true)) (omega arith)

pub loop-i-preserved : goal.loop-i-preserved
loop-i-preserved c = walk_right c.requires.0 c.loop-i.invariant (omega (arith, c.loop-i-test.true)) (omega (arith, c.if-left-right.false)) c.size_at-right-else-left-right.ensures.0

pub returns : goal.returns
returns c = walk_end c.requires.0 c.loop-i.invariant (omega (arith, c.loop-i-test.false)) (omega arith) (omega arith)

pub overflow_sub-j : goal.overflow_sub-j
overflow_sub-j c = omega (arith, c.requires.1)

pub size_at-left-requires : goal.size_at-left-requires
size_at-left-requires c = let g = c.requires in (g.0.room, omega (arith, g.0.inside, g.1))

pub size_at-right-requires : goal.size_at-right-requires
size_at-right-requires c = let g = c.requires in (g.0.room, omega (arith, g.0.inside, g.1))

pub overflow_add-i : goal.overflow_add-i
overflow_add-i c = omega (arith, few c.requires.0 c.loop-i.invariant)

pub overflow_add-left : goal.overflow_add-left
overflow_add-left c = omega (arith, (light c.requires.0 c.loop-i.invariant).0, c.size_at-left-then-left-right.ensures.1)

pub loop-i-smaller-then-left-right : goal.loop-i-smaller-then-left-right
loop-i-smaller-then-left-right c = omega (arith, c.loop-i-test.true)

pub overflow_sub-j-else-left-right : goal.overflow_sub-j-else-left-right
overflow_sub-j-else-left-right c = omega (arith, c.loop-i-test.true)

pub overflow_add-right : goal.overflow_add-right
overflow_add-right c = omega (arith, (light c.requires.0 c.loop-i.invariant).1, c.size_at-right-else-left-right.ensures.1)

pub loop-i-smaller : goal.loop-i-smaller
loop-i-smaller c = omega (arith, c.loop-i-test.true)

pub overflow_add-result : goal.overflow_add-result
overflow_add-result c = omega (arith, few c.requires.0 c.loop-i.invariant)

pub overflow_sub-result : goal.overflow_sub-result
overflow_sub-result c = omega (arith, c.loop-i.invariant.least)
