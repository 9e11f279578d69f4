-- `engine_sizes::rows_size` meets its contract. The invariant: the sum is `all` plus the sizes of the rows from i on. No sum is large (`rows_most`).
use Rattle.basics.proofs.Kit.{arith}
use Rattle.memory_layout.proofs.Laws.{sizes}
use Rattle.engine_sizes.proofs.Sizes.{rows_most, sum_next, sum_none}
use Rattle.engine_sizes.proofs.rows_size.Goals as goal

pub size_at-requires : goal.size_at-requires
size_at-requires c = let g = c.requires in (g.room, omega (arith, g.inside, c.loop-i-test.true))

pub overflow_cast-all : goal.overflow_cast-all
overflow_cast-all c = omega (arith, c.size_at.ensures.1)

pub overflow_add-all : goal.overflow_add-all
overflow_add-all c = let g = c.requires in omega (arith, c.loop-i.invariant, rows_most g, g.inside, (sizes g.room).rows, c.size_at.ensures.1)

-- with the row that was measured
pub loop-i-preserved : goal.loop-i-preserved
loop-i-preserved c = let a = c.args in
    omega (arith, c.loop-i.invariant, c.size_at.ensures.0, sum_next a.m.now c.loop-i.i a.e c.loop-i-test.true c.requires.inside)

pub returns : goal.returns
returns c = let a = c.args in omega (arith, c.loop-i.invariant, sum_none a.m.now c.loop-i.i a.e c.loop-i-test.false)
