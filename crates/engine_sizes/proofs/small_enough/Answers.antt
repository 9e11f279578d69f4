-- `engine_sizes::small_enough` meets its contract. The invariant: the sum is `all` plus the sizes of the rows from i on; `all` is not too large.
use Rattle.basics.proofs.Kit.{sym, ◌∙◌, ◌+◌, le-leb, lt-leb, leb-true, leb-false, arith}
use Rattle.basics.specs.Basics.{sum}
use Rattle.block_forms.specs.Limits.{join_sum}
use Rattle.model.specs.Rules.{held_size}
use Rattle.memory_layout.specs.Elements.{rows_from}
use Rattle.engine_sizes.proofs.Sizes.{sum_next, sum_none}
use Rattle.engine_sizes.proofs.small_enough.Goals as goal

pub size_at-w-requires : goal.size_at-w-requires
size_at-w-requires c = let g = c.requires in (g.room, omega (arith, g.inside, c.loop-i-test.true))

pub joins-requires : goal.joins-requires
joins-requires c = omega (arith, c.loop-i.invariant.0, c.size_at-w.ensures.1)

pub returns-then-not-joins : goal.returns-then-not-joins
returns-then-not-joins c = let a = c.args in
    let f = leb-false (c.loop-i.all + c.size_at-w.result) join_sum (sym c.joins.ensures ∙ c.if-not-joins.true) in
    let rest = sum_next a.m.now c.loop-i.i a.e c.loop-i-test.true c.requires.inside in
    sym (lt-leb (sum held_size (rows_from a.m.now a.s a.e)) join_sum (omega (arith, f, c.loop-i.invariant.1, c.size_at-w.ensures.0, rest)))

pub overflow_add-all : goal.overflow_add-all
overflow_add-all c = omega (arith, c.loop-i.invariant.0, c.size_at-w.ensures.1)

pub loop-i-preserved : goal.loop-i-preserved
loop-i-preserved c = let a = c.args in let rest = sum_next a.m.now c.loop-i.i a.e c.loop-i-test.true c.requires.inside in
    (leb-true _ join_sum (sym c.joins.ensures ∙ c.if-not-joins.false), omega (arith, c.loop-i.invariant.1, c.size_at-w.ensures.0, rest))

pub returns : goal.returns
returns c = let a = c.args in
    sym (le-leb (sum held_size (rows_from a.m.now a.s a.e)) join_sum (omega (arith, c.loop-i.invariant, sum_none a.m.now c.loop-i.i a.e c.loop-i-test.false)))
