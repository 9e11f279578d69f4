-- `engine_allocator::first_free` meets its contract. The invariant: each block passed is in use, so the first free one is found from b on.
use Rattle.basics.proofs.Kit.{sym, ◌∙◌, arith}
use Rattle.memory_layout.specs.Flat.{flat_of}
use Rattle.engine_allocator.proofs.Tallies.{free_hit, free_miss, free_end}
use Rattle.engine_allocator.proofs.first_free.Goals as goal

pub is_used-requires : goal.is_used-requires
is_used-requires c = (omega (arith, c.requires.most), c.requires.head)

pub returns-then-not-is_used : goal.returns-then-not-is_used
returns-then-not-is_used c = let used = (flat_of c.args.m.now).used in
    (c.loop-b.invariant ∙ free_hit used _ _ c.loop-b-test.true (sym c.is_used.ensures ∙ c.if-not-is_used.true), c.loop-b-test.true)

pub loop-b-preserved : goal.loop-b-preserved
loop-b-preserved c = let used = (flat_of c.args.m.now).used in
    c.loop-b.invariant ∙ free_miss used _ _ c.loop-b-test.true (sym c.is_used.ensures ∙ c.if-not-is_used.false)

pub returns : goal.returns
returns c = c.loop-b.invariant ∙ free_end (flat_of c.args.m.now).used _ _ c.loop-b-test.false
