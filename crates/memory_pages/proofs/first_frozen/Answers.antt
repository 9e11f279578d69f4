-- `memory_pages::first_frozen` meets its contract. The invariant, which `pass_groups` gives: the search from page p on has the answer of the whole search.
use Rattle.basics.proofs.Kit.{◌∙◌, ◌+◌, ◌*◌, ◌≤◌, length, eq-eqb, ne_eqb, arith}
use Rattle.memory_pages.proofs.Frozen.{frozen_entries, blocks_inside}
use Rattle.memory_pages.specs.Pages.{frozen_word}
use Rattle.basics.proofs.Searches.{first_pass, first_hit, first_end}
use Rattle.memory_pages.proofs.first_frozen.Goals as goal

pub pass_groups-p-requires : goal.pass_groups-p-requires
pass_groups-p-requires c = blocks_inside c.requires c.page_count-n.ensures c.blocks-base.ensures

-- the number that is read stands in the memory
inside : (c : goal.In-loop-p) → c.blocks-base.result + c.page_count-n.result * 2 ≤ length c.args.m.now
inside c = blocks_inside c.requires c.page_count-n.ensures c.blocks-base.ensures

pub returns-then-get2-eq1 : goal.returns-then-get2-eq1
returns-then-get2-eq1 c = let m = c.args.m.now in
    let l = c.loop-p in
    first_hit frozen_word _ l.p c.page_count-n.result l.invariant.rest c.loop-p-test.true c.get2.ensures (eq-eqb _ 1 c.if-get2-eq1.true)
    ∙ frozen_entries m c.page_count-n.ensures c.blocks-base.ensures

pub loop-p-preserved : goal.loop-p-preserved
loop-p-preserved c = let l = c.loop-p in
    let k = c.loop-p-test.true in
    record {
      most = omega arith;
      rest = first_pass frozen_word _ l.p c.page_count-n.result l.invariant.rest k c.get2.ensures (ne_eqb _ 1 c.if-get2-eq1.false);
    }

pub returns : goal.returns
returns c = let m = c.args.m.now in let l = c.loop-p in
    first_end frozen_word _ l.p c.page_count-n.result l.invariant.rest l.invariant.most c.loop-p-test.false
    ∙ frozen_entries m c.page_count-n.ensures c.blocks-base.ensures

pub page_count-n-requires : goal.page_count-n-requires
page_count-n-requires c = c.requires

pub blocks-base-requires : goal.blocks-base-requires
blocks-base-requires c = c.requires

pub loop-p-init : goal.loop-p-init
loop-p-init c = c.pass_groups-p.ensures

pub overflow_mul-p : goal.overflow_mul-p
overflow_mul-p c = let i = inside c in omega arith

pub overflow_add-base : goal.overflow_add-base
overflow_add-base c = let i = inside c in omega arith

pub get2-requires : goal.get2-requires
get2-requires c = let i = inside c in omega arith
