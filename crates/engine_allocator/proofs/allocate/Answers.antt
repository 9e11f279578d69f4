-- `engine_allocator::allocate` meets its contract: the search up to the last block, then from block 1 on, is the model's search in one list (`alloc_up`, `alloc_round`).
use Rattle.basics.proofs.Kit.{ap, ◌∙◌, arith}
use Rattle.memory_layout.specs.declared.Head.{Head}
use Rattle.memory_layout.specs.Flat.{flat_of}
use Rattle.engine_allocator.proofs.Tallies.{alloc_up, alloc_round, round_low}
use Rattle.engine_allocator.proofs.allocate.Goals as goal

pub first_free-requires : goal.first_free-requires
first_free-requires c = let r = c.requires.0.range in
    let eb = ap (λ (h : Head). h.blocks) c.get_head-n.ensures in
    record { head = omega (arith, r.long); order = omega (arith, r.taken, c.requires.1); most = omega (arith, r.many) }

pub returns-in-Some : goal.returns-in-Some
returns-in-Some c = let eb = ap (λ (h : Head). h.blocks) c.get_head-n.ensures in
    (alloc_up (flat_of c.args.m.now) eb c.requires.1 c.in-Some.ensures.0, omega (arith, eb, c.in-Some.ensures.1))

pub first_free-requires-2 : goal.first_free-requires-2
first_free-requires-2 c = let r = c.requires.0.range in
    record { head = omega (arith, r.long); order = omega arith; most = omega (arith, r.taken, r.many, c.requires.1) }

pub overflow_sub-n : goal.overflow_sub-n
overflow_sub-n c = let eb = ap (λ (h : Head). h.blocks) c.get_head-n.ensures in omega (arith, eb, c.requires.0.range.few)

pub returns : goal.returns
returns c = let f = flat_of c.args.m.now in let r = c.requires.0.range in
    let eb = ap (λ (h : Head). h.blocks) c.get_head-n.ensures in
    let e = c.unwrap_or.ensures in
    (e ∙ alloc_round f eb c.requires.1 c.in_default.ensures _ c.first_free-2.ensures, omega (arith, e, eb, round_low f.used c.args.taken c.get_head-n.result.blocks _ c.first_free-2.ensures (omega (arith, eb, c.requires.1, r.taken))))
