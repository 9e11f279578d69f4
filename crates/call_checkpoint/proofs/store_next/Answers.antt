-- `call_checkpoint::store_next` meets its contract: without a block left it is the header's store, else a block's, and one less is left (`header_left`, `block_less`).
use Rattle.basics.proofs.Kit.{◌≡◌, sym, ap, arith}
use Rattle.memory_layout.specs.declared.Head.{Head}
use Rattle.memory_layout.specs.Flat.{flat_of, no_entry}
use Rattle.memory_layout.proofs.Laws.{holds_room, sizes}
use Rattle.basics.proofs.Found.{first_most}
use Rattle.memory_pages.specs.Pages.{frozen_entry}
use Rattle.engine_allocator.specs.Blocks.{allocator_in}
use Rattle.call_checkpoint.specs.Keeping.{BlockLeft}
use Rattle.call_checkpoint.proofs.Stepping.{found_first, frozen_from}
use Rattle.call_checkpoint.proofs.Allotting.{header_left, block_less}
use Rattle.call_checkpoint.proofs.store_next.Goals as goal

pub first_frozen-p-requires : goal.first_frozen-p-requires
first_frozen-p-requires c = holds_room _ c.requires.runs.has_store

pub count_frozen-requires : goal.count_frozen-requires
count_frozen-requires c = (holds_room _ c.requires.runs.has_store, omega (arith, c.first_frozen-p.ensures, first_most frozen_entry no_entry (flat_of c.args.m.now).entries))

pub blocks_left-n-requires : goal.blocks_left-n-requires
blocks_left-n-requires c = (holds_room _ c.requires.runs.has_store, frozen_from _ c.first_frozen-p.ensures c.count_frozen.ensures)

pub store_header-requires : goal.store_header-requires
store_header-requires c = let p = c.requires in
    let e = c.blocks_left-n.ensures.0 in
    record { ready = p; none_frozen = omega (arith, c.if-n-eq0.true, e); complete = omega (arith, c.if-n-eq0.true, e) }

pub returns-then-n-eq0 : goal.returns-then-n-eq0
returns-then-n-eq0 c = let d = c.store_header.ensures in (d.0, sym d.1)

pub get_head-h-requires : goal.get_head-h-requires
get_head-h-requires c = (sizes (holds_room _ c.requires.runs.has_store)).long

pub lend_allocator-requires : goal.lend_allocator-requires
lend_allocator-requires c = let left_is : c.blocks_left-n.result ≡ (allocator_in c.args.m.now).left = c.blocks_left-n.ensures.0 in
    let block : BlockLeft c.args.image.now c.args.m.now c.first_frozen-p.result = let f = c.first_frozen-p in record { ready = c.requires; next = found_first c.args.m.now f.ensures; some_left = omega (arith, c.if-n-eq0.false, left_is) } in
    let t = ap (λ (x : Head). x.taken) c.get_head-h.ensures in
    let l = left_is in
    (block, λ i. record { taken = t i; left = l i })

pub overflow_add-result : goal.overflow_add-result
overflow_add-result c = let left_is : c.blocks_left-n.result ≡ (allocator_in c.args.m.now).left = c.blocks_left-n.ensures.0 in
    let block : BlockLeft c.args.image.now c.args.m.now c.first_frozen-p.result = let f = c.first_frozen-p in record { ready = c.requires; next = found_first c.args.m.now f.ensures; some_left = omega (arith, c.if-n-eq0.false, left_is) } in
    let b = block in
    let less = block_less b.ready.runs b.some_left c.lend_allocator.ensures.0 in
    record { fits = omega (arith, c.lend_allocator.ensures.1, less, left_is, c.blocks_left-n.ensures.1) }

pub returns : goal.returns
returns c = let left_is : c.blocks_left-n.result ≡ (allocator_in c.args.m.now).left = c.blocks_left-n.ensures.0 in
    let block : BlockLeft c.args.image.now c.args.m.now c.first_frozen-p.result = let f = c.first_frozen-p in record { ready = c.requires; next = found_first c.args.m.now f.ensures; some_left = omega (arith, c.if-n-eq0.false, left_is) } in
    let b = block in
    let e = c.lend_allocator.ensures in
    (e.0, omega (arith, e.1, header_left b.ready.runs b.some_left e.0))
