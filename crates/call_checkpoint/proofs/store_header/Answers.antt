-- `call_checkpoint::store_header` meets its contract: the part of the image that is lent is block 0 (`front_is`), and image and store are the model's (`header_does`).
use Rattle.block_forms.specs.Limits.{block_size}
use Rattle.basics.proofs.Kit.{length-take, arith}
use Rattle.memory_layout.proofs.Laws.{holds_room, sizes}
use Rattle.call_checkpoint.proofs.Allotting.{none_left}
use Rattle.call_checkpoint.proofs.Stepping.{front_is, header_does}
use Rattle.call_checkpoint.proofs.Running.{running_is}
use Rattle.call_checkpoint.proofs.store_header.Goals as goal

pub slice_bounds-write_header-end : goal.slice_bounds-write_header-end
slice_bounds-write_header-end c = let p = c.requires.ready in omega (arith, p.long, sizes (holds_room _ p.runs.has_store))

pub slice_bounds-write_header-end-2 : goal.slice_bounds-write_header-end-2
slice_bounds-write_header-end-2 c = let p = c.requires.ready in omega (arith, p.long, sizes (holds_room _ p.runs.has_store), length-take block_size c.args.image.now)

pub write_header-requires : goal.write_header-requires
write_header-requires c = let p = c.requires.ready in
    let r = holds_room _ p.runs.has_store in
    (r, record { level = (running_is _ p.runs.on).1; size = omega (arith, p.long, sizes r, length-take block_size c.args.image.now) })

pub returns : goal.returns
returns c = let k = c.keep_header.ensures in
    (header_does c.requires.ready.runs c.requires.none_frozen c.requires.complete c.write_header.ensures (front_is _ _) k, none_left k)
