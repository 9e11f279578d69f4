-- `engine_pages::freeze` meets its contract. The invariant: the first p pages are frozen where they were dirty, and the others are as at entry.
use Rattle.memory_layout.specs.Flat.{flat_of}
use Rattle.memory_layout.proofs.Laws.{holds_room, pages_read, sizes}
use Rattle.basics.proofs.Kit.{◌<◌, length, arith}
use Rattle.engine_pages.proofs.Places.{holds_now}
use Rattle.engine_pages.proofs.Freezing.{freeze_start, freeze_there, freeze_next, freeze_end}
use Rattle.engine_pages.proofs.freeze.Goals as goal

pub freeze_page-requires : goal.freeze_page-requires
freeze_page-requires c = let inside : c.loop-p.p < length (flat_of c.args.m.now).entries = omega (arith, pages_read c.args.m.now c.get_counts-n.ensures, c.loop-p-test.true) in
    freeze_there c.loop-p.p c.requires (inside) c.loop-p.invariant

pub loop-p-preserved : goal.loop-p-preserved
loop-p-preserved c = let inside : c.loop-p.p < length (flat_of c.args.m.now).entries = omega (arith, pages_read c.args.m.now c.get_counts-n.ensures, c.loop-p-test.true) in
    freeze_next c.loop-p.p c.requires (inside) c.loop-p.invariant c.freeze_page.ensures

pub returns : goal.returns
returns c = holds_now (freeze_end c.loop-p.p c.loop-p.invariant (omega (arith, pages_read c.args.m.now c.get_counts-n.ensures, c.loop-p-test.false)))

pub get_counts-n-requires : goal.get_counts-n-requires
get_counts-n-requires c = (sizes (holds_room _ c.requires)).long

pub loop-p-init : goal.loop-p-init
loop-p-init c = freeze_start c.args.m.now c.requires

pub shape_of-m : goal.shape_of-m
shape_of-m c = c.loop-p.invariant.1.size
