-- `call_recovery::load_pages` meets its contract. The invariant: the pages in the blocks passed are loaded.
use Rattle.basics.proofs.Kit.{refl, arith}
use Rattle.image.proofs.Collect.{within}
use Rattle.image.specs.View.{view}
use Rattle.call_recovery.proofs.Naming.{named_below, all_pages, loading_start, loading_iteration, loading_room}
use Rattle.call_recovery.proofs.load_pages.Goals as goal

pub loop-e-init : goal.loop-e-init
loop-e-init c = loading_start (view _) _ c.args.entries.now c.requires.1.room c.requires.1.order

pub load_page-requires : goal.load_page-requires
load_page-requires c = let a = c.args in
    let l = c.loop-e in
    let pre = c.requires in
    let h = c.loop-e-test.true in (
      record {
        inside = omega (arith, within _ _ _ pre.0.named h);
        low = omega (arith, named_below _ _ _ pre.0.named h, pre.0.few);
        page = all_pages (view a.image.now) a.entries.now l.e-index pre.0.pages h;
      },
      record {
        room = l.invariant.becomes.room;
        order = l.invariant.order;
        fit = loading_room (view a.image.now) a.entries.now l.e-index _ h refl l.invariant pre.1.fit;
      },
    )

pub loop-e-preserved : goal.loop-e-preserved
loop-e-preserved c = loading_iteration (view _) _ _ _ c.loop-e-test.true refl c.loop-e.invariant c.load_page.ensures
