-- `call_checkpoint::start` meets its contract: the list of pages is fixed before the pages are frozen, which leaves their blocks (`begin_held`).
use Rattle.basics.proofs.Kit.{refl, ap}
use Rattle.memory_layout.specs.Flat.{Flat}
use Rattle.memory_layout.proofs.Laws.{holds_room}
use Rattle.call_checkpoint.proofs.Beginning.{held_still, head_replaces, taken_low, begin_held, begin_holds}
use Rattle.call_checkpoint.proofs.start.Goals as goal

pub clear_named-requires : goal.clear_named-requires
clear_named-requires c = holds_room _ c.requires.0

pub name_pages-requires : goal.name_pages-requires
name_pages-requires c = let b = c.clear_named.ensures in
    (held_still c.requires.0 b refl, ap (λ (f : Flat). f.named) b.flat)

pub put_head-requires : goal.put_head-requires
put_head-requires c = let g = c.get_head-h in
    let r = c.clear_directories.ensures.room in
    (r, head_replaces _ _ _ r g.ensures refl refl (taken_low _ _ r g.ensures))

pub freeze-requires : goal.freeze-requires
freeze-requires c = let g = c.get_head-h in
    begin_held c.requires.0 c.clear_named.ensures c.name_pages.ensures c.clear_directories.ensures _ g.ensures
    c.put_head.ensures

pub returns : goal.returns
returns c = let g = c.get_head-h in
    begin_holds c.requires.0 c.clear_named.ensures c.name_pages.ensures c.clear_directories.ensures _ g.ensures
    c.put_head.ensures c.requires.1 c.freeze.ensures
