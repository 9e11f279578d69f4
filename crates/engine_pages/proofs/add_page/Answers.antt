-- `engine_pages::add_page` meets its contract: a page entry is inserted before page p, and then the row on it (`added`).
use Rattle.memory_layout.proofs.Laws.{holds_room}
use Rattle.engine_pages.proofs.Growing.{add_space, added_there, added_new, added}
use Rattle.engine_pages.proofs.add_page.Goals as goal

pub start_of-at-requires : goal.start_of-at-requires
start_of-at-requires c = let g = c.requires in (holds_room _ g.tuple.has_store, g.between.most)

pub insert_page-requires : goal.insert_page-requires
insert_page-requires c = let g = c.requires in (holds_room _ g.tuple.has_store, record { place = g.between; space = add_space g })

pub insert_row-requires : goal.insert_row-requires
insert_row-requires c = let u = c.insert_page.ensures in (added_new c.requires u c.start_of-at.ensures.0, added_there c.requires u)

pub returns : goal.returns
returns c = added c.requires c.insert_page.ensures c.start_of-at.ensures.0 c.insert_row.ensures
