-- `engine_pages::grow` meets its contract: on a frozen page the row is a pending add (`grew_frozen`), another page is dirty and split if too large (`grew`).
use Rattle.basics.proofs.Kit.{sym, ◌∙◌, arith}
use Rattle.engine_pages.proofs.Places.{page_in_lem, page_frozen}
use Rattle.engine_pages.proofs.Growing.{grow_there, grow_new, more_there, more_rows_lem, grew_frozen, grew_there, grew_dirty, grew}
use Rattle.engine_pages.proofs.grow.Goals as goal

pub frozen_at-frozen-requires : goal.frozen_at-frozen-requires
frozen_at-frozen-requires c = page_in_lem (grow_there c.requires)

pub insert_row-requires : goal.insert_row-requires
insert_row-requires c = (grow_new c.requires, c.requires.inside)

pub set_pending-requires : goal.set_pending-requires
set_pending-requires c = let u = c.insert_row.ensures in (u.room, more_rows_lem c.requires u)

pub returns-then-frozen : goal.returns-then-frozen
returns-then-frozen c = let g = c.requires in
    grew_frozen g c.insert_row.ensures (page_frozen (grow_there g) ∙ sym c.frozen_at-frozen.ensures ∙ c.if-frozen.true) c.set_pending.ensures

pub set_page-requires : goal.set_page-requires
set_page-requires c = let u = c.insert_row.ensures in (u.room, record { place = more_there c.requires u; block = omega arith })

pub split_once-requires : goal.split_once-requires
split_once-requires c = let g = c.requires in let u = c.insert_row.ensures in let v = c.set_page.ensures in
    (grew_there g u v, grew_dirty g u v)

pub returns : goal.returns
returns c = let g = c.requires in
    grew g c.insert_row.ensures c.set_page.ensures (page_frozen (grow_there g) ∙ sym c.frozen_at-frozen.ensures ∙ c.if-frozen.false) c.split_once.ensures
