-- `engine_pages::apply_pending` meets its contract: without a row left the page is dropped (`left_none`), else it is dirty (`left_some`).
use Rattle.engine_pages.proofs.Applying.{left_there, left_empty, left_none, left_some}
use Rattle.basics.proofs.Kit.{arith}
use Rattle.engine_pages.proofs.apply_pending.Goals as goal

pub remove_page-requires : goal.remove_page-requires
remove_page-requires c = let o = c.apply_pending_rows-left.ensures in
    (o.becomes.room, record { place = left_there c.requires o; empty = left_empty c.requires o c.if-left-eq0.true })

pub returns-then-left-eq0 : goal.returns-then-left-eq0
returns-then-left-eq0 c = left_none c.requires c.apply_pending_rows-left.ensures c.if-left-eq0.true c.remove_page.ensures

pub set_page-requires : goal.set_page-requires
set_page-requires c = let o = c.apply_pending_rows-left.ensures in (o.becomes.room, record { place = left_there c.requires o; block = omega arith })

pub returns : goal.returns
returns c = left_some c.requires c.apply_pending_rows-left.ensures c.if-left-eq0.false c.set_page.ensures
