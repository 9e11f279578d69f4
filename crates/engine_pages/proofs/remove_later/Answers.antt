-- `engine_pages::remove_later` meets its contract: a removal is noted by `later_noted`; an added row stays if it is the only one, else it goes (`later_away`).
use Rattle.engine_pages.proofs.Places.{row_in_lem}
use Rattle.engine_pages.proofs.Removing.{may_lose, later_noted, later_last, later_away}
use Rattle.engine_pages.proofs.remove_later.Goals as goal

pub is_adding-requires : goal.is_adding-requires
is_adding-requires c = row_in_lem c.requires

pub set_pending-requires : goal.set_pending-requires
set_pending-requires c = row_in_lem c.requires

pub returns-then-not-is_adding : goal.returns-then-not-is_adding
returns-then-not-is_adding c = later_noted c.requires c.is_adding.ensures (c.if-not-is_adding.true) c.set_pending.ensures

pub returns-then-n-eq1 : goal.returns-then-n-eq1
returns-then-n-eq1 c = later_last c.requires c.is_adding.ensures (c.if-not-is_adding.false) c.count_at-n.ensures c.if-n-eq1.true

pub remove_row-requires : goal.remove_row-requires
remove_row-requires c = may_lose c.requires

pub returns : goal.returns
returns c = later_away c.requires c.is_adding.ensures (c.if-not-is_adding.false) c.count_at-n.ensures c.if-n-eq1.false c.remove_row.ensures
