-- `engine_pages::thaw` meets its contract, in its four cases: `thawed_clean`, `thawed_none`, `thawed_joined`, `thawed_split`.
use Rattle.basics.proofs.Kit.{sym, ◌∙◌}
use Rattle.engine_pages.proofs.Places.{room, holds_now}
use Rattle.engine_pages.proofs.Thawing.{thawed_clean, thawed_none, left_at, thawed_joined, apart_at, apart_sized, thawed_split}
use Rattle.engine_pages.proofs.thaw.Goals as goal

pub has_pending-requires : goal.has_pending-requires
has_pending-requires c = c.requires.0.there

pub set_page-requires : goal.set_page-requires
set_page-requires c = let g = c.requires in (room g.0.there, record { place = g.0.there.inside; block = g.1 })

pub returns-then-not-has_pending : goal.returns-then-not-has_pending
returns-then-not-has_pending c = holds_now (thawed_clean c.requires.0 c.args.b (sym c.has_pending.ensures ∙ c.if-not-has_pending.true) c.set_page.ensures)

pub apply_pending-left-requires : goal.apply_pending-left-requires
apply_pending-left-requires c = c.requires.0.there

pub returns-then-left-eq0 : goal.returns-then-left-eq0
returns-then-left-eq0 c = holds_now (thawed_none c.requires.0 c.args.b (sym c.has_pending.ensures ∙ c.if-not-has_pending.false) c.apply_pending-left.ensures c.if-left-eq0.true)

pub join-requires : goal.join-requires
join-requires c = left_at c.requires.0 c.args.b (sym c.has_pending.ensures ∙ c.if-not-has_pending.false) c.apply_pending-left.ensures c.if-left-eq0.false

pub returns-then-join : goal.returns-then-join
returns-then-join c = holds_now (thawed_joined c.requires.0 c.args.b (sym c.has_pending.ensures ∙ c.if-not-has_pending.false) c.apply_pending-left.ensures c.if-left-eq0.false c.join.ensures
    c.if-join.true)

pub page_size-size-requires : goal.page_size-size-requires
page_size-size-requires c = apart_at c.requires.0 c.args.b (sym c.has_pending.ensures ∙ c.if-not-has_pending.false) c.apply_pending-left.ensures c.if-left-eq0.false c.join.ensures c.if-join.false

pub split-requires : goal.split-requires
split-requires c = apart_sized c.requires.0 c.args.b (sym c.has_pending.ensures ∙ c.if-not-has_pending.false) c.apply_pending-left.ensures c.if-left-eq0.false c.join.ensures c.if-join.false
    c.page_size-size.ensures

pub returns : goal.returns
returns c = holds_now (thawed_split c.requires.0 c.args.b (sym c.has_pending.ensures ∙ c.if-not-has_pending.false) c.apply_pending-left.ensures c.if-left-eq0.false c.join.ensures
    c.if-join.false c.split.ensures)
