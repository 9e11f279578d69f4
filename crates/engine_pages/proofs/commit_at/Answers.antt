-- `engine_pages::commit_at` meets its contract: on a frozen page by that of `commit_later`, on another by `commit_now_lem`, which leaves it dirty.
use Rattle.basics.proofs.Kit.{sym, ◌∙◌, arith}
use Rattle.engine_pages.proofs.Places.{row_in_lem, page_in_lem, page_frozen, now_to, holds_now, still_there}
use Rattle.engine_pages.proofs.Committing.{commit_is, commit_now_lem}
use Rattle.engine_pages.proofs.commit_at.Goals as goal

pub frozen_at-requires : goal.frozen_at-requires
frozen_at-requires c = page_in_lem c.requires.there

pub commit_later-requires : goal.commit_later-requires
commit_later-requires c = (c.requires, page_frozen c.requires.there ∙ sym c.frozen_at.ensures ∙ c.if-frozen_at.true)

pub returns-then-frozen_at : goal.returns-then-frozen_at
returns-then-frozen_at c = holds_now (now_to c.commit_later.ensures (commit_is c.requires))

pub commit_row-requires : goal.commit_row-requires
commit_row-requires c = row_in_lem c.requires

pub set_page-requires : goal.set_page-requires
set_page-requires c = let u = c.commit_row.ensures in
    (u.room, record { place = still_there c.args.p u c.requires.there.inside; block = omega arith })

pub returns : goal.returns
returns c = let g = c.requires in
    holds_now (now_to (commit_now_lem g (page_frozen g.there ∙ sym c.frozen_at.ensures ∙ c.if-frozen_at.false) c.commit_row.ensures c.set_page.ensures) (commit_is g))
