-- `engine_pages::remove_at` meets its contract: on a frozen page by that of `remove_later`, on another by that of `remove_now`.
use Rattle.basics.proofs.Kit.{sym, ◌∙◌}
use Rattle.engine_pages.proofs.Places.{page_in_lem, page_frozen, now_to, holds_now}
use Rattle.engine_pages.proofs.Removing.{removed_later, removed_now}
use Rattle.engine_pages.proofs.remove_at.Goals as goal

pub frozen_at-requires : goal.frozen_at-requires
frozen_at-requires c = page_in_lem c.requires.there

pub returns-then-frozen_at : goal.returns-then-frozen_at
returns-then-frozen_at c = let g = c.requires in holds_now (now_to c.remove_later.ensures (removed_later g (page_frozen g.there ∙ sym c.frozen_at.ensures ∙ c.if-frozen_at.true)))

pub returns : goal.returns
returns c = let g = c.requires in holds_now (now_to c.remove_now.ensures (removed_now g (page_frozen g.there ∙ sym c.frozen_at.ensures ∙ c.if-frozen_at.false)))
