-- `engine_pages::join` meets its contract, by those of `join_before` and `join_after`, one after the other (`tried_both`).
use Rattle.engine_pages.specs.Pages.{There}
use Rattle.basics.proofs.Kit.{sym, subst, List, ℕ}
use Rattle.engine_pages.proofs.Joining.{tried, tried_both}
use Rattle.engine_pages.proofs.join.Goals as goal

pub returns-then-join_before : goal.returns-then-join_before
returns-then-join_before c = let done = c.if-join_before.true in rw done (tried (c.join_before.ensures.done done))

pub join_after-requires : goal.join_after-requires
join_after-requires c = subst (λ (z : List ℕ). There z c.args.p) (sym (c.join_before.ensures.not_done c.if-join_before.false).0) c.requires

pub returns-else-join_before : goal.returns-else-join_before
returns-else-join_before c = tried_both c.args.p c.join_before.result c.join_after.result c.if-join_before.false c.join_before.ensures c.join_after.ensures
