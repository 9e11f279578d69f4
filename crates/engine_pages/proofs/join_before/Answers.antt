-- `engine_pages::join_before` meets its contract: nothing changes without a predecessor or if the two may not join; else they are joined (`prev_joins`).
use Rattle.basics.proofs.Kit.{sym, ◌∙◌, arith}
use Rattle.basics.proofs.Numbers.{pos_of}
use Rattle.engine_pages.proofs.Places.{now_to}
use Rattle.engine_pages.proofs.Joining.{tried, not_tried, first_apart, prev_at, prev_inside, prev_joins, prev_apart, may_join, joined_now}
use Rattle.engine_pages.proofs.join_before.Goals as goal

pub returns-then-p-eq0 : goal.returns-then-p-eq0
returns-then-p-eq0 c = not_tried (first_apart c.requires c.if-p-eq0.true)

pub overflow_sub-p : goal.overflow_sub-p
overflow_sub-p c = omega (arith, pos_of _ c.if-p-eq0.false)

pub joinable-requires : goal.joinable-requires
joinable-requires c = (prev_at c.requires c.if-p-eq0.false, prev_inside c.requires c.if-p-eq0.false)

pub returns-then-not-joinable : goal.returns-then-not-joinable
returns-then-not-joinable c = not_tried (prev_apart c.requires c.if-p-eq0.false (sym c.joinable.ensures ∙ c.if-not-joinable.true))

pub overflow_sub-p-2 : goal.overflow_sub-p-2
overflow_sub-p-2 c = omega (arith, pos_of _ c.if-p-eq0.false)

pub join_pages-requires : goal.join_pages-requires
join_pages-requires c = let a = c.requires in
    let ne = c.if-p-eq0.false in
    may_join (prev_at a ne) (prev_inside a ne) (sym c.joinable.ensures ∙ c.if-not-joinable.false)

pub returns : goal.returns
returns c = let a = c.requires in let ne = c.if-p-eq0.false in
    let j = sym c.joinable.ensures ∙ c.if-not-joinable.false in
    tried (λ rest. now_to (joined_now (prev_at a ne) (prev_inside a ne) j c.join_pages.ensures) (prev_joins a ne j rest))
