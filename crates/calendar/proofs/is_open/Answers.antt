-- `calendar::is_open` meets its contract: it walks along the rows until one covers the minute.
use Rattle.basics.proofs.Kit.{sym, ◌∙◌}
use Rattle.basics.specs.Basics.{any}
use Rattle.basics.proofs.Iterations.{any_yes, any_not, all_yes}
use Rattle.calendar.proofs.Edges.{open_here}
use Rattle.calendar.proofs.Rows.{parts, row_next, walk_next, walk_end, row_ranged}
use Rattle.calendar.proofs.is_open.Goals as goal

pub covers-requires : goal.covers-requires
covers-requires c = let e = row_next _ _ c.loop-row.invariant.1.size c.in-Some.ensures.steps.1 c.row_of.ensures in (row_ranged (parts c.requires.0) c.loop-row.invariant.1 e, c.requires.1)

pub returns-then-covers : goal.returns-then-covers
returns-then-covers c = let e = row_next _ _ c.loop-row.invariant.1.size c.in-Some.ensures.steps.1 c.row_of.ensures in
    sym (open_here _ c.requires.1 ∙ c.loop-row.invariant.0.same ∙ any_yes _ e (sym c.covers.ensures ∙ c.if-covers.true))

pub loop-row-preserved : goal.loop-row-preserved
loop-row-preserved c = let step = c.in-Some.ensures.steps in
    let h = c.loop-row.invariant in
    let e = row_next _ _ h.1.size step.1 c.row_of.ensures in (
      walk_next h.0 step.0 (any_not _ e (sym c.covers.ensures ∙ c.if-covers.false)),
      walk_next h.1 step.0 (all_yes _ e (row_ranged (parts c.requires.0) h.1 e)),
    )

pub returns : goal.returns
unfolding any
returns c = sym (open_here _ c.requires.1 ∙ walk_end c.loop-row.invariant.0 c.in-None.ensures.steps.1.0)
