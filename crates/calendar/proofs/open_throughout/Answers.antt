-- `calendar::open_throughout` meets its contract: the first minute and those just behind rows tell it (`closed_first`, `by_ends`).
use Rattle.basics.proofs.Kit.{sym, ap, ◌∙◌, mod-lt, subst, ◌<◌, arith}
use Rattle.basics.specs.Basics.{all}
use Rattle.basics.proofs.Iterations.{all_yes, all_not}
use Rattle.calendar.specs.Calendar.{week, edge_open}
use Rattle.calendar.proofs.Edges.{end_below, closed_first, by_ends}
use Rattle.calendar.proofs.Rows.{parts, row_next, walk_next, walk_end, row_ranged}
use Rattle.calendar.proofs.open_throughout.Goals as goal

pub edge_open-requires : goal.edge_open-requires
edge_open-requires c = record { rows = c.requires; first = mod-lt _ (omega arith); edge = mod-lt _ (omega arith) }

pub returns-then-not-edge_open : goal.returns-then-not-edge_open
returns-then-not-edge_open c = sym (closed_first _ (parts c.requires).rows _ _ (sym c.edge_open.ensures ∙ c.if-not-edge_open.true))

pub end_of-requires : goal.end_of-requires
end_of-requires c = row_ranged (parts c.requires) c.loop-row.invariant.1 (row_next _ _ c.loop-row.invariant.1.size c.in-Some.ensures.steps.1 c.row_of.ensures)

pub edge_open-requires-in-loop-row : goal.edge_open-requires-in-loop-row
edge_open-requires-in-loop-row c = record { rows = c.requires; first = mod-lt _ (omega arith); edge = subst (λ z. z < week) (sym c.end_of.ensures) (end_below c.row_of.result) }

pub returns-then-not-edge_open-2 : goal.returns-then-not-edge_open-2
returns-then-not-edge_open-2 c = let k = parts c.requires in
    let h = c.loop-row.invariant in
    let e = row_next _ _ c.loop-row.invariant.1.size c.in-Some.ensures.steps.1 c.row_of.ensures in
    let shut = ap (edge_open _ _ _) (sym c.end_of.ensures) ∙ sym c.edge_open-in-loop-row.ensures ∙ c.if-not-edge_open-2.true in
    sym (by_ends _ k.rows _ _ h.2 ∙ h.0.same ∙ all_not _ e shut)

pub loop-row-preserved : goal.loop-row-preserved
loop-row-preserved c = let step = c.in-Some.ensures.steps in
    let h = c.loop-row.invariant in
    let e = row_next _ _ h.1.size step.1 c.row_of.ensures in
    let opened = ap (edge_open _ _ _) (sym c.end_of.ensures) ∙ sym c.edge_open-in-loop-row.ensures ∙ c.if-not-edge_open-2.false in (
      walk_next h.0 step.0 (all_yes _ e opened),
      walk_next h.1 step.0 (all_yes _ e (row_ranged (parts c.requires) h.1 e)),
      h.2,
    )

pub returns : goal.returns
unfolding all
returns c = let h = c.loop-row.invariant in
    sym (by_ends _ (parts c.requires).rows _ _ h.2 ∙ walk_end h.0 c.in-None.ensures.steps.1.0)
