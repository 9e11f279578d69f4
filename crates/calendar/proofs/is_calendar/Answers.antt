-- `calendar::is_calendar` meets its contract: its two tests of the length, then one of the rows (`rows_given`).
use Rattle.basics.proofs.Kit.{sym, ◌∙◌, eqb-true, eqb-false, lt-leb, rules}
use Rattle.basics.proofs.Facts.{lie}
use Rattle.basics.proofs.Iterators.{all_listed}
use Rattle.std.proofs.lemmas.Iterator.Search.{all_from_yields_List}
use Rattle.calendar.specs.Calendar.{in_range}
use Rattle.calendar.proofs.Rows.{too_many, not_whole, by_rows, rows_given}
use Rattle.calendar.proofs.is_calendar.Goals as goal
use Rattle.calendar.proofs.is_calendar.Goals.{then-hours, else-hours}

pub returns-then-hours-eq0 : goal.returns-then-hours-eq0
returns-then-hours-eq0 c = let ys = rows_given _ c.chunks_exact.ensures.size c.chunks_exact.ensures.rest in
    let r = all_from_yields_List in_range _ _ c.all.result c.all.ensures.ran ys (λ x b q k. search rules) in elim c.if-hours.branch [
      | then-hours w ↦ r ∙ all_listed in_range _ ∙ by_rows _ w.if-hours.true (eqb-true _ _ (sym w.value-is ∙ c.if-hours-eq0.true))
      | else-hours w ↦ lie (sym (lt-leb _ _ w.if-hours.false) ∙ sym w.value-is ∙ c.if-hours-eq0.true)
    ]

pub returns-else-hours-eq0 : goal.returns-else-hours-eq0
returns-else-hours-eq0 c = c.if-hours-eq0.false ∙ elim c.if-hours.branch [
  | then-hours w ↦ not_whole _ w.if-hours.true (eqb-false _ _ (sym w.value-is ∙ c.if-hours-eq0.false))
  | else-hours w ↦ too_many _ w.if-hours.false
]
