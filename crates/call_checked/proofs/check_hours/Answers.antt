-- `call_checked::check_hours` meets its contract: one case for each test (`stop_10` to `stop_28`), and none (`all_open`).
use Rattle.basics.proofs.Kit.{◌≡◌, sym, ap, ◌∙◌, true}
use Rattle.calendar.specs.Calendar.{is_calendar, open_throughout}
use Rattle.call_checked.proofs.Checking.{stop_10, stop_26, stop_27, stop_28, all_open}
use Rattle.call_checked.proofs.check_hours.Goals as goal

pub returns-then-table-gt-TABLE_LIMIT : goal.returns-then-table-gt-TABLE_LIMIT
returns-then-table-gt-TABLE_LIMIT c = stop_10 _ _ _ _ c.if-table-gt-TABLE_LIMIT.true

pub returns-then-not-is_calendar : goal.returns-then-not-is_calendar
returns-then-not-is_calendar c = stop_26 _ _ _ _ c.if-table-gt-TABLE_LIMIT.false (sym c.is_calendar.ensures ∙ c.if-not-is_calendar.true)

pub returns-then-n-eq0 : goal.returns-then-n-eq0
returns-then-n-eq0 c = let rows : is_calendar c.args.hours.now ≡ true = sym c.is_calendar.ensures ∙ c.if-not-is_calendar.false in
    stop_27 _ _ _ _ c.if-table-gt-TABLE_LIMIT.false rows (sym c.minutes-n.ensures.0 ∙ c.if-n-eq0.true)

pub open_throughout-requires : goal.open_throughout-requires
open_throughout-requires c = let rows : is_calendar c.args.hours.now ≡ true = sym c.is_calendar.ensures ∙ c.if-not-is_calendar.false in
    rows

pub returns-then-not-open_throughout : goal.returns-then-not-open_throughout
returns-then-not-open_throughout c = let rows : is_calendar c.args.hours.now ≡ true = sym c.is_calendar.ensures ∙ c.if-not-is_calendar.false in
    let n = c.minutes-n.ensures.0 in
    stop_28 _ _ _ _ c.if-table-gt-TABLE_LIMIT.false rows (λ z. c.if-n-eq0.false (n ∙ z)) (ap (open_throughout _ _) (sym n) ∙ sym c.open_throughout.ensures ∙ c.if-not-open_throughout.true)

pub returns : goal.returns
returns c = let rows : is_calendar c.args.hours.now ≡ true = sym c.is_calendar.ensures ∙ c.if-not-is_calendar.false in
    let n = c.minutes-n.ensures.0 in
    all_open _ _ _ _ c.if-table-gt-TABLE_LIMIT.false rows (λ z. c.if-n-eq0.false (n ∙ z)) (ap (open_throughout _ _) (sym n) ∙ sym c.open_throughout.ensures ∙ c.if-not-open_throughout.false)
