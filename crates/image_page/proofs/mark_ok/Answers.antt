-- `image_page::mark_ok` meets its contract: a delete mark is of a tentative tuple without payload (`held`, `marked_open`).
use Rattle.basics.proofs.Kit.{sym, ◌∙◌}
use Rattle.image_page.proofs.Places.{unmarked, held, marked_open}
use Rattle.image_page.proofs.mark_ok.Goals as goal

pub returns-in-Committed : goal.returns-in-Committed
returns-in-Committed c = λ t p e. held t c.args.r p c.in-Committed.is

pub returns-then-not-r : goal.returns-then-not-r
returns-then-not-r c = λ t p e. c.if-not-r.true ∙ sym (unmarked t c.args.r p c.if-not-r.true)

pub returns-else-not-r : goal.returns-else-not-r
returns-else-not-r c = λ t p e. sym (marked_open t c.args.r p c.if-not-r.false c.in-Tentative.is e)
