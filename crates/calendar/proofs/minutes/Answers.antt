-- `calendar::minutes` meets its contract: fewer than two bytes are no length (`minutes_short`), else they are the first two (`minutes_two`).
use Rattle.calendar.proofs.Lengths.{minutes_short, minutes_two}
use Rattle.basics.proofs.Kit.{sym, ◌∙◌, arith}
use Rattle.calendar.proofs.minutes.Goals as goal

pub returns-in_default : goal.returns-in_default
returns-in_default c = (sym (minutes_short _ (omega arith)), omega arith)

pub returns-in-len2-up : goal.returns-in-len2-up
returns-in-len2-up c = (c.two_bytes.ensures.0 ∙ sym (minutes_two _ (omega arith)), c.two_bytes.ensures.1)
