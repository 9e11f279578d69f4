-- `memory_rows::slots::is_taken` meets its contract: slot 0 by that of `zero_taken`, any other by that of `names16` (`named_taken`).
use Rattle.memory_rows.proofs.FreeSlots.{named_taken}
use Rattle.memory_rows.specs.Cells.{slot_in}
use Rattle.memory_bytes.specs.Columns.{equals, names}
use Rattle.basics.specs.Lists.{tab}
use Rattle.memory_bytes.specs.Bytes.{column2}
use Rattle.basics.specs.Basics.{any}
use Rattle.basics.proofs.Kit.{sym, ◌∙◌, arith}
use Rattle.memory_rows.proofs.slots.is_taken.Goals as goal

pub returns-then-s-eq0 : goal.returns-then-s-eq0
returns-then-s-eq0 c = let a = c.args in
    c.zero_taken.ensures ∙ (λ y. any (equals (sym c.if-s-eq0.true y)) (tab (slot_in a.m.now (c.capacity-c.ensures.is y)) 0 (c.row_count-n.ensures y)))

pub returns : goal.returns
returns c = let a = c.args in
    let cap = c.capacity-c in let n = c.row_count-n in let r = c.refs_at in
    c.names16.ensures
    ∙ (λ y. any (names a.s) (tab (column2 a.m.now (r.ensures y)) 0 n.result))
    ∙ named_taken a.m.now cap.result n.result a.s (omega (arith, c.if-s-eq0.false)) (omega (arith, cap.ensures.is, c.requires.1))
    ∙ (λ y. any (equals a.s) (tab (slot_in a.m.now (cap.ensures.is y)) 0 (n.ensures y)))
