-- `image_rows::rising` meets its contract. The invariant: the answer is whether, from row i - 1 on, each row may be followed by the next one.
use Rattle.basics.proofs.Kit.{sym, ◌∙◌, arith}
use Rattle.image_rows.proofs.Places.{rising_none, rising_first, rising_marked, rising_stop, rising_iteration}
use Rattle.basics.proofs.Iterations.{pair_end}
use Rattle.image_rows.specs.Columns.{row_at}
use Rattle.image_rows.specs.Rows.{follows}
use Rattle.basics.proofs.Kit.{ap, not}
use Rattle.image_rows.proofs.rising.Goals as goal

pub returns-then-count-eq0 : goal.returns-then-count-eq0
returns-then-count-eq0 c = sym (rising_none _ _ _ _ _ c.if-count-eq0.true)

pub returns-then-marks-ne0 : goal.returns-then-marks-ne0
returns-then-marks-ne0 c = sym (rising_marked _ _ _ _ _ (omega arith) c.if-marks-ne0.true)

pub loop-i-init : goal.loop-i-init
loop-i-init c = rising_first _ _ _ _ _ (omega arith) c.if-marks-ne0.false

pub returns-then-not-follows : goal.returns-then-not-follows
returns-then-not-follows c = let p = c.loop-i in
    rising_stop _ _ _ _ p.i _ (omega arith) (omega arith) p.invariant c.follows.ensures (ap not c.if-not-follows.true)

pub loop-i-preserved : goal.loop-i-preserved
loop-i-preserved c = let p = c.loop-i in
    rising_iteration _ _ _ _ p.i _ (omega arith) (omega arith) p.invariant c.follows.ensures (ap not c.if-not-follows.false)

pub returns : goal.returns
returns c = let p = c.loop-i in
    sym (p.invariant ∙ pair_end follows (row_at _ _ _ _) p.i _ (omega arith) (omega arith))
