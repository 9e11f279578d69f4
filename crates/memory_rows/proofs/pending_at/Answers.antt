-- `memory_rows::pending_at` meets its contract: one case for each number of an operation.
use Rattle.memory_rows.proofs.Access.{pending_is_lem}
use Rattle.memory_bytes.specs.Columns.{slot_limit}
use Rattle.memory_layout.specs.Views.{pending_by, pending_of}
use Rattle.basics.proofs.Kit.{◌≡◌, ◌/◌, ◌%◌, ap, ◌∙◌, sym, arith}
use Rattle.basics.specs.Basics.{if'◌then◌else◌}
use Rattle.memory_rows.proofs.pending_at.Goals as goal

pub returns-in-0 : goal.returns-in-0
unfolding pending_of pending_by if'◌then◌else◌
returns-in-0 c = ap pending_by (sym c.in-0.is) ∙ ap pending_of c.ref_at.ensures ∙ sym (pending_is_lem c.args.m.now c.args.i c.requires.1)

pub returns-in-1 : goal.returns-in-1
unfolding pending_of pending_by if'◌then◌else◌
returns-in-1 c = ap pending_by (sym c.in-1.is) ∙ ap pending_of c.ref_at.ensures ∙ sym (pending_is_lem c.args.m.now c.args.i c.requires.1)

pub returns-in-2 : goal.returns-in-2
unfolding pending_of pending_by if'◌then◌else◌
returns-in-2 c = ap pending_by (sym c.in-2.is) ∙ ap pending_of c.ref_at.ensures ∙ sym (pending_is_lem c.args.m.now c.args.i c.requires.1)

pub returns-in_default : goal.returns-in_default
unfolding pending_of pending_by if'◌then◌else◌
returns-in_default c = let three : c.ref_at.result / slot_limit % 4 ≡ 3 = omega arith in
    ap pending_by (sym three) ∙ ap pending_of c.ref_at.ensures ∙ sym (pending_is_lem c.args.m.now c.args.i c.requires.1)
