-- `memory_rows::slots::zero_taken` meets its contract. The invariant (`AnyFrom`): the answer is hit, or whether one of the rows from i on is in slot 0.
use Rattle.memory_rows.specs.Cells.{slot_in}
use Rattle.memory_layout.specs.Views.{slot_of}
use Rattle.memory_bytes.proofs.Scans.{any_starts, any_iterates, any_ends}
use Rattle.basics.proofs.Searches.{any_start}
use Rattle.memory_bytes.specs.Columns.{equals}
use Rattle.basics.proofs.Kit.{sym, ap, ◌∙◌, ℕ, ◌+◌, ◌*◌, arith}
use Rattle.memory_bytes.specs.Bytes.{le2}
use Rattle.memory_rows.proofs.slots.zero_taken.Goals as goal

pub loop-i-preserved : goal.loop-i-preserved
unfolding slot_in
loop-i-preserved c = let a = c.args in
    let e = c.get2.ensures ∙ ap (λ (z : ℕ). le2 a.m.now (z + c.loop-i.i * 2)) c.refs_at-a.ensures in
    any_iterates c.loop-i.invariant (omega arith) (c.slot_of.ensures.0 ∙ ap (slot_of a.c) e)

pub returns : goal.returns
returns c = let a = c.args in
    any_ends c.loop-i.invariant (omega arith) ∙ sym (any_start (equals 0) (slot_in a.m.now a.c) a.n)

pub loop-i-init : goal.loop-i-init
loop-i-init c = any_starts (omega arith)
