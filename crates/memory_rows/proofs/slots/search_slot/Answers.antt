-- `memory_rows::slots::search_slot` meets its contract. The invariant: all slots below s are taken, so that s is at most the number of rows (`fewer`).
use Rattle.memory_rows.proofs.FreeSlots.{fewer}
use Rattle.memory_layout.proofs.Laws.{sized}
use Rattle.memory_rows.specs.Cells.{is_taken}
use Rattle.basics.proofs.Kit.{◌≡◌, sym, ◌∙◌, true, ℕ, ◌+◌, ◌<◌, below_none, below_more, arith}
use Rattle.memory_rows.proofs.slots.search_slot.Goals as goal

pub loop-s-init : goal.loop-s-init
loop-s-init c = (omega arith, below_none _)

pub is_taken-requires : goal.is_taken-requires
is_taken-requires c = (c.requires.0, c.loop-s.invariant.0)

pub overflow_add-s : goal.overflow_add-s
overflow_add-s c = omega (arith, (sized c.args.m.now c.requires.0).most)

pub loop-s-preserved : goal.loop-s-preserved
loop-s-preserved c = let m = c.args.m.now in let s = c.loop-s.s in
    let all : (k : ℕ) → k < s + 1 → is_taken m k ≡ true = below_more _ s c.loop-s.invariant.1 (sym c.is_taken.ensures ∙ c.loop-s-test.true) in
    (omega (arith, fewer m (s + 1) all, c.requires.1), all)

pub returns : goal.returns
returns c = (c.loop-s.invariant.0, sym c.is_taken.ensures ∙ c.loop-s-test.false)
