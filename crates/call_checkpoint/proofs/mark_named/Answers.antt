-- `call_checkpoint::mark_named` meets its contract. The invariant: the first i blocks named are in use, and all others as at entry (`Marking`).
use Rattle.basics.proofs.Kit.{ap, ◌∙◌, List, ℕ, length, get_or, arith}
use Rattle.memory_layout.specs.Flat.{flat_of}
use Rattle.memory_layout.proofs.Laws.{named_read, directories_read}
use Rattle.call_checkpoint.proofs.Leaving.{marking_start, marking_iteration, marking_same, marking_end, named_count_lem}
use Rattle.call_checkpoint.proofs.mark_named.Goals as goal

pub loop-i-init : goal.loop-i-init
loop-i-init c = let e = c.get_counts-c.ensures in
    let m = c.args.m.now in
    marking_start m _ _ c.requires (omega (arith, named_read m e, directories_read m e, named_count_lem (flat_of m)))

pub block_named-b-requires : goal.block_named-b-requires
block_named-b-requires c = let k = c.loop-i.invariant in
    (k.becomes.room, omega (arith, k.whole, c.loop-i-test.true, ap length (marking_same k)))

pub loop-i-preserved : goal.loop-i-preserved
loop-i-preserved c = let l = c.loop-i in
    let e = c.block_named-b.ensures.0 ∙ ap (λ (bs : List ℕ). get_or bs l.i 0) (marking_same l.invariant) in
    marking_iteration l.invariant c.loop-i-test.true _ e _ c.mark_used.ensures

pub returns : goal.returns
returns c = marking_end c.loop-i.invariant c.loop-i-test.false
