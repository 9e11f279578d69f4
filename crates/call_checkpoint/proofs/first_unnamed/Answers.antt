-- `call_checkpoint::first_unnamed` meets its contract. The invariant: each entry before i has a block, so the first one without is found from i on (`NamedBefore`).
use Rattle.basics.proofs.Kit.{sym, ◌∙◌, arith}
use Rattle.memory_layout.proofs.Laws.{named_read}
use Rattle.call_checkpoint.proofs.Leaving.{named_hit, named_miss, named_end}
use Rattle.call_checkpoint.proofs.first_unnamed.Goals as goal

pub named_fours-i-requires : goal.named_fours-i-requires
named_fours-i-requires c = (c.requires, named_read _ c.get_counts-c.ensures)

pub loop-i-init : goal.loop-i-init
loop-i-init c = (named_read _ c.get_counts-c.ensures, c.named_fours-i.ensures)

pub returns-then-get_named-eq0 : goal.returns-then-get_named-eq0
returns-then-get_named-eq0 c = let l = c.loop-i in (
  named_hit l.invariant.1 (omega (arith, l.invariant.0, c.loop-i-test.true)) (sym c.get_named.ensures ∙ c.if-get_named-eq0.true),
  omega (arith, l.invariant.0, c.loop-i-test.true),
)

pub loop-i-preserved : goal.loop-i-preserved
loop-i-preserved c = let l = c.loop-i in
    (l.invariant.0, named_miss l.invariant.1 (omega (arith, l.invariant.0, c.loop-i-test.true)) (λ q. c.if-get_named-eq0.false (c.get_named.ensures ∙ q)))

pub returns : goal.returns
returns c = let l = c.loop-i in named_end l.invariant.1 (omega (arith, l.invariant.0, c.loop-i-test.false))
