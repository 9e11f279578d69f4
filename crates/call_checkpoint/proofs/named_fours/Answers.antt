-- `call_checkpoint::named_fours` meets its contract. The invariant: each entry before the four has a block; four more that have one keep it (`named_four`).
use Rattle.basics.proofs.Kit.{sym, ◌∙◌, arith}
use Rattle.call_checkpoint.proofs.Leaving.{named_four}
use Rattle.call_checkpoint.proofs.named_fours.Goals as goal

pub loop-k-preserved : goal.loop-k-preserved
loop-k-preserved c = named_four c.loop-k.invariant (omega (arith, c.requires.1, c.loop-k-test.true)) (sym c.four_named.ensures ∙ c.if-not-four_named.false) _ (omega arith)
