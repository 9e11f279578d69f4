-- `memory_bytes::search::first_equal16` meets its contract. The invariant: f is from j to 16, and no number from j up to f is the key.
use Rattle.basics.proofs.Kit.{refl, ◌∙◌, arith}
use Rattle.memory_bytes.proofs.Spans.{covers_none, covers_is, down_here, down_past}
use Rattle.memory_bytes.proofs.search.first_equal16.Goals as goal

pub loop-j-init : goal.loop-j-init
loop-j-init c = covers_none 16

pub loop-j-preserved-then-get4-key : goal.loop-j-preserved-then-get4-key
loop-j-preserved-then-get4-key c = down_here c.loop-j.invariant (omega arith) refl

pub loop-j-preserved : goal.loop-j-preserved
loop-j-preserved c = down_past c.loop-j.invariant (omega arith) (λ q. c.if-get4-key.false (c.get4.ensures ∙ q))

pub returns : goal.returns
returns c = covers_is c.loop-j.invariant (omega arith) refl
