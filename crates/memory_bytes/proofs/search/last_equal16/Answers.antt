-- `memory_bytes::search::last_equal16` meets its contract. The invariant: f is at most j, and no number from f up to j is the key.
use Rattle.basics.proofs.Kit.{refl, ◌∙◌, arith}
use Rattle.memory_bytes.proofs.Spans.{covers_none, covers_is, up_here, up_past}
use Rattle.memory_bytes.proofs.search.last_equal16.Goals as goal
use Rattle.memory_bytes.proofs.search.last_equal16.Goals.{then-get4-key, else-get4-key}

pub loop-j-init : goal.loop-j-init
loop-j-init c = covers_none 0

pub loop-j-preserved : goal.loop-j-preserved
loop-j-preserved c = let p = c.loop-j.invariant in
    elim c.if-get4-key.branch [ then-get4-key w ↦ up_here p w.f-is | else-get4-key w ↦ up_past p (λ q. w.if-get4-key.false (c.get4.ensures ∙ q)) w.f-is ]

pub returns : goal.returns
returns c = covers_is c.loop-j.invariant refl (omega arith)
