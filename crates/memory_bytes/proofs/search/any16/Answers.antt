-- `memory_bytes::search::any16` meets its contract. The invariant (`AnyFrom`): the answer is hit, or whether p holds of one of the numbers from j on.
use Rattle.memory_bytes.proofs.Scans.{any_starts, any_next, any_ends}
use Rattle.basics.proofs.Kit.{◌∙◌, ap, arith}
use Rattle.memory_bytes.proofs.search.any16.Goals as goal

pub loop-j-init : goal.loop-j-init
loop-j-init g c = λ f t. any_starts (omega arith)

pub loop-j-preserved : goal.loop-j-preserved
loop-j-preserved g c = λ f t. any_next (c.loop-j.invariant f t) (omega arith) (t _ _ (omega arith) c.p-hit.ensures ∙ ap f c.get4.ensures)

pub returns : goal.returns
returns g c = λ f t. any_ends (c.loop-j.invariant f t) (omega arith)
