-- `memory_pages::any_frozen` meets its contract. The invariant (`AnyFrom`): the answer is hit, or whether one of the numbers from j on is that of a frozen page.
use Rattle.basics.proofs.Kit.{arith}
use Rattle.memory_bytes.proofs.Scans.{any_starts, any_iterates, any_ends}
use Rattle.memory_pages.proofs.any_frozen.Goals as goal

pub loop-j-init : goal.loop-j-init
loop-j-init c = any_starts (omega arith)

pub loop-j-preserved : goal.loop-j-preserved
loop-j-preserved c = any_iterates c.loop-j.invariant (omega arith) c.get2.ensures

pub returns : goal.returns
returns c = any_ends c.loop-j.invariant (omega arith)
