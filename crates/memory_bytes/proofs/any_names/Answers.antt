-- `memory_bytes::any_names` meets its contract. The invariant (`AnyFrom`): the answer is hit, or whether one of the numbers from j on names slot s: s modulo 1,024.
use Rattle.memory_bytes.proofs.Scans.{any_starts, any_iterates, any_ends}
use Rattle.basics.proofs.Searches.{any_start}
use Rattle.memory_bytes.specs.Columns.{names}
use Rattle.memory_bytes.specs.Bytes.{column2}
use Rattle.basics.proofs.Kit.{sym, ◌∙◌, arith}
use Rattle.memory_bytes.proofs.any_names.Goals as goal

pub loop-j-init : goal.loop-j-init
loop-j-init c = any_starts (omega arith)

pub loop-j-preserved : goal.loop-j-preserved
loop-j-preserved c = any_iterates c.loop-j.invariant (omega arith) c.get2.ensures

pub returns : goal.returns
returns c = let a = c.args in any_ends c.loop-j.invariant (omega arith) ∙ sym (any_start (names a.s) (column2 a.m.now a.base) a.n)
