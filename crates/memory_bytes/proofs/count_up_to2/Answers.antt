-- `memory_bytes::count_up_to2` meets its contract. The invariant: the answer is k plus the count from j on, and k is at most j - s, so it fits 16 bits.
use Rattle.memory_bytes.proofs.Scans.{as_number}
use Rattle.basics.proofs.Searches.{count_iteration, count_end, one_most}
use Rattle.memory_bytes.specs.Columns.{up_to}
use Rattle.memory_bytes.specs.Bytes.{column2}
use Rattle.basics.proofs.Kit.{◌∙◌, leb, arith}
use Rattle.memory_bytes.proofs.count_up_to2.Goals as goal

pub overflow_add-k : goal.overflow_add-k
overflow_add-k c = let t = leb c.get2.result c.args.x in omega (arith, one_most t (as_number t c.from-k.ensures))

pub loop-j-preserved : goal.loop-j-preserved
loop-j-preserved c = let a = c.args in
    let t = leb c.get2.result a.x in
    let one = as_number t c.from-k.ensures in
    (omega (arith, one_most t one), count_iteration (up_to a.x) (column2 a.m.now a.base) c.loop-j.j a.e c.loop-j.k c.loop-j.invariant.1 (omega arith) c.get2.ensures one)

pub returns : goal.returns
returns c = let a = c.args in
    c.from.ensures ∙ count_end (up_to a.x) (column2 a.m.now a.base) c.loop-j.j a.e c.loop-j.k c.loop-j.invariant.1 (omega arith)
