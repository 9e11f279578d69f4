-- `memory_bytes::rising2` meets its contract. The invariant: the answer is whether ok is true and each number from j on is below the next one.
use Rattle.basics.proofs.Searches.{paired_start, paired_iteration, paired_end}
use Rattle.memory_bytes.specs.Bytes.{column2, le2}
use Rattle.basics.proofs.Kit.{◌≡◌, ap, ◌∙◌, ◌+◌, ltb, arith}
use Rattle.memory_bytes.proofs.rising2.Goals as goal

pub loop-j-init : goal.loop-j-init
loop-j-init c = let a = c.args in paired_start ltb (column2 a.m.now a.base) (a.n + 1)

pub loop-j-preserved : goal.loop-j-preserved
loop-j-preserved c = let a = c.args in
    let next : c.get2-in-loop-j.result ≡ column2 a.m.now a.base (c.loop-j.j + 1) = c.get2-in-loop-j.ensures ∙ ap (le2 a.m.now) (omega arith) in
    paired_iteration ltb (column2 a.m.now a.base) c.loop-j.j (a.n + 1) c.loop-j.ok c.loop-j.invariant (omega arith) c.get2.ensures next

pub returns : goal.returns
returns c = let a = c.args in
    paired_end ltb (column2 a.m.now a.base) c.loop-j.j (a.n + 1) c.loop-j.ok c.loop-j.invariant (omega arith)
