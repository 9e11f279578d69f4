-- `memory_bytes::write` meets its contract. The invariant: the first j bytes of src are written from a on, and no other byte differs.
use Rattle.memory_bytes.proofs.Moves.{write_start, write_iteration, write_end}
use Rattle.basics.proofs.Kit.{refl, arith}
use Rattle.memory_bytes.proofs.write.Goals as goal

pub loop-j-init : goal.loop-j-init
loop-j-init c = write_start c.args.m.now c.args.a c.args.src.now

pub bounds-m-a : goal.bounds-m-a
bounds-m-a c = omega (arith, c.loop-j.invariant.size)

pub loop-j-preserved : goal.loop-j-preserved
loop-j-preserved c = write_iteration c.loop-j.invariant (omega arith) refl

pub returns : goal.returns
returns c = write_end c.loop-j.invariant (omega arith)
