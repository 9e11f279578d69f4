-- `memory_bytes::raise` meets its contract. The invariant: the bytes from k up to hi are w further up; those below k + w and from hi + w on are as at entry.
use Rattle.memory_bytes.proofs.Moves.{raise_start, raise_iteration, raise_end}
use Rattle.basics.proofs.Kit.{arith}
use Rattle.memory_bytes.proofs.raise.Goals as goal

pub loop-k-init : goal.loop-k-init
loop-k-init c = (omega arith, raise_start c.args.m.now c.args.hi c.args.w)

pub bounds-m-k : goal.bounds-m-k
bounds-m-k c = omega (arith, c.loop-k.invariant.1.size)

pub bounds-m-k-in-loop-k : goal.bounds-m-k-in-loop-k
bounds-m-k-in-loop-k c = omega (arith, c.loop-k.invariant.1.size)

pub loop-k-preserved : goal.loop-k-preserved
loop-k-preserved c = (omega arith, raise_iteration c.loop-k.invariant.1 (omega arith) (omega arith) (omega arith))

pub returns : goal.returns
returns c = raise_end c.args.lo c.loop-k.invariant.1 (omega arith) (omega arith) (omega arith)
