-- `memory_bytes::add_each2` meets its contract. The invariant: the numbers from s up to j are d more, modulo 65,536, and no other byte differs.
use Rattle.memory_bytes.proofs.Moves.{add_start, add_iteration, add_end}
use Rattle.basics.proofs.Kit.{refl, arith}
use Rattle.memory_bytes.proofs.add_each2.Goals as goal

pub loop-j-init : goal.loop-j-init
loop-j-init c = let a = c.args in add_start a.m.now a.base a.s a.d

pub get2-requires : goal.get2-requires
get2-requires c = omega (arith, c.loop-j.invariant.apart.size)

pub put2-requires : goal.put2-requires
put2-requires c = omega (arith, c.loop-j.invariant.apart.size)

pub loop-j-preserved : goal.loop-j-preserved
loop-j-preserved c = add_iteration c.loop-j.j _ c.loop-j.invariant (omega arith) c.get2.ensures refl c.put2.ensures

pub shape_of-m : goal.shape_of-m
shape_of-m c = c.loop-j.invariant.apart.size

pub returns : goal.returns
returns c = add_end c.loop-j.invariant (omega arith) refl
