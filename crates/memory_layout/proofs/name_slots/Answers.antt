-- `memory_layout::name_slots` meets its contract. The invariant: only the bytes of the first i slot numbers may differ from those at entry.
use Rattle.basics.proofs.Kit.{arith}
use Rattle.memory_layout.proofs.Blank.{names_start, names_iteration}
use Rattle.memory_layout.specs.Places.{refs_at}
use Rattle.memory_layout.proofs.name_slots.Goals as goal

pub loop-i-init : goal.loop-i-init
loop-i-init c = names_start c.args.m.now (refs_at c.args.n)

pub put2-requires : goal.put2-requires
put2-requires c = omega (arith, c.loop-i.invariant.size)

pub loop-i-preserved : goal.loop-i-preserved
loop-i-preserved c = names_iteration c.loop-i.i c.loop-i.invariant c.put2.ensures.apart

pub shape_of-m : goal.shape_of-m
shape_of-m c = c.loop-i.invariant.size

pub returns : goal.returns
returns c = let s = c.loop-i.invariant in
    record { size = s.size; below = s.below; above = λ b h. s.above b (omega arith) }
