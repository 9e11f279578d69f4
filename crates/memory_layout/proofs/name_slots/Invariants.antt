use Rattle.basics.proofs.Kit.{◌*◌}
use Rattle.memory_bytes.specs.Bytes.{Apart}
use Rattle.memory_layout.specs.Places.{refs_at}
use Rattle.memory_layout.proofs.name_slots.Given as goal

abbrev pub invariant-loop-i : goal.invariant-loop-i
invariant-loop-i l = Apart l.initial.m l.m (refs_at l.n) (l.i * 2)
