use Rattle.basics.proofs.Kit.{◌≡◌, ◌-◌}
use Rattle.memory_layout.specs.Flat.{flat_of}
use Rattle.engine_lookup.proofs.Iterations.{along}
use Rattle.engine_lookup.proofs.note_rows.Given as goal

abbrev pub invariant-loop-i : goal.invariant-loop-i
invariant-loop-i l = along (flat_of l.m) l.transaction l.key l.i (l.to - l.i) l.l ≡ along (flat_of l.m) l.transaction l.key l.from (l.to - l.from) l.initial.l
