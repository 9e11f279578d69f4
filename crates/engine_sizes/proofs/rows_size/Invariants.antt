use Rattle.basics.proofs.Kit.{◌≡◌, ◌+◌}
use Rattle.basics.specs.Basics.{sum}
use Rattle.model.specs.Rules.{held_size}
use Rattle.memory_layout.specs.Elements.{rows_from}
use Rattle.engine_sizes.proofs.rows_size.Given as goal

abbrev pub invariant-loop-i : goal.invariant-loop-i
invariant-loop-i l = sum held_size (rows_from l.m l.s l.e) ≡ l.all + sum held_size (rows_from l.m l.i l.e)
