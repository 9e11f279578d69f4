use Rattle.basics.proofs.Kit.{◌-◌}
use Rattle.model.specs.Rules.{shown}
use Rattle.memory_layout.specs.Flat.{flat_of}
use Rattle.engine_writer.proofs.Showing.{run}
use Rattle.engine_writer.proofs.Writing.{Measured}
use Rattle.engine_writer.proofs.measure.Given as goal

abbrev pub invariant-loop-i : goal.invariant-loop-i
invariant-loop-i l = Measured (l.i - l.s) (shown (run (flat_of l.m).rows l.s l.i)) l.count l.bytes
