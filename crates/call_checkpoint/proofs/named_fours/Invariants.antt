use Rattle.basics.proofs.Kit.{◌*◌}
use Rattle.memory_layout.specs.Flat.{flat_of}
use Rattle.call_checkpoint.specs.Counting.{NamedBefore}
use Rattle.call_checkpoint.proofs.named_fours.Given as goal

abbrev pub invariant-loop-k : goal.invariant-loop-k
invariant-loop-k l = NamedBefore (flat_of l.m).named (4 * l.k)
