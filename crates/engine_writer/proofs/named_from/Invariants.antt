use Rattle.memory_layout.specs.Flat.{flat_of}
use Rattle.block_forms.specs.Limits.{entries_per_block}
use Rattle.basics.proofs.Kit.{◌≡◌, length, take, drop}
use Rattle.engine_writer.proofs.named_from.Given as goal

abbrev pub invariant-loop-i : goal.invariant-loop-i
invariant-loop-i l = (length l.entries ≡ entries_per_block) × (take l.i l.entries ≡ take l.i (drop l.first (flat_of l.m).named))
