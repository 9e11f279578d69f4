use Rattle.basics.proofs.Kit.{◌≡◌, length, take}
use Rattle.block_forms.specs.Limits.{entries_per_block}
use Rattle.block_forms.specs.Decode.{read_entries}
use Rattle.block_reader.proofs.read_entries.Given as goal

abbrev pub invariant-loop-i : goal.invariant-loop-i
invariant-loop-i l = record { whole : length l.out ≡ entries_per_block; read : take l.i l.out ≡ read_entries l.block 64 l.i }
