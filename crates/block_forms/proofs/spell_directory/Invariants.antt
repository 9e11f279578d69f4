use Rattle.basics.proofs.Kit.{◌≡◌, ℕ, ◌<◌, length, take, get_or}
use Rattle.block_bits.specs.Bits.{bits_in}
use Rattle.block_forms.specs.Limits.{block_size}
use Rattle.block_forms.specs.Spell.{padded}
use Rattle.block_forms.proofs.Entries.{dir_bits}
use Rattle.block_forms.proofs.spell_directory.Given as goal

abbrev pub invariant-loop-i : goal.invariant-loop-i
invariant-loop-i l = (length l.block ≡ block_size) × (((j : ℕ) → get_or l.block j 0 < 256) × (bits_in l.block ≡ padded (dir_bits l.level l.count (take l.i l.entries))))
