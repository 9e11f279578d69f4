use Rattle.basics.proofs.Kit.{◌≡◌, length, take}
use Rattle.basics.specs.Lists.{over}
use Rattle.block_bits.specs.Bits.{bits_in}
use Rattle.block_forms.specs.Spell.{spell}
use Rattle.block_forms.specs.Block.{entry_fields}
use Rattle.log_records.proofs.put_transactions.Given as goal

abbrev pub invariant-loop-i : goal.invariant-loop-i
invariant-loop-i l = (length l.part ≡ length l.initial.part) × (bits_in l.part ≡ over (bits_in l.initial.part) 0 (spell (entry_fields (take l.i l.transactions))))
