use Rattle.basics.proofs.Kit.{◌≡◌, ◌*◌, ◌^◌, ◌/◌, ◌-◌}
use Rattle.block_bits.specs.Bits.{bits_of, bits_in}
use Rattle.basics.specs.Lists.{over}
use Rattle.block_bits.proofs.store.Given as goal

abbrev pub invariant-loop-i : goal.invariant-loop-i
invariant-loop-i l = bits_in l.block ≡ over (bits_in l.initial.block) (8 * l.p) (bits_of (8 * l.i) (l.x / 2 ^ (8 * l.n - 8 * l.i)))
