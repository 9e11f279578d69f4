use Rattle.basics.proofs.Kit.{◌≡◌, ◌*◌, ◌^◌, ◌<◌}
use Rattle.block_bits.specs.Bits.{field, bits_in}
use Rattle.block_bits.proofs.load.Given as goal

abbrev pub invariant-loop-b : goal.invariant-loop-b
invariant-loop-b l = (l.acc ≡ field (bits_in l.block) (8 * l.p) (8 * l.b-index)) × (l.acc < 2 ^ (8 * l.b-index))
