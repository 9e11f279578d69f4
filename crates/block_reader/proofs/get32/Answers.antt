-- `block_reader::get32` meets its contract, by the definition of four bytes as a number.
use Rattle.basics.proofs.Kit.{◌^◌, ◌≤◌, pow_mono, arith}
use Rattle.block_reader.proofs.get32.Goals as goal

pub overflow_cast-result : goal.overflow_cast-result
overflow_cast-result c = let p : 2 ^ c.args.width ≤ 2 ^ 32 = pow_mono c.requires.1 in
    omega (arith, c.get_bits.ensures.1)
