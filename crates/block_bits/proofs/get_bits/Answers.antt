-- `block_bits::get_bits` meets its contract: the field is a part of the number in its window (`window_get`).
use Rattle.basics.proofs.Kit.{ℕ, ◌+◌, ◌*◌, ◌%◌, ◌/◌, ◌-◌, mod-lt, pow_pos, arith}
use Rattle.block_bits.proofs.Window.{one_shl, window_get}
use Rattle.block_bits.proofs.get_bits.Goals as goal

pub returns : goal.returns
returns c = let a = c.args in
    let n : ℕ = (a.at % 8 + a.width + 7) / 8 in
    let t : ℕ = 8 * n - a.at % 8 - a.width in
    rw (one_shl a.width (omega arith)) (
      window_get a.block.now (a.at / 8) n a.at (a.at % 8) a.width t c.load.result (omega arith) (omega arith) (omega arith) c.load.ensures.0,
      mod-lt _ (pow_pos a.width),
    )
