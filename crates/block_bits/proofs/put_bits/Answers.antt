-- `block_bits::put_bits` meets its contract: the window is stored with the field exchanged in it (`window_put`).
use Rattle.basics.proofs.Kit.{◌≡◌, subst, ℕ, ◌+◌, ◌*◌, ◌%◌, ◌^◌, ◌<◌, ◌/◌, ◌-◌, arith}
use Rattle.block_bits.specs.Bits.{bits_in}
use Rattle.block_bits.proofs.Window.{window_put}
use Rattle.block_bits.proofs.put_bits.Goals as goal

pub mix-requires : goal.mix-requires
mix-requires c = let a = c.args in
    let n : ℕ = (a.at % 8 + a.width + 7) / 8 in
    let e : 8 * n ≡ a.at % 8 + (a.width + (8 * n - a.at % 8 - a.width)) = omega arith in
    record { width = omega arith; size = omega arith; fits = subst (λ (m : ℕ). c.load-old.result < 2 ^ m) e c.load-old.ensures.1 }

pub returns : goal.returns
returns c = let a = c.args in
    let n : ℕ = (a.at % 8 + a.width + 7) / 8 in
    let t : ℕ = 8 * n - a.at % 8 - a.width in
    let mix = c.mix in
    let load = c.load-old in
    window_put a.block.now (a.at / 8) n a.at (a.at % 8) a.width t a.value load.result mix.result (bits_in c.store.new.block)
    (omega arith) (omega arith) (omega arith) c.store.ensures mix.ensures load.ensures.0
