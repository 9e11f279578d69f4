-- `block_bits::store` meets its contract. The invariant: the first i of the n bytes of x are put, and no other bit differs.
use Rattle.basics.proofs.Kit.{sym, ◌≡◌, ◌*◌, ◌-◌, arith}
use Rattle.block_bits.specs.Bits.{bits_of, bits_in}
use Rattle.basics.proofs.Overs.{over_nil}
use Rattle.block_bits.proofs.Window.{store_iteration}
use Rattle.block_bits.proofs.store.Goals as goal

pub loop-i-init : goal.loop-i-init
unfolding bits_of
loop-i-init c = sym (over_nil (bits_in c.args.block.now) (8 * c.args.p))

pub loop-i-preserved : goal.loop-i-preserved
loop-i-preserved c = let l = c.loop-i in
    let a = c.args in
    let e : 8 * (a.n - 1 - l.i) ≡ 8 * a.n - 8 * l.i - 8 = omega arith in
    store_iteration a.block.now l.block a.p a.n l.i a.x _ (omega arith) (omega arith) (omega arith) l.invariant (rw e)
