-- `block_bits::load` meets its contract. The invariant: acc is the number in the bytes up to b.
use Rattle.basics.proofs.Kit.{◌≡◌, refl, ◌∙◌, ◌+◌, ◌<◌, get_or, arith}
use Rattle.std.proofs.lemmas.List.Edits.{get_or-between}
use Rattle.block_bits.specs.Bits.{field, number}
use Rattle.block_bits.proofs.Window.{load_iteration, load_lt, load_fits}
use Rattle.block_bits.proofs.load.Goals as goal

pub loop-b-init : goal.loop-b-init
unfolding number field
loop-b-init c = (refl, omega arith)

pub overflow_mul-acc : goal.overflow_mul-acc
overflow_mul-acc c = let l = c.loop-b in
    omega (arith, load_fits l.b-index l.acc 0 (omega arith) l.invariant.1 (omega arith))

pub overflow_add-acc : goal.overflow_add-acc
overflow_add-acc c = let l = c.loop-b in
    omega (arith, load_fits l.b-index l.acc c.from.result (omega arith) l.invariant.1 (omega arith))

pub loop-b-preserved : goal.loop-b-preserved
loop-b-preserved c = let l = c.loop-b in
    let a = c.args in
    let r : c.from.result ≡ get_or a.block.now (a.p + l.b-index) 0 = c.from.ensures ∙ get_or-between a.block.now a.p (a.p + a.n) l.b-index 0 (omega arith) in
    let small : get_or a.block.now (a.p + l.b-index) 0 < 256 = omega (arith, c.type_inv.block (a.p + l.b-index)) in
    rw r (load_iteration a.block.now a.p l.b-index l.acc (omega arith) small l.invariant.0, load_lt l.b-index l.acc _ l.invariant.1 small)
