-- `block_forms::copy` meets its contract. The invariant: the first i bytes are over those of the block from `at` on.
use Rattle.basics.proofs.Kit.{◌≡◌, refl, sym, ◌∙◌, length-set, arith}
use Rattle.basics.proofs.Overs.{over_nil, copy_iteration}
use Rattle.block_forms.proofs.copy.Goals as goal

pub loop-i-init : goal.loop-i-init
loop-i-init c = (refl, sym (over_nil c.args.block.now c.args.at))

pub loop-i-preserved : goal.loop-i-preserved
loop-i-preserved c = let p = c.loop-i in
    (simp length-set (omega (arith, p.invariant.0)), rw p.invariant.1 (copy_iteration c.args.block.now c.args.from.now c.args.at c.args.start p.i (omega arith) (omega arith)))

pub returns : goal.returns
returns c = let p = c.loop-i in
    let e : p.i ≡ c.args.len = omega arith in
    p.invariant.1 ∙ rw e
