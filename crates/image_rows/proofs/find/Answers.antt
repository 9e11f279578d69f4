-- `image_rows::find` meets its contract. The invariant: the chain ending at row j - 1 is that of the bucket of x, and the search below row j has the answer.
use Rattle.image_rows.proofs.Chains.{next_less, next_chain, found_here, chain_on}
use Rattle.image_rows.specs.Chains.{last_by}
use Rattle.basics.proofs.Kit.{◌≡◌, refl, ◌∙◌, arith}
use Rattle.image_rows.proofs.find.Goals as goal

pub loop-j-init : goal.loop-j-init
loop-j-init c = (c.requires, refl)

pub returns-then-keys-j : goal.returns-then-keys-j
returns-then-keys-j c = let p = c.loop-j in omega (arith, found_here p.invariant.0 (omega arith) c.if-keys-j.true, p.invariant.1)

pub loop-j-smaller : goal.loop-j-smaller
loop-j-smaller c = let p = c.loop-j in rw c.from-j.ensures (next_less p.invariant.0 (omega arith))

pub loop-j-preserved : goal.loop-j-preserved
loop-j-preserved c = let p = c.loop-j in
    rw c.from-j.ensures (next_chain p.invariant.0 (omega arith), p.invariant.1 ∙ chain_on p.invariant.0 (omega arith) c.if-keys-j.false)

pub returns : goal.returns
unfolding last_by
returns c = let p = c.loop-j in let e : p.j ≡ 0 = omega arith in p.invariant.1 ∙ rw e
