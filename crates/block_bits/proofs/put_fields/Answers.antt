-- `block_bits::put_fields` meets its contract. The invariant: the fields that are left, put over the block as it is, give the answer.
use Rattle.basics.proofs.Kit.{sym, ◌∙◌, ⊎_elim, inl, inr, arith}
use Rattle.block_bits.proofs.Rest.{first_inside, rest_inside, put_next, put_none}
use Rattle.block_bits.proofs.put_fields.Goals as goal

pub put_bits-requires : goal.put_bits-requires
put_bits-requires c = rw c.from-width.ensures (first_inside _ c.in-Some.ensures.steps.0 c.loop-width.invariant.0)

pub overflow_add-at : goal.overflow_add-at
overflow_add-at c = let i = first_inside _ c.in-Some.ensures.steps.0 c.loop-width.invariant.0 in omega (arith, c.from-width.ensures, i.small, i.word)

pub loop-width-preserved : goal.loop-width-preserved
loop-width-preserved c = let step = c.in-Some.ensures.steps in
    let h = c.loop-width.invariant in
    rw c.from-width.ensures (rest_inside _ step.0 h.0 _ c.put_bits.auto.block, put_next _ _ _ _ step.0 step.1 (rw c.from-width.ensures at c.put_bits.ensures) ∙ h.1)

pub returns : goal.returns
returns c = sym (put_none _ _ _ _ (⊎_elim (λ p. inl p.1.0) (λ p. inr p.1.0) c.in-None.ensures.steps)) ∙ c.loop-width.invariant.1
