-- `block_forms::flags_of` meets its contract: for each case of committed and mark, the sum of the bits and of the length.
use Rattle.basics.proofs.Kit.{ap, arith}
use Rattle.basics.specs.Basics.{one_if}
use Rattle.block_forms.specs.Block.{committed_bit}
use Rattle.block_forms.specs.Bytes.{owner_is, flags_of}
use Rattle.block_forms.specs.declared.Owner.{Owner}
use Rattle.block_forms.proofs.flags_of.Goals as goal
use Rattle.block_forms.proofs.flags_of.Goals.{then-mark, else-mark}

pub overflow_add-result : goal.overflow_add-result
overflow_add-result c = elim c.if-mark.branch [ then-mark w ↦ omega arith | else-mark w ↦ omega arith ]

pub returns-in-Committed : goal.returns-in-Committed
unfolding flags_of committed_bit
returns-in-Committed c = elim c.if-mark.branch [
  | then-mark w ↦ omega (arith, ap one_if w.if-mark.true, ap (λ (o : Owner). committed_bit (owner_is o)) c.in-Committed.is)
  | else-mark w ↦ omega (arith, ap one_if w.if-mark.false, ap (λ (o : Owner). committed_bit (owner_is o)) c.in-Committed.is)
]

pub returns-in-Tentative : goal.returns-in-Tentative
unfolding flags_of committed_bit
returns-in-Tentative c = elim c.if-mark.branch [
  | then-mark w ↦ omega (arith, ap one_if w.if-mark.true, ap (λ (o : Owner). committed_bit (owner_is o)) c.in-Tentative.is)
  | else-mark w ↦ omega (arith, ap one_if w.if-mark.false, ap (λ (o : Owner). committed_bit (owner_is o)) c.in-Tentative.is)
]
