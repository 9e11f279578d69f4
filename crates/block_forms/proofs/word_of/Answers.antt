-- `block_forms::word_of` meets its contract: a committed owner has the word 0, a tentative one its two numbers side by side.
use Rattle.basics.proofs.Kit.{sym, ap, subst, arith}
use Rattle.block_forms.specs.Tuple.{OwnerFits}
use Rattle.block_forms.specs.Bytes.{owner_is, owner_word}
use Rattle.block_forms.specs.declared.Owner.{Owner}
use Rattle.block_forms.proofs.word_of.Goals as goal

pub overflow_mul-result : goal.overflow_mul-result
overflow_mul-result c = omega (arith, subst (λ (o : Owner). OwnerFits (owner_is o)) c.in-Tentative.is c.requires)

pub overflow_add-result : goal.overflow_add-result
overflow_add-result c = omega (arith, subst (λ (o : Owner). OwnerFits (owner_is o)) c.in-Tentative.is c.requires)

pub returns-in-Committed : goal.returns-in-Committed
unfolding owner_word
returns-in-Committed c = sym (ap (λ (o : Owner). owner_word (owner_is o)) c.in-Committed.is)

pub returns-in-Tentative : goal.returns-in-Tentative
unfolding owner_word
returns-in-Tentative c = sym (ap (λ (o : Owner). owner_word (owner_is o)) c.in-Tentative.is)
