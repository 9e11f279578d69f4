-- `image_page::owner_code` meets its contract: a committed owner is 0, a tentative one its number above it (`owner_coded`).
use Rattle.basics.proofs.Kit.{refl, sym, ap, ◌∙◌, subst, arith}
use Rattle.basics.specs.Basics.{if'◌then◌else◌}
use Rattle.block_forms.specs.Tuple.{OwnerFits}
use Rattle.block_forms.specs.Bytes.{owner_is}
use Rattle.block_forms.specs.declared.Owner.{Owner}
use Rattle.image_rows.specs.Columns.{coded_owner}
use Rattle.image_page.proofs.Places.{owner_coded}
use Rattle.image_page.proofs.owner_code.Goals as goal

pub returns-in-Committed : goal.returns-in-Committed
unfolding coded_owner if'◌then◌else◌
returns-in-Committed c = sym (ap owner_is c.in-Committed.is)

pub returns-in-Tentative : goal.returns-in-Tentative
returns-in-Tentative c = owner_coded refl (omega (arith, subst (λ (o : Owner). OwnerFits (owner_is o)) c.in-Tentative.is c.requires)) ∙ sym (ap owner_is c.in-Tentative.is)
