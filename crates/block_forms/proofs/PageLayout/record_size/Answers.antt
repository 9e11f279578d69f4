-- `block_forms::PageLayout::record_size` meets its contract: the sum of the head's bytes, the owner's and the payload's, which is not too large for 32 bits.
use Rattle.basics.specs.Basics.{if'◌then◌else◌}
use Rattle.block_forms.proofs.PageLayout.record_size.Goals as goal

pub returns-then-tentative : goal.returns-then-tentative
unfolding if'◌then◌else◌
returns-then-tentative c = rw c.if-tentative.true

pub returns-else-tentative : goal.returns-else-tentative
unfolding if'◌then◌else◌
returns-else-tentative c = rw c.if-tentative.false
