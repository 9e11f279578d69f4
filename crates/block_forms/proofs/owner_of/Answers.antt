-- `block_forms::owner_of` meets its contract: the committed bit is the highest, and the word's two parts are transaction and statement.
use Rattle.basics.proofs.Kit.{lt-ltb, le-ltb}
use Rattle.basics.specs.Basics.{if'◌then◌else◌}
use Rattle.block_forms.specs.Decode.{read_owner}
use Rattle.block_forms.proofs.owner_of.Goals as goal

pub returns-then-flags-lt-COMMITTED : goal.returns-then-flags-lt-COMMITTED
unfolding read_owner if'◌then◌else◌
returns-then-flags-lt-COMMITTED c = simp (lt-ltb _ _ c.if-flags-lt-COMMITTED.true)

pub returns-else-flags-lt-COMMITTED : goal.returns-else-flags-lt-COMMITTED
unfolding read_owner if'◌then◌else◌
returns-else-flags-lt-COMMITTED c = simp (le-ltb _ _ c.if-flags-lt-COMMITTED.false)
