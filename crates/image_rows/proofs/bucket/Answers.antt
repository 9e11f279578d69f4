-- `image_rows::bucket` meets its contract, for 0 and for every other key.
use Rattle.image_rows.specs.Chains.{bucket_of}
use Rattle.basics.proofs.Kit.{eq-eqb, ne_eqb, arith}
use Rattle.basics.specs.Basics.{if'◌then◌else◌}
use Rattle.image_rows.proofs.bucket.Goals as goal

pub returns-then-x-eq0 : goal.returns-then-x-eq0
unfolding bucket_of if'◌then◌else◌
returns-then-x-eq0 c = (rw (eq-eqb _ _ c.if-x-eq0.true), omega arith)

pub returns-else-x-eq0 : goal.returns-else-x-eq0
unfolding bucket_of if'◌then◌else◌
returns-else-x-eq0 c = (rw (ne_eqb _ _ c.if-x-eq0.false), omega arith)
