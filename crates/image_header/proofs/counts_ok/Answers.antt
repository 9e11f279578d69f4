-- `image_header::counts_ok` meets its contract: the tests one by one.
use Rattle.basics.proofs.Kit.{arith}
use Rattle.std.proofs.lemmas.Grind.{common_steps}
use Rattle.basics.specs.Basics.{every}
use Rattle.image_header.specs.Names.{counts_ok}
use Rattle.image_header.proofs.counts_ok.Goals as goal

pub returns-then-h : goal.returns-then-h
unfolding counts_ok every
returns-then-h c = grind (arith, common_steps)

pub returns-else-h : goal.returns-else-h
unfolding counts_ok every
returns-else-h c = grind (arith, common_steps)
