-- `image_header::entries_ok` meets its contract, by the contracts of `in_blocks`, `apart` and `distinct`.
use Rattle.basics.proofs.Kit.{arith}
use Rattle.std.proofs.lemmas.Grind.{common_steps}
use Rattle.basics.specs.Basics.{every}
use Rattle.image_header.specs.Names.{entries_ok}
use Rattle.image_header.proofs.entries_ok.Goals as goal

pub returns-then-apart : goal.returns-then-apart
unfolding entries_ok every
returns-then-apart c = grind (arith, common_steps)

pub returns-else-apart : goal.returns-else-apart
unfolding entries_ok every
returns-else-apart c = grind (arith, common_steps)
