-- `image_rows::columns_ok` meets its contract: the tests of the definition, in the order in which the code makes them (`tests_in_turn`).
use Rattle.image_rows.proofs.Kept.{tests_in_turn}
use Rattle.basics.proofs.Kit.{arith}
use Rattle.std.proofs.lemmas.Grind.{common_steps}
use Rattle.image_rows.proofs.columns_ok.Goals as goal

pub returns-then-statements : goal.returns-then-statements
returns-then-statements c = let h = c.requires.columns_hold.numbers in rw tests_in_turn (grind (arith, common_steps))

pub returns-else-statements : goal.returns-else-statements
returns-else-statements c = let h = c.requires.columns_hold.numbers in rw tests_in_turn (grind (arith, common_steps))
