-- `memory_pages::remove2` meets its contract: the numbers behind number i go down by one place (`removed2`).
use Rattle.memory_pages.proofs.Columns.{removed2}
use Rattle.memory_pages.proofs.remove2.Goals as goal

pub returns : goal.returns
returns c = removed2 c.requires.0 c.lower.ensures
