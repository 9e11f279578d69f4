-- `memory_pages::insert2` meets its contract: the numbers from i on go up by one place, then x is written (`inserted2`).
use Rattle.basics.proofs.Kit.{arith}
use Rattle.memory_pages.proofs.Columns.{inserted2}
use Rattle.memory_pages.proofs.insert2.Goals as goal

pub returns : goal.returns
returns c = inserted2 c.requires.0 (omega arith) c.raise.ensures c.put2.ensures
