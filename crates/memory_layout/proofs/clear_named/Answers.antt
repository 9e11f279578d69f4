-- `memory_layout::clear_named` meets its contract: a list whose count is 0 is empty (`named_clear`).
use Rattle.memory_layout.proofs.HeadLists.{named_clear}
use Rattle.memory_layout.proofs.clear_named.Goals as goal

pub returns : goal.returns
returns c = named_clear c.requires c.put4.ensures
