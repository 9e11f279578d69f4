-- `memory_layout::clear_directories` meets its contract: a list whose count is 0 is empty (`directories_clear`).
use Rattle.memory_layout.proofs.HeadLists.{directories_clear}
use Rattle.memory_layout.proofs.clear_directories.Goals as goal

pub returns : goal.returns
returns c = directories_clear c.requires c.put4.ensures
