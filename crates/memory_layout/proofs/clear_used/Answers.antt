-- `memory_layout::clear_used` meets its contract: where all bits are 0 no block is in use (`clear_becomes`).
use Rattle.memory_layout.proofs.Marks.{clear_becomes}
use Rattle.memory_layout.proofs.clear_used.Goals as goal

pub returns : goal.returns
returns c = clear_becomes c.requires c.clear.ensures
