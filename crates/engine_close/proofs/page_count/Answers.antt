-- `engine_close::page_count` meets its contract: the head's count of pages is how many page entries there are (`pages_read`).
use Rattle.memory_layout.proofs.Laws.{pages_read}
use Rattle.engine_close.proofs.page_count.Goals as goal

pub returns : goal.returns
returns c = pages_read _ c.get_counts.ensures
