-- `engine_close::page_of` meets its contract, by that of `memory_pages::page_of`: every row is on one of all pages (`on_pages`).
use Rattle.engine_close.proofs.Memory.{on_pages}
use Rattle.engine_close.proofs.page_of.Goals as goal

pub page_of-requires : goal.page_of-requires
page_of-requires c = (c.requires.0, on_pages _ c.requires.0 c.page_count.ensures c.requires.1)
