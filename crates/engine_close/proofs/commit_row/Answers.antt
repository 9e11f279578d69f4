-- `engine_close::commit_row` meets its contract, by that of `commit_at` for the page that `page_near` finds.
use Rattle.engine_close.proofs.Closing.{now_by_store}
use Rattle.engine_pages.specs.Pages.{pages_of}
use Rattle.model.specs.Places.{commit_row}
use Rattle.engine_close.proofs.Memory.{row_on}
use Rattle.memory_layout.proofs.Laws.{holds_room}
use Rattle.engine_close.proofs.commit_row.Goals as goal

pub page_near-p-requires : goal.page_near-p-requires
page_near-p-requires c = let p = c.requires in (holds_room _ p.0, p.1)

pub commit_at-requires : goal.commit_at-requires
commit_at-requires c = row_on c.requires.0 c.page_near-p.ensures

pub returns : goal.returns
returns c = now_by_store (commit_row _ (pages_of _)) c.commit_at.ensures
