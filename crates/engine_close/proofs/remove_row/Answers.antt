-- `engine_close::remove_row` meets its contract, by that of `remove_at`; at most one row is gone (`one_removed`), so that the row behind it is i + 1 or i.
use Rattle.engine_pages.proofs.Places.{now_held}
use Rattle.model.specs.Places.{remove_row}
use Rattle.engine_pages.specs.Pages.{pages_of}
use Rattle.engine_close.proofs.Closing.{now_by_store, one_removed}
use Rattle.engine_close.proofs.Memory.{row_on, few_tagged}
use Rattle.memory_layout.proofs.Laws.{holds_room}
use Rattle.basics.proofs.Kit.{arith}
use Rattle.engine_close.proofs.remove_row.Goals as goal

pub row_count-n-requires : goal.row_count-n-requires
row_count-n-requires c = holds_room _ c.requires.0

pub page_near-p-requires : goal.page_near-p-requires
page_near-p-requires c = let p = c.requires in (holds_room _ p.0, p.1)

pub remove_at-requires : goal.remove_at-requires
remove_at-requires c = row_on c.requires.0 c.page_near-p.ensures

pub overflow_add-result : goal.overflow_add-result
overflow_add-result c = omega (arith, c.requires.1, few_tagged _ (holds_room _ c.requires.0))

pub row_count-requires : goal.row_count-requires
row_count-requires c = holds_room _ (now_held (now_by_store (remove_row _ (pages_of _)) c.remove_at.ensures))

pub overflow_add-result-2 : goal.overflow_add-result-2
overflow_add-result-2 c = let g = one_removed c.requires.1 (now_by_store (remove_row _ (pages_of _)) c.remove_at.ensures) in
    omega (arith, c.requires.1, few_tagged _ (holds_room _ c.requires.0), c.row_count.ensures, g.1)

pub overflow_sub-result : goal.overflow_sub-result
overflow_sub-result c = let g = one_removed c.requires.1 (now_by_store (remove_row _ (pages_of _)) c.remove_at.ensures) in
    omega (arith, c.requires.1, c.row_count-n.ensures, c.row_count.ensures, g.0)

pub returns : goal.returns
returns c = let u = now_by_store (remove_row _ (pages_of _)) c.remove_at.ensures in let g = one_removed c.requires.1 u in
    record { pages = u; next = omega (arith, c.requires.1, c.row_count-n.ensures, c.row_count.ensures, g.0) }
