-- `engine_pages::apply_pending_row` meets its contract: a pending removal by `row_removed`, any other row by `row_kept`.
use Rattle.basics.proofs.Kit.{sym, ◌∙◌}
use Rattle.engine_pages.proofs.Applying.{row_removed, row_kept}
use Rattle.engine_pages.proofs.apply_pending_row.Goals as goal

pub is_removing-requires : goal.is_removing-requires
is_removing-requires c = let g = c.requires in (g.0, g.1.row)

pub remove_row-requires : goal.remove_row-requires
remove_row-requires c = c.requires

pub returns-then-is_removing : goal.returns-then-is_removing
returns-then-is_removing c = row_removed c.requires (sym c.is_removing.ensures ∙ c.if-is_removing.true) c.remove_row.ensures

pub apply_kept-requires : goal.apply_kept-requires
apply_kept-requires c = let g = c.requires in (g.0, g.1.row)

pub returns : goal.returns
returns c = row_kept c.requires (sym c.is_removing.ensures ∙ c.if-is_removing.false) c.apply_kept.ensures
