-- `engine_pages::commit_later` meets its contract: a pending add by `commit_adding`, a pending removal by `commit_left`, any other row by `commit_noted`.
use Rattle.basics.proofs.Kit.{sym, ◌∙◌}
use Rattle.engine_pages.proofs.Places.{row_in_lem}
use Rattle.engine_pages.proofs.Committing.{commit_left, commit_adding, commit_noted}
use Rattle.engine_pages.proofs.commit_later.Goals as goal

pub is_adding-requires : goal.is_adding-requires
is_adding-requires c = row_in_lem c.requires.0

pub commit_row-requires : goal.commit_row-requires
commit_row-requires c = row_in_lem c.requires.0

pub returns-then-is_adding : goal.returns-then-is_adding
returns-then-is_adding c = commit_adding c.requires.0 c.requires.1 (sym c.is_adding.ensures ∙ c.if-is_adding.true) c.commit_row.ensures

pub is_removing-requires : goal.is_removing-requires
is_removing-requires c = row_in_lem c.requires.0

pub returns-then-is_removing : goal.returns-then-is_removing
returns-then-is_removing c = commit_left c.requires.0 c.requires.1 (sym c.is_adding.ensures ∙ c.if-is_adding.false) (sym c.is_removing.ensures ∙ c.if-is_removing.true)

pub set_pending-requires : goal.set_pending-requires
set_pending-requires c = row_in_lem c.requires.0

pub returns : goal.returns
returns c = commit_noted c.requires.0 c.requires.1 (sym c.is_adding.ensures ∙ c.if-is_adding.false) (sym c.is_removing.ensures ∙ c.if-is_removing.false) c.set_pending.ensures
