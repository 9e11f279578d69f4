-- `image_rows::statements` meets its contract: where numbers are distinct the two tests are those of the definition (`statements_tests`).
use Rattle.image_rows.proofs.Order.{statements_tests}
use Rattle.image_rows.proofs.Chains.{empty_table}
use Rattle.basics.proofs.Kit.{sym, ◌∙◌, arith}
use Rattle.image_rows.proofs.statements.Goals as goal

pub link_all-requires : goal.link_all-requires
link_all-requires c = record { few = omega arith; rows = omega arith; linked = omega arith; empty = empty_table _ _ }

pub returns-then-link_all : goal.returns-then-link_all
returns-then-link_all c = let a = c.args in
    c.statements_rise.ensures ∙ sym (sym (statements_tests _ _ a.count c.requires.owners_hold.numbers c.requires.numbers_value)
    ∙ rw (sym c.link_all.ensures.once ∙ c.if-link_all.true))

pub returns-else-link_all : goal.returns-else-link_all
returns-else-link_all c = let a = c.args in
    c.if-link_all.false ∙ sym (sym (statements_tests _ _ a.count c.requires.owners_hold.numbers c.requires.numbers_value)
    ∙ rw (sym c.link_all.ensures.once ∙ c.if-link_all.false))
