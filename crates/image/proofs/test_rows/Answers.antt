-- `image::test_rows` meets its contract. The invariant: the columns have the rows of the first pages, without payloads, and their delete marks are right.
use Rattle.basics.proofs.Kit.{◌∙◌, ◌+◌, ◌≤◌, arith}
use Rattle.image.proofs.Collect.{within, goods, page_here, tuples_here, collecting_start, collecting_iteration, collecting_end, collecting_bad}
use Rattle.image.specs.View.{view}
use Rattle.image.proofs.test_rows.Goals as goal

pub loop-e-init : goal.loop-e-init
loop-e-init c = collecting_start (view _) _ _ _ _ _ _

pub block_at-block-requires : goal.block_at-block-requires
block_at-block-requires c = omega (arith, within _ _ c.loop-e.e-index c.requires.inside (omega arith))

pub returns-in_default : goal.returns-in_default
returns-in_default c = let a = c.args in let p = c.loop-e in
    let e = page_here _ a.entries.now p.e-index c.block_at-block.ensures _ _ c.good_page.ensures in
    collecting_bad p.invariant (omega arith) (e ∙ c.in_default.is)

pub add_rows-requires-clause-columns_hold : goal.add_rows-requires-clause-columns_hold
add_rows-requires-clause-columns_hold c = let a = c.args in let p = c.loop-e in
    let g = goods _ _ _ (page_here _ a.entries.now p.e-index c.block_at-block.ensures _ _ c.good_page.ensures ∙ c.in-Some.is) in
    let room : p.to + c.in-Some.page.count ≤ a.h.capacity = omega (arith, p.invariant.room, g.room_left) in
    record { places = omega arith; numbers = omega arith; owners = omega arith; marks = omega arith }

pub loop-e-preserved : goal.loop-e-preserved
loop-e-preserved c = let a = c.args in let p = c.loop-e in
    let g = goods _ _ _ (page_here _ a.entries.now p.e-index c.block_at-block.ensures _ _ c.good_page.ensures ∙ c.in-Some.is) in
    collecting_iteration p.invariant (omega arith) g (c.add_rows.ensures g.tuples (tuples_here _ a.entries.now p.e-index c.block_at-block.ensures g))

pub returns : goal.returns
returns c = c.columns_ok.ensures ∙ collecting_end c.loop-e.invariant (omega arith)
