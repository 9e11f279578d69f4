-- `image_page::good_page` meets its contract: for no page by `no_page`, where a test fails by `good_not`, where all pass by `good_yes`.
use Rattle.std.specs.Prelude.{Some, None}
use Rattle.basics.proofs.Kit.{◌≡◌, sym, ap, ◌∙◌, arith}
use Rattle.basics.proofs.Facts.{lie, clash}
use Rattle.block_reader.proofs.Answering.{no_page}
use Rattle.block_reader.specs.declared.Block.TheVariants as read
use Rattle.image_page.specs.Page.{good_page}
use Rattle.image_page.proofs.Decoded.{passed, good_not, good_yes}
use Rattle.image_page.proofs.good_page.Goals.{else-page-ge1-via-then-page-ge1+then-page-ge1-2+then-page-level+then-page-room+else-marks_ok}
use Rattle.image_page.proofs.good_page.Goals.{else-page-ge1-via-then-page-ge1+then-page-ge1-2+then-page-level+else-page-room}
use Rattle.image_page.proofs.good_page.Goals.{else-page-ge1-via-then-page-ge1+then-page-ge1-2+else-page-level}
use Rattle.image_page.proofs.good_page.Goals.{else-page-ge1-via-then-page-ge1+else-page-ge1-2, else-page-ge1-via-else-page-ge1}
use Rattle.image_page.proofs.good_page.Goals as goal

pub returns-in_err-page : goal.returns-in_err-page
unfolding good_page
returns-in_err-page c = c.from_residual.ensures ∙ rw (no_page _ (λ h e. let k : None ≡ Some (read.Page h) = sym c.in_err-page.was ∙ c.read_block.ensures ∙ e in clash cc))

pub returns-in_default : goal.returns-in_default
unfolding good_page
returns-in_default c = rw (no_page _ (λ h e. let k = sym c.in_ok-page.was ∙ c.read_block.ensures ∙ e in c.in_default.not-Page h cc))

pub returns-then-marks_ok : goal.returns-then-marks_ok
returns-then-marks_ok c = let a = c.args in
    let f = passed a.block.now (ap Some (sym c.in-Page.is) ∙ sym c.in_ok-page.was ∙ c.read_block.ensures) in
    good_yes a.level a.room f (record {
      counted = omega arith;
      written = omega arith;
      older = omega arith;
      few = omega arith;
      marks = sym (c.marks_ok.ensures c.in-Page.page.table f.tuples f.read) ∙ c.if-marks_ok.true;
    })

pub returns-else-page-ge1 : goal.returns-else-page-ge1
returns-else-page-ge1 c = let a = c.args in
    let f = passed a.block.now (ap Some (sym c.in-Page.is) ∙ sym c.in_ok-page.was ∙ c.read_block.ensures) in
    good_not a.level a.room f (λ g. elim c.else-page-ge1.branch [
      | else-page-ge1-via-then-page-ge1+then-page-ge1-2+then-page-level+then-page-room+else-marks_ok w ↦
          lie (sym w.if-marks_ok.false ∙ w.marks_ok.ensures c.in-Page.page.table f.tuples f.read ∙ g.marks)
      | else-page-ge1-via-then-page-ge1+then-page-ge1-2+then-page-level+else-page-room w ↦ omega arith
      | else-page-ge1-via-then-page-ge1+then-page-ge1-2+else-page-level w ↦ omega arith
      | else-page-ge1-via-then-page-ge1+else-page-ge1-2 w ↦ omega arith
      | else-page-ge1-via-else-page-ge1 w ↦ omega arith
    ])
