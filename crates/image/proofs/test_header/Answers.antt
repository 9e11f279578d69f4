-- `image::test_header` meets its contract: a wrong length is refused with 1, otherwise block 0 decides (`by_block`).
use Rattle.std.specs.Prelude.{Some, None, Result, Err}
use Rattle.std.proofs.lemmas.Result.{err_from_is_err_and}
use Rattle.refusals.specs.declared.Refusal.{Refusal}
use Rattle.refusals.specs.declared.Refusal.TheVariants.{BadHeader}
use Rattle.block_reader.specs.declared.Block.TheVariants as read
use Rattle.basics.proofs.Kit.{◌≡◌, sym, ap, ◌∙◌, ◌/◌, length, arith}
use Rattle.basics.proofs.Facts.{clash}
use Rattle.block_forms.specs.Limits.{block_size}
use Rattle.block_forms.specs.Decode.{decode_block}
use Rattle.image.proofs.Staged.{ragged, by_block, header_yes, header_no, other_header}
use Rattle.image.proofs.test_header.Goals.{then-len-ne0-via-then-len-ne0, then-len-ne0-via-else-len-ne0+then-n-lt2}
use Rattle.image.proofs.test_header.Goals.{then-len-ne0-via-else-len-ne0+else-n-lt2+then-n-gt-BLOCK_LIMIT}
use Rattle.image.proofs.test_header.Goals as goal

pub returns-then-len-ne0 : goal.returns-then-len-ne0
returns-then-len-ne0 c = ragged _ (λ whole two most. elim c.then-len-ne0.branch [
  | then-len-ne0-via-then-len-ne0 w ↦ w.if-len-ne0.true whole
  | then-len-ne0-via-else-len-ne0+then-n-lt2 w ↦ omega arith
  | then-len-ne0-via-else-len-ne0+else-n-lt2+then-n-gt-BLOCK_LIMIT w ↦ omega arith
])

pub returns-in_err-h : goal.returns-in_err-h
returns-in_err-h c = let x = c.args.image.now in
    let e = by_block x c.if-len-ne0.false c.if-n-lt2.false c.if-n-gt-BLOCK_LIMIT.false _ c.block_at-block.ensures in
    let p = err_from_is_err_and c.from_residual.result c.from_residual.ensures.1 in
    let v : ◌≡◌ {A = Result read.the_data Refusal} (Err c.in_err-h.field-0.0) (Err BadHeader) = rw c.in_err-h.ensures.ok_part at c.in_err-h.ensures.value in
    let bad : c.in_err-h.field-0.0 ≡ BadHeader = cc in
    rw (p.1, p.2, bad) (other_header (length x / block_size) (decode_block _)
    (λ h q. let k : None ≡ Some (read.Header h) = sym c.in_err-h.ensures.ok_part ∙ c.read_block.ensures ∙ q in clash cc) ∙ e)

pub returns-in_default : goal.returns-in_default
returns-in_default c = let x = c.args.image.now in
    let e = by_block x c.if-len-ne0.false c.if-n-lt2.false c.if-n-gt-BLOCK_LIMIT.false _ c.block_at-block.ensures in
    other_header (length x / block_size) (decode_block _)
    (λ h q. let k = sym c.in_ok-h.ensures.ok_part ∙ c.read_block.ensures ∙ q in c.in_default.not-Header h cc) ∙ e

pub returns-then-not-head_ok : goal.returns-then-not-head_ok
returns-then-not-head_ok c = let x = c.args.image.now in
    let e = by_block x c.if-len-ne0.false c.if-n-lt2.false c.if-n-gt-BLOCK_LIMIT.false _ c.block_at-block.ensures in
    header_no (length x / block_size) (decode_block _) (ap Some (sym c.in-Header.is) ∙ sym c.in_ok-h.ensures.ok_part ∙ c.read_block.ensures)
    (sym c.head_ok.ensures ∙ c.if-not-head_ok.true) ∙ e

pub returns : goal.returns
returns c = let x = c.args.image.now in
    let e = by_block x c.if-len-ne0.false c.if-n-lt2.false c.if-n-gt-BLOCK_LIMIT.false _ c.block_at-block.ensures in
    header_yes (length x / block_size) (decode_block _) (ap Some (sym c.in-Header.is) ∙ sym c.in_ok-h.ensures.ok_part ∙ c.read_block.ensures)
    (sym c.head_ok.ensures ∙ c.if-not-head_ok.false) ∙ e
