-- `engine_writer::write_page` meets its contract: a page that shows nothing is empty (`storable_none`), another holds all that it shows (`storable_all`).
use Rattle.basics.proofs.Kit.{◌≡◌, refl, sym, ap, ◌∙◌, List, ℕ, length, leb-true, arith}
use Rattle.block_forms.specs.Limits.{record_space, block_size}
use Rattle.block_forms.specs.Tuple.{Tuple}
use Rattle.block_forms.specs.Block.{page, encode_block}
use Rattle.block_forms.proofs.Laws.{encode_length}
use Rattle.model.specs.Rules.{shown}
use Rattle.model.specs.Checkpoint.{storable}
use Rattle.memory_layout.specs.Elements.{rows_from}
use Rattle.engine_writer.proofs.Writing.{empty_page, storable_all, storable_none}
use Rattle.engine_writer.proofs.write_page.Goals.{then-fits, else-fits}
use Rattle.engine_writer.proofs.write_page.Goals as goal

pub fill_page-requires : goal.fill_page-requires
fill_page-requires c = record {
  zero = refl;
  table = c.requires.table;
  rows = c.requires.rows;
  measured = c.measure-w.ensures;
  fits = leb-true _ record_space (sym c.fits.ensures ∙ c.if-fits.true);
}

pub slice_bounds-copy_out-end : goal.slice_bounds-copy_out-end
slice_bounds-copy_out-end c = let made : let a = c.args in c.if-fits.block ≡ encode_block (page a.table a.level (storable (shown (rows_from a.m.now a.s a.e)))) = let store : List Tuple → List ℕ = λ ts. encode_block (page c.args.table c.args.level ts) in elim c.if-fits.branch [ then-fits a ↦ a.block-is ∙ a.fill_page.ensures ∙ ap store (sym (storable_all c.measure-w.ensures (sym c.fits.ensures ∙ a.if-fits.true))) | else-fits a ↦ a.block-is ∙ a.begin_page.ensures ∙ empty_page c.requires.table (omega (arith, c.ranges)) ∙ ap store (sym (storable_none c.measure-w.ensures (sym c.fits.ensures ∙ a.if-fits.false))) ] in
    let whole : length c.if-fits.block ≡ block_size = ap length (made) ∙ encode_length _ in
    omega (arith, whole)

pub copy_out-requires : goal.copy_out-requires
copy_out-requires c = let made : let a = c.args in c.if-fits.block ≡ encode_block (page a.table a.level (storable (shown (rows_from a.m.now a.s a.e)))) = let store : List Tuple → List ℕ = λ ts. encode_block (page c.args.table c.args.level ts) in elim c.if-fits.branch [ then-fits a ↦ a.block-is ∙ a.fill_page.ensures ∙ ap store (sym (storable_all c.measure-w.ensures (sym c.fits.ensures ∙ a.if-fits.true))) | else-fits a ↦ a.block-is ∙ a.begin_page.ensures ∙ empty_page c.requires.table (omega (arith, c.ranges)) ∙ ap store (sym (storable_none c.measure-w.ensures (sym c.fits.ensures ∙ a.if-fits.false))) ] in
    let whole : length c.if-fits.block ≡ block_size = ap length (made) ∙ encode_length _ in
    (c.requires.size, whole)

pub returns : goal.returns
returns c = let made : let a = c.args in c.if-fits.block ≡ encode_block (page a.table a.level (storable (shown (rows_from a.m.now a.s a.e)))) = let store : List Tuple → List ℕ = λ ts. encode_block (page c.args.table c.args.level ts) in elim c.if-fits.branch [ then-fits a ↦ a.block-is ∙ a.fill_page.ensures ∙ ap store (sym (storable_all c.measure-w.ensures (sym c.fits.ensures ∙ a.if-fits.true))) | else-fits a ↦ a.block-is ∙ a.begin_page.ensures ∙ empty_page c.requires.table (omega (arith, c.ranges)) ∙ ap store (sym (storable_none c.measure-w.ensures (sym c.fits.ensures ∙ a.if-fits.false))) ] in
    c.copy_out.ensures ∙ made
