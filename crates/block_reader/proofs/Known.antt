-- A block that is known to be a page: its fields are those of its head.
use Rattle.basics.proofs.Kit.{◌≡◌, sym, ap, ◌∙◌, true, List, ℕ}
use Rattle.std.specs.Prelude.{Some}
use Rattle.basics.specs.Basics.{is_some}
use Rattle.basics.proofs.Facts.{by-option, lie}
use Rattle.block_forms.specs.Block.{as_page}
use Rattle.block_forms.specs.Decode.{page_table, page_count, page_level, decode_block}
use Rattle.block_forms.proofs.Laws.{page_is, page_read, page_table_lem, page_count_lem, page_level_lem}
use Rattle.block_reader.specs.Answers.{is_page, reading}
use Rattle.block_reader.specs.declared.Block.TheVariants.{Page}

pub known : (xs : List ℕ) → is_page (decode_block xs) ≡ true → reading (decode_block xs) ≡ Some (Page (record { table = page_table xs; count = page_count xs; level = page_level xs }))
unfolding is_some reading
known xs h =
    by-option (as_page (decode_block xs))
    (λ e. lie (sym (ap is_some e) ∙ h))
    (λ p e.
    let r = page_read xs e in
    let t = rw r.spelling at (page_table_lem p.table p.level p.tuples r.range) in
    let n = rw r.spelling at (page_count_lem p.table p.level p.tuples r.range) in
    let l = rw r.spelling at (page_level_lem p.table p.level p.tuples r.range) in
    ap reading (page_is (decode_block xs) e) ∙ sym (λ i. Some (Page (record { table = t i; count = n i; level = l i }))))
