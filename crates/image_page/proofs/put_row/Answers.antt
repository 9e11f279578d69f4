-- `image_page::put_row` meets its contract: the four columns have the record's numbers, so the row read from them is the record's (`row_put`).
use Rattle.basics.proofs.Kit.{ap, ◌∙◌, [], ◌∷◌, ◌++◌}
use mir.Val.{bool_byte}
use Rattle.image_page.proofs.Places.{record_row, row_put}
use Rattle.image_rows.specs.Rows.{Row}
use Rattle.image_rows.specs.Columns.{rows_in}
use Rattle.image_page.proofs.put_row.Goals as goal

pub returns : goal.returns
returns c = let a = c.args in
    let e = record_row a.table c.place.result c.owner_code.result a.r c.place.ensures.0 c.place.ensures.1 c.owner_code.ensures in
    row_put a.places.now a.numbers.now a.owners.now a.marks.now a.k c.place.result a.r.number c.owner_code.result
    (bool_byte a.r.mark) c.requires.columns_hold
    ∙ ap (λ (x : Row). rows_in a.places.now a.numbers.now a.owners.now a.marks.now a.k ++ (x ∷ [])) e
