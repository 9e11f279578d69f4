-- What a page block may be: the tests of refusal 24 on one page.
use Rattle.std.specs.Prelude.{ℕ, Bool, not, ◌&&◌, [], ◌∷◌, length, leb, Option as Answer, Some, None}
use Rattle.std.proofs.Math.Option.{Option, none, some}
use Rattle.basics.specs.Basics.{if'◌then◌else◌, all, every, is_empty}
use Rattle.block_forms.specs.Block.{PageBlock}
use Rattle.block_reader.specs.declared.PageHead.{PageHead}
use Rattle.image_rows.specs.Rows.{rows_of, mark_ok}

-- a page block of an image whose header has level l: not empty, and written at a level from 1 to l
unfoldable pub page_ok : ℕ → PageBlock → Bool
page_ok l p = not (is_empty p.tuples) && (leb 1 p.level && leb p.level l)

-- the head of such a page, with at most `room` tuples, and whose delete marks are tentative and have no payload
unfoldable pub good_page : ℕ → ℕ → Option PageBlock → Answer PageHead
good_page l room none = None
good_page l room (some p) =
    if' every (page_ok l p ∷ leb (length p.tuples) room ∷ all mark_ok (rows_of p.table p.tuples) ∷ [])
    then Some (record { table = p.table; count = length p.tuples; level = p.level })
    else None
