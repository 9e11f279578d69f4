-- `call_recovery::load_page` meets its contract: the page's head and its records are loaded (`loads_one`).
use Rattle.basics.proofs.Kit.{sym, ap, ◌∙◌, arith}
use Rattle.block_forms.specs.Block.{Block, as_page}
use Rattle.block_forms.specs.Decode.{decode_block}
use Rattle.block_reader.specs.Answers.{is_page}
use Rattle.image.specs.Stages.{StoredPage}
use Rattle.call_recovery.specs.Loading.{page_at, tuples_in}
use Rattle.call_recovery.proofs.Paging.{here, seen_here, page_fits, page_room, loads_one, loads_as}
use Rattle.call_recovery.proofs.load_page.Goals as goal

pub known_page-page-requires : goal.known_page-page-requires
known_page-page-requires c = ap is_page (seen_here _ _ c.block_at-block.ensures) ∙ c.requires.0.page

pub append_page-requires : goal.append_page-requires
append_page-requires c = let fits = page_fits c.args.e c.block_at-block.ensures c.known_page-page.ensures c.requires.0 c.requires.1 in
    record { room = c.requires.1.room; order = c.requires.1.order; may = fits.may }

pub load_rows-requires : goal.load_rows-requires
load_rows-requires c = let fits = page_fits c.args.e c.block_at-block.ensures c.known_page-page.ensures c.requires.0 c.requires.1 in
    let h = here c.args.e (decode_block _) c.known_page-page.ensures in
    (record { size = omega arith; page = h.is; count = h.count }, page_room c.append_page.ensures fits)

pub returns : goal.returns
returns c = let a = c.args in
    let h = here a.e (decode_block _) c.known_page-page.ensures in
    let p : StoredPage = record { block = a.e; table = c.known_page-page.result.table; tuples = tuples_in (as_page (decode_block _)) } in
    let l = loads_one p c.append_page.ensures.0 c.load_rows.ensures in
    loads_as (sym h.stored ∙ ap (λ (b : Block). page_at a.e (as_page b)) (seen_here _ _ c.block_at-block.ensures)) l

pub overflow_cast-page : goal.overflow_cast-page
overflow_cast-page c = omega (arith, (page_fits c.args.e c.block_at-block.ensures c.known_page-page.ensures c.requires.0 c.requires.1).may.table)
