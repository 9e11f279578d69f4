-- `call_recovery::load_rows` meets its contract. The invariant: the first i tuples of the page are loaded, and the cursor stands at the next record (`Walk`).
use Rattle.basics.proofs.Kit.{refl, sym, subst, List, ℕ, ◌<◌, length, arith}
use Rattle.block_forms.specs.Tuple.{Tuple}
use Rattle.block_forms.specs.Block.{as_page}
use Rattle.block_forms.specs.Decode.{decode_block}
use Rattle.block_forms.proofs.Spelled.{all_bytes}
use Rattle.block_reader.proofs.Records.{found_fits}
use Rattle.block_reader.proofs.Walk.{Walk, walk_found, walk_bad}
use Rattle.model.specs.State.{Held}
use Rattle.call_recovery.specs.Loading.{tuples_in, Fills}
use Rattle.call_recovery.proofs.Adding.{page_walk, fills_none, fills_iteration, row_room, without_pending_all}
use Rattle.call_recovery.proofs.load_rows.Goals as goal

pub loop-i-init : goal.loop-i-init
loop-i-init c = let bs = c.args.block.now in
    let r = c.requires.1 in
    let ts : List Tuple = tuples_in (as_page (decode_block bs)) in
    (subst (λ (k : ℕ). Walk bs ts k 0) (sym c.first-cursor.ensures) (page_walk bs (as_page (decode_block bs)) refl c.requires.0.page), fills_none _ r.room r.order r.page)

pub unreachable-requires : goal.unreachable-requires
unreachable-requires c = walk_bad c.loop-i.invariant.0 (omega (arith, c.requires.0.count, c.loop-i-test.true)) c.in_default.ensures

pub load_row-requires : goal.load_row-requires
load_row-requires c = let xs = c.args.block.now in
    let l = c.loop-i in
    let pre = c.requires in
    let h = c.loop-i-test.true in
    let f = walk_found l.invariant.0 (omega (arith, pre.0.count, h)) c.in-Some.ensures in
    let fits = found_fits xs _ (all_bytes xs (λ j. omega (arith, c.type_inv.block j))) f.found in
    (record { limit = f.found.limit; inside = f.found.inside; owner = fits }, row_room _ _ pre.0.count l.invariant.1 pre.1.rows h)

pub loop-i-preserved : goal.loop-i-preserved
loop-i-preserved c = let l = c.loop-i in
    let ts : List Tuple = tuples_in (as_page (decode_block c.args.block.now)) in
    let h : l.i < length ts = omega (arith, c.requires.0.count, c.loop-i-test.true) in
    let f = walk_found l.invariant.0 h c.in-Some.ensures in
    (f.walk, fills_iteration l.i ts _ f.done l.invariant.1 c.requires.1.page c.load_row.ensures)

pub returns : goal.returns
returns c = let l = c.loop-i in
    let ts : List Tuple = tuples_in (as_page (decode_block _)) in
    subst (λ (hs : List Held). Fills hs c.args.m.now l.m) (without_pending_all l.i ts (omega (arith, c.requires.0.count, c.loop-i-test.false))) l.invariant.1
