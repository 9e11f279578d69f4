-- `block_reader::read_page` meets its contract. The invariant: the page is built again from the records read so far (`Again`); at the end the two blocks are compared.
use Rattle.basics.proofs.Kit.{refl, sym, ◌∙◌, List, ℕ, ◌≤◌, arith}
use Rattle.block_bits.proofs.Blocks.{field_lt}
use Rattle.block_forms.specs.Tuple.{AllBytes}
use Rattle.block_reader.proofs.Same.{differ, agree}
use Rattle.block_reader.proofs.Answering.{page_none, page_yes, page_no}
use Rattle.block_reader.proofs.Again.{again_start, again_iteration, again_spells, again_other}
use Rattle.block_reader.proofs.Walk.{passed_bad, passed_end}
use Rattle.block_reader.proofs.Records.{found_is, found_appends}
use Rattle.block_forms.proofs.Spelled.{all_bytes}
use Rattle.block_reader.proofs.read_page.Goals.{then-at-bytes-via-then-at-bytes, then-at-bytes-via-else-at-bytes+then-ne}
use Rattle.block_reader.proofs.read_page.Goals as goal

pub begin_page-requires : goal.begin_page-requires
begin_page-requires c = let xs : List ℕ = c.args.block.now in
    record {
      zero = refl;
      table = omega (arith, field_lt xs 4 3);
      count = omega (arith, field_lt xs 7 6);
      bytes = omega (arith, field_lt xs 13 9);
    }

pub loop-init : goal.loop-init
loop-init c = again_start c.args.block.now c.get32-table.result c.get32-level.result c.get32-count.result c.get32-bytes.result (omega arith) c.begin_page.ensures

pub returns-in_err-r : goal.returns-in_err-r
returns-in_err-r c = c.from_residual.ensures ∙
    sym (page_none c.args.block.now c.get32-table.ensures c.get32-count.ensures c.get32-level.ensures (passed_bad c.loop.invariant.passed (omega arith) (sym c.in_err-r.was ∙ c.next.ensures)))

pub append-at-requires : goal.append-at-requires
append-at-requires c = let xs : List ℕ = c.args.block.now in
    let found = found_is xs c.loop.at c.loop.invariant.passed.room (sym c.in_ok-r.was ∙ c.next.ensures) in
    found_appends xs c.loop.at (omega arith) (all_bytes xs (λ j. omega (arith, c.fits-block j))) found

pub loop-preserved : goal.loop-preserved
loop-preserved c = let xs : List ℕ = c.args.block.now in
    let found = found_is xs c.loop.at c.loop.invariant.passed.room (sym c.in_ok-r.was ∙ c.next.ensures) in
    again_iteration (omega arith) c.loop.invariant (omega arith) found c.append-at.ensures

pub returns-then-at-bytes : goal.returns-then-at-bytes
returns-then-at-bytes c = let xs : List ℕ = c.args.block.now in
    let a = c.loop.invariant in
    let n : c.get32-count.result ≤ c.loop.counter = omega arith in
    let t = c.get32-table.ensures in
    let l = c.get32-level.ensures in
    let bytes : AllBytes xs = all_bytes xs (λ j. omega (arith, c.fits-block j)) in
    sym (page_no xs t c.get32-count.ensures l (passed_end a.passed n) (elim c.then-at-bytes.branch [
      | then-at-bytes-via-then-at-bytes w ↦ again_other (omega arith) a n bytes t l c.get32-bytes.ensures w.if-at-bytes.true
      | then-at-bytes-via-else-at-bytes+then-ne w ↦ differ _ xs (rw (again_spells (omega arith) a n bytes t l (omega (arith, w.if-at-bytes.false))) at w.ne.ensures) w.if-ne.true
    ]))

pub returns : goal.returns
returns c = let xs : List ℕ = c.args.block.now in
    let a = c.loop.invariant in
    let n : c.get32-count.result ≤ c.loop.counter = omega arith in
    let t = c.get32-table.ensures in
    let l = c.get32-level.ensures in
    let spells = again_spells (omega arith) a n (all_bytes xs (λ j. omega (arith, c.fits-block j))) t l (omega (arith, c.if-at-bytes.false)) in
    sym (page_yes xs t c.get32-count.ensures l (passed_end a.passed n) (omega (arith, a.passed.count, a.passed.most)) (agree _ xs (rw spells at c.ne.ensures) c.if-ne.false))
