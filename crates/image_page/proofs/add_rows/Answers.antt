-- `image_page::add_rows` meets its contract. The invariant: the cursor is behind the first i tuples, and their rows are in the columns from place k on.
use Rattle.basics.proofs.Kit.{◌≡◌, sym, ◌∙◌, List, ℕ, ◌+◌, drop, add-zero, arith}
use Rattle.block_forms.specs.Limits.{page_head_size}
use Rattle.block_forms.specs.Bytes.{payload_in}
use Rattle.block_forms.proofs.Spelled.{all_bytes}
use Rattle.block_reader.proofs.Walk.{read_count, walk_read, walk_found, walk_bad, walk_end}
use Rattle.block_reader.proofs.Records.{found_is, found_fits}
use Rattle.image_rows.specs.Columns.{rows_in}
use Rattle.image_page.proofs.Walk.{row_first, row_next, row_last}
use Rattle.image_page.proofs.add_rows.Goals as goal

pub loop-i-init : goal.loop-i-init
loop-i-init c = let a = c.args in
    record {
      room = omega arith;
      rows = λ ts e. (rw c.first-cursor.ensures (walk_read a.page.count c.requires.block_len e), rw add-zero (row_first a.page.table ts _));
    }

pub put_row-requires : goal.put_row-requires
put_row-requires c = let xs : List ℕ = c.args.block.now in
    let p = c.loop-i in
    let f = found_is xs p.cursor.at p.invariant.room (sym c.in-Some.is ∙ c.next.ensures) in
    record {
      columns_hold = record { places = omega arith; numbers = omega arith; owners = omega arith; marks = omega arith };
      owner_fits = found_fits xs p.cursor.at (all_bytes xs (λ j. omega (arith, c.type_inv.block j))) f;
    }

pub returns-in_default : goal.returns-in_default
returns-in_default c = let a = c.args in
    λ ts e. let n = read_count a.page.count (drop page_head_size a.block.now) ts e in
    absurd (walk_bad (c.loop-i.invariant.rows ts e).0 (omega (arith, c.loop-i-test.true)) (sym c.in_default.is ∙ c.next.ensures))

pub loop-i-preserved : goal.loop-i-preserved
loop-i-preserved c = let a = c.args in let p = c.loop-i in let k = p.invariant.rows in
    let f = found_is a.block.now p.cursor.at p.invariant.room (sym c.in-Some.is ∙ c.next.ensures) in
    let next : a.k + (p.i + 1) ≡ a.k + p.i + 1 = omega arith in
    record {
      room = f.ends;
      rows = λ ts e.
          let n = read_count a.page.count (drop page_head_size a.block.now) ts e in
          let t = walk_found (k ts e).0 (omega (arith, c.loop-i-test.true)) (sym c.in-Some.is ∙ c.next.ensures) in (
            t.walk,
            rw next (row_next a.page.table p.i ts (rows_in a.places.now a.numbers.now a.owners.now a.marks.now a.k) _ (k ts e).1 _ c.in-Some.r
                (payload_in a.block.now c.in-Some.r) t.done c.put_row.ensures),
          );
    }

pub returns : goal.returns
returns c = let a = c.args in let p = c.loop-i in
    let e : a.page.count ≡ p.i = omega arith in
    λ ts h. let n = read_count a.page.count (drop page_head_size a.block.now) ts h in
    rw e (row_last a.page.table p.i ts (rows_in a.places.now a.numbers.now a.owners.now a.marks.now a.k) _ (p.invariant.rows ts h).1
    (walk_end (p.invariant.rows ts h).0 (omega (arith, c.loop-i-test))))
