-- `block_reader::read_directory` meets its contract: the entries that were read spell these very bytes, or there is no block (`directory_yes`, `directory_no`).
use Rattle.basics.proofs.Kit.{◌≡◌, sym, List, ℕ, length, take, length-take, arith}
use Rattle.block_forms.specs.Limits.{entries_per_block}
use Rattle.block_reader.proofs.Same.{differ, agree}
use Rattle.block_reader.proofs.Answering.{directory_many, directory_yes, directory_no}
use Rattle.block_reader.proofs.read_directory.Goals as goal

pub returns-then-count-gt-ENTRIES_PER_BLOCK : goal.returns-then-count-gt-ENTRIES_PER_BLOCK
returns-then-count-gt-ENTRIES_PER_BLOCK c = let xs : List ℕ = c.args.block.now in
    sym (directory_many xs c.get_bits-count.ensures.0 (omega arith))

pub returns-then-ne : goal.returns-then-ne
returns-then-ne c = let xs : List ℕ = c.args.block.now in
    let r = c.read_entries-entries in
    sym (directory_no xs c.get_bits-count.ensures.0 c.get32-level.ensures r.result (omega arith) r.ensures (differ _ xs (rw c.spell_directory.ensures at c.ne.ensures) c.if-ne.true))

pub returns : goal.returns
returns c = let xs : List ℕ = c.args.block.now in
    let n = c.get_bits-count in
    let r = c.read_entries-entries in
    let es : List ℕ = r.result in
    let k : length es ≡ entries_per_block = omega arith in
    let t : length (take n.result es) ≡ n.result = simp length-take (omega arith) in
    sym (directory_yes xs n.ensures.0 c.get32-level.ensures es (omega arith) r.ensures t (agree _ xs (rw c.spell_directory.ensures at c.ne.ensures) c.if-ne.false))
