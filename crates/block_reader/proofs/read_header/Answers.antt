-- `block_reader::read_header` meets its contract: the fields that were read spell these very bytes, or there is no block (`header_yes`, `header_no`).
use Rattle.basics.proofs.Kit.{sym, List, ℕ}
use Rattle.block_reader.proofs.Same.{differ, agree}
use Rattle.block_reader.proofs.Answering.{header_yes, header_no}
use Rattle.block_reader.proofs.read_header.Goals as goal

pub returns-then-ne : goal.returns-then-ne
returns-then-ne c = let xs : List ℕ = c.args.block.now in
    sym (header_no xs c.get_header-h.ensures (differ _ xs (rw c.spell_header.ensures at c.ne.ensures) c.if-ne.true))

pub returns : goal.returns
returns c = let xs : List ℕ = c.args.block.now in
    sym (header_yes xs c.get_header-h.ensures (agree _ xs (rw c.spell_header.ensures at c.ne.ensures) c.if-ne.false))
