-- `memory_pages::set_page` meets its contract: the page's word is written, and no other byte (`block_set`).
use Rattle.basics.proofs.Kit.{arith}
use Rattle.memory_layout.proofs.Laws.{entries_length}
use Rattle.memory_pages.proofs.Changes.{block_set}
use Rattle.memory_pages.proofs.Ranges.{ranges}
use Rattle.memory_pages.proofs.set_page.Goals as goal

pub overflow_mul-a : goal.overflow_mul-a
overflow_mul-a c = omega (arith, ranges c.requires.0, entries_length c.args.m.now)

pub overflow_add-a : goal.overflow_add-a
overflow_add-a c = omega (arith, ranges c.requires.0, entries_length c.args.m.now)

pub put2-requires : goal.put2-requires
put2-requires c = omega (arith, ranges c.requires.0, entries_length c.args.m.now, c.blocks-2.ensures)

pub returns : goal.returns
returns c = let m = c.args.m.now in
    block_set c.args.frozen c.requires.0 (omega (arith, entries_length m)) c.requires.1.block c.word.ensures c.blocks-2.ensures c.put2.ensures
