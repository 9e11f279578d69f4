-- `memory_pages::open_page` meets its contract: `opened` joins what is put into the two columns and the change of the tables' ends.
use Rattle.basics.proofs.Kit.{arith}
use Rattle.memory_pages.proofs.Columns.{opened}
use Rattle.memory_pages.proofs.Ranges.{ranges}
use Rattle.memory_pages.proofs.open_page.Goals as goal

pub insert2-requires : goal.insert2-requires
insert2-requires c = let may = c.requires.1 in
    (omega (arith, may.place), omega (arith, ranges c.requires.0, may.space))

pub insert2-requires-2 : goal.insert2-requires-2
insert2-requires-2 c = let may = c.requires.1 in
    (omega (arith, may.place), omega (arith, ranges c.requires.0, may.space, c.insert2.ensures.apart.size, c.blocks-b.ensures))

pub returns : goal.returns
returns c = opened c.requires.0 c.requires.1 c.page_count-n.ensures c.starts-s.ensures c.blocks-b.ensures
    c.insert2.ensures c.insert2-2.ensures c.add2.ensures (omega arith) (omega arith)
