-- `memory_pages::close_page` meets its contract: `closed` joins what the two columns lose and the change of the tables' ends.
use Rattle.basics.proofs.Kit.{arith}
use Rattle.memory_pages.proofs.Columns.{closed}
use Rattle.memory_pages.proofs.Ranges.{ranges}
use Rattle.memory_pages.proofs.close_page.Goals as goal

pub remove2-requires : goal.remove2-requires
remove2-requires c = let may = c.requires.1 in
    (omega (arith, may.place), omega (arith, ranges c.requires.0, may.place))

pub remove2-requires-2 : goal.remove2-requires-2
remove2-requires-2 c = let may = c.requires.1 in
    (omega (arith, may.place), omega (arith, ranges c.requires.0, may.place, c.remove2.ensures.apart.size, c.blocks-b.ensures))

pub add2-requires : goal.add2-requires
add2-requires c = (omega (arith, c.requires.1.table), omega (arith, ranges c.requires.0, c.remove2.ensures.apart.size, c.remove2-2.ensures.apart.size))

pub returns : goal.returns
returns c = closed c.requires.0 c.requires.1 c.page_count-n.ensures c.starts-s.ensures c.blocks-b.ensures
    c.remove2.ensures c.remove2-2.ensures c.add2.ensures (omega arith) (omega arith)
