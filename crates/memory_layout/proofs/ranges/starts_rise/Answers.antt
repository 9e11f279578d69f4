-- `memory_layout::starts_rise` meets its contract, by its returns: no page, an empty last page, a first page that does not start at row 0, else `rising2`.
use Rattle.basics.proofs.Kit.{sym, arith}
use Rattle.memory_layout.proofs.Refusal.{no_pages, last_empty, first_moved, all_rise}
use Rattle.memory_layout.proofs.ranges.starts_rise.Goals as goal

pub returns-then-pages-eq0 : goal.returns-then-pages-eq0
returns-then-pages-eq0 c = sym (no_pages c.requires c.if-pages-eq0.true)

pub returns-then-rows-get2 : goal.returns-then-rows-get2
returns-then-rows-get2 c = last_empty c.requires (omega arith) c.get2.ensures (omega (arith, c.if-rows-get2.true))

pub returns-then-get2-ne0 : goal.returns-then-get2-ne0
returns-then-get2-ne0 c = first_moved c.requires (omega arith) c.get2-2.ensures c.if-get2-ne0.true

pub returns : goal.returns
returns c = all_rise c.requires (omega arith) c.get2.ensures (omega arith) c.get2-2.ensures (omega arith) c.rising2.ensures
