-- `call_checkpoint::keep_page` meets its contract: the page is still the first frozen one when it is thawed (`still_first`), and the store is then the model's.
use Rattle.basics.proofs.Kit.{arith}
use Rattle.memory_layout.proofs.Laws.{holds_room}
use Rattle.call_checkpoint.proofs.Leaving.{still_first, page_holds}
use Rattle.call_checkpoint.proofs.keep_page.Goals as goal

pub take_block-requires : goal.take_block-requires
take_block-requires c = (holds_room _ c.requires.0.runs.has_store, c.requires.0.inside)

pub overflow_cast-b : goal.overflow_cast-b
overflow_cast-b c = let p = c.requires in
    record { fits = omega (arith, p.0.inside, (holds_room _ p.0.runs.has_store).range.many) }

pub fill_entry-requires : goal.fill_entry-requires
fill_entry-requires c = let p = c.requires in
    (c.take_block.ensures.room, omega (arith, p.0.inside, (holds_room _ p.0.runs.has_store).range.many))

pub overflow_cast-b-2 : goal.overflow_cast-b-2
overflow_cast-b-2 c = let p = c.requires in
    record { fits = omega (arith, p.0.inside, (holds_room _ p.0.runs.has_store).range.many) }

pub thaw-requires : goal.thaw-requires
thaw-requires c = let p = c.requires in
    (still_first _ p.0.runs c.take_block.ensures c.fill_entry.ensures p.1, omega (arith, p.0.inside, (holds_room _ p.0.runs.has_store).range.many))

pub returns : goal.returns
returns c = page_holds _ c.requires.0.runs c.take_block.ensures c.fill_entry.ensures c.thaw.ensures
