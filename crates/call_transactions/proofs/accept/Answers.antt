-- `call_transactions::accept` meets its contract: the counters go up, then the tuple is placed (`accepted`).
use Rattle.memory_layout.proofs.Laws.{holds_room}
use Rattle.call_transactions.proofs.Writing.{writer_at, place_at, accepted}
use Rattle.call_transactions.proofs.accept.Goals as goal

pub find_open-i-requires : goal.find_open-i-requires
find_open-i-requires c = holds_room _ c.requires.has_store

pub next_row-row-requires : goal.next_row-row-requires
next_row-row-requires c = writer_at c.requires c.find_open-i.ensures

pub count_write-requires : goal.count_write-requires
count_write-requires c = writer_at c.requires c.find_open-i.ensures

pub place-requires : goal.place-requires
place-requires c = place_at c.requires c.find_open-i.ensures c.next_row-row.ensures c.count_write.ensures

pub returns : goal.returns
returns c = accepted c.requires c.find_open-i.ensures c.next_row-row.ensures c.count_write.ensures c.place.ensures
