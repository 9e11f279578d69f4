-- `call_checkpoint::write_block` meets its contract: a frozen page comes first, and without one it is the directory's turn (`found_none`).
use Rattle.basics.proofs.Kit.{arith}
use Rattle.memory_layout.proofs.Laws.{pages_read, holds_room, sizes}
use Rattle.engine_pages.specs.Pages.{There}
use Rattle.call_checkpoint.proofs.Stepping.{found_none}
use Rattle.call_checkpoint.proofs.write_block.Goals as goal

pub get_counts-c-requires : goal.get_counts-c-requires
get_counts-c-requires c = (sizes (holds_room _ c.requires.0.ready.runs.has_store)).long

pub store_page-requires : goal.store_page-requires
store_page-requires c = let p = c.requires.0 in
    let n = pages_read _ c.get_counts-c.ensures in
    let there : There _ c.args.p = record { has_store = p.ready.runs.has_store; inside = omega (arith, c.if-p-c.true, n) } in
    (record { ready = p.ready; first_frozen = record { there = there; first = p.next } }, c.requires.1)

pub store_directory-requires : goal.store_directory-requires
store_directory-requires c = let p = c.requires.0 in
    let none = found_none _ p.next (omega (arith, c.if-p-c.false, pages_read _ c.get_counts-c.ensures)) in
    (record { ready = p.ready; none_frozen = none; short = omega (arith, p.some_left, none) }, c.requires.1)
