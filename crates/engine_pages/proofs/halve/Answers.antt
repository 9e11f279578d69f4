-- `engine_pages::halve` meets its contract: both parts have a row (`between`), and the pages are as the rule says (`halved`).
use Rattle.basics.proofs.Kit.{◌≤◌, ◌<◌, arith}
use Rattle.memory_layout.proofs.Laws.{sizes}
use Rattle.engine_pages.specs.Pages.{entry_of}
use Rattle.engine_pages.proofs.Places.{start_there, next_there, room, page_span, page_end, ends_at, has_row, few, spacious}
use Rattle.engine_pages.proofs.Splitting.{between, halved}
use Rattle.engine_pages.proofs.halve.Goals as goal

pub start_of-s-requires : goal.start_of-s-requires
start_of-s-requires c = start_there c.requires.there

pub overflow_add-p : goal.overflow_add-p
overflow_add-p c = let a = c.requires.there in omega (arith, a.inside, (sizes (room a)).pages)

pub start_of-e-requires : goal.start_of-e-requires
start_of-e-requires c = next_there c.requires.there

pub first_part-first-requires : goal.first_part-first-requires
first_part-first-requires c = let a = c.requires.there in
    (page_span a c.start_of-s.ensures.0 c.start_of-e.ensures.0, omega (arith, c.start_of-s.ensures.0, c.start_of-e.ensures.0, ends_at a, has_row a))

pub overflow_cast-first : goal.overflow_cast-first
overflow_cast-first c = let cuts : (1 ≤ c.first_part-first.result.count) × (c.first_part-first.result.count < (entry_of c.args.m.now c.args.p).count) = between c.requires c.start_of-s.ensures.0 c.start_of-e.ensures.0 c.first_part-first.ensures in
    let a = c.requires.there in
    omega (arith, (cuts).1, page_end a, (sizes (room a)).rows)

pub split_page-requires : goal.split_page-requires
split_page-requires c = let cuts : (1 ≤ c.first_part-first.result.count) × (c.first_part-first.result.count < (entry_of c.args.m.now c.args.p).count) = between c.requires c.start_of-s.ensures.0 c.start_of-e.ensures.0 c.first_part-first.ensures in
    let a = c.requires.there in let k0 = (cuts).0 in let k1 = (cuts).1 in
    (room a, record { place = a.inside; rows = omega arith; space = spacious a (few a (omega arith)) })

pub returns : goal.returns
returns c = halved c.requires c.start_of-s.ensures.0 c.start_of-e.ensures.0 c.first_part-first.ensures c.split_page.ensures
