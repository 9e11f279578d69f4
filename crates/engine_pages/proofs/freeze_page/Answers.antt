-- `engine_pages::freeze_page` meets its contract: a page is dirty exactly if its block is 0 (`frozen_now`).
use Rattle.basics.proofs.Kit.{arith}
use Rattle.engine_pages.proofs.Places.{page_in_lem, room, block_small}
use Rattle.engine_pages.proofs.Freezing.{frozen_now}
use Rattle.engine_pages.proofs.freeze_page.Goals as goal

pub block_at-b-requires : goal.block_at-b-requires
block_at-b-requires c = page_in_lem c.requires

pub set_page-requires : goal.set_page-requires
set_page-requires c = let a = c.requires in (room a, record { place = a.inside; block = omega (arith, c.block_at-b.ensures, block_small a) })

pub returns : goal.returns
returns c = frozen_now c.requires c.block_at-b.result c.block_at-b.ensures c.set_page.ensures
