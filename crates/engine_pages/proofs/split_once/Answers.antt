-- `engine_pages::split_once` meets its contract: the page fits a block and stays (`stays_once`), or `halve` has split it.
use Rattle.basics.proofs.Kit.{◌≡◌, refl, arith}
use Rattle.model.specs.Rules.{fits}
use Rattle.memory_layout.proofs.Laws.{sizes}
use Rattle.engine_pages.specs.Pages.{tuples_at}
use Rattle.engine_pages.proofs.Places.{start_there, next_there, room, page_span}
use Rattle.engine_pages.proofs.Splitting.{page_sum, fits_by, too_large, stays_once}
use Rattle.engine_pages.proofs.split_once.Goals as goal

pub fit_block-requires : goal.fit_block-requires
fit_block-requires c = page_span c.requires.0 c.start_of-s.ensures.0 c.start_of-e.ensures.0

pub returns-then-fit_block : goal.returns-then-fit_block
returns-then-fit_block c = let tested : fits (tuples_at c.args.m.now c.args.p) ≡ c.fit_block.result = let a = c.requires.0 in fits_by a (page_sum a c.start_of-s.ensures.0 c.start_of-e.ensures.0 refl) c.fit_block.ensures in
    let g = c.requires in stays_once g.0 g.1 (tested) c.if-fit_block.true

pub halve-requires : goal.halve-requires
halve-requires c = let tested : fits (tuples_at c.args.m.now c.args.p) ≡ c.fit_block.result = let a = c.requires.0 in fits_by a (page_sum a c.start_of-s.ensures.0 c.start_of-e.ensures.0 refl) c.fit_block.ensures in
    let g = c.requires in
    too_large g.0 g.1 (tested) c.if-fit_block.false

pub start_of-s-requires : goal.start_of-s-requires
start_of-s-requires c = start_there c.requires.0

pub overflow_add-p : goal.overflow_add-p
overflow_add-p c = let a = c.requires.0 in omega (arith, a.inside, (sizes (room a)).pages)

pub start_of-e-requires : goal.start_of-e-requires
start_of-e-requires c = next_there c.requires.0

pub returns : goal.returns
returns c = c.halve.ensures.pages
