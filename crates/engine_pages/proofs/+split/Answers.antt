-- `engine_pages::split` meets its contract, by recursion on the number of rows, fewer in each part: by `stays_all` if it is not split, else `split_parts`.
use Rattle.basics.proofs.Kit.{arith}
use Rattle.memory_layout.proofs.Laws.{sizes}
use Rattle.engine_pages.specs.Changes.{TooLarge}
use Rattle.engine_pages.proofs.Places.{room}
use Rattle.engine_pages.proofs.Splitting.{fits_by, too_large, stays_all}
use Rattle.engine_pages.proofs.Parts.{first_most, second_sized, second_less, first_sized, first_less, split_parts}
use Rattle.engine_pages.proofs.+split.Goals as goal

pub returns-then-fits : goal.returns-then-fits
returns-then-fits t c = let o = c.requires in stays_all o.there o.dirty (fits_by o.there o.is c.fits.ensures) c.if-fits.true

pub halve-first-requires : goal.halve-first-requires
halve-first-requires t c = let o = c.requires in too_large o.there o.dirty (fits_by o.there o.is c.fits.ensures) c.if-fits.false

pub overflow_add-p : goal.overflow_add-p
overflow_add-p t c = let o = c.requires in omega (arith, o.there.inside, (sizes (room o.there)).pages)

pub overflow_sub-size : goal.overflow_sub-size
overflow_sub-size t c = let o = c.requires in
    let large : TooLarge c.args.m.now c.args.p = too_large o.there o.dirty (fits_by o.there o.is c.fits.ensures) c.if-fits.false in
    omega (arith, o.is, first_most large c.halve-first.ensures)

pub split-requires : goal.split-requires
split-requires t c = let o = c.requires in
    let large : TooLarge c.args.m.now c.args.p = too_large o.there o.dirty (fits_by o.there o.is c.fits.ensures) c.if-fits.false in
    (omega (arith, c.decreases, second_less large c.halve-first.ensures), second_sized large c.halve-first.ensures o.is (omega arith))

pub split-requires-2 : goal.split-requires-2
split-requires-2 t c = let o = c.requires in
    let large : TooLarge c.args.m.now c.args.p = too_large o.there o.dirty (fits_by o.there o.is c.fits.ensures) c.if-fits.false in
    (omega (arith, c.decreases, first_less large c.halve-first.ensures c.split.ensures), first_sized large c.halve-first.ensures c.split.ensures (omega arith))

pub returns : goal.returns
returns t c = let o = c.requires in
    let large : TooLarge c.args.m.now c.args.p = too_large o.there o.dirty (fits_by o.there o.is c.fits.ensures) c.if-fits.false in
    split_parts large c.halve-first.ensures c.split.ensures c.split-2.ensures
