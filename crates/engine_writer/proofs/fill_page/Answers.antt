-- `engine_writer::fill_page` meets its contract. The invariant (`Filling`): the block is a page with what the rows before row i show.
use Rattle.basics.proofs.Kit.{◌≡◌, refl, sym, ap, ◌∙◌, List, [], ◌∷◌, ◌++◌, get_or, ℕ, ◌+◌, ◌≤◌, ◌-◌, not-true, not-false, arith}
use Rattle.block_forms.specs.Limits.{record_space}
use Rattle.block_forms.specs.Tuple.{sizes}
use Rattle.block_forms.proofs.Tuples.{sizes_more}
use Rattle.model.specs.Rules.{shown}
use Rattle.model.specs.State.{Held}
use Rattle.memory_layout.specs.Flat.{flat_of, no_row}
use Rattle.engine_writer.proofs.Showing.{run, shown_none, shown_more, shown_same, shown_within}
use Rattle.memory_rows.proofs.Fitting.{tuple_fits}
use Rattle.engine_writer.proofs.Fitting.{shown_fits}
use Rattle.engine_writer.proofs.Writing.{filling_start, filling_same, filling_more, filling_end, spells_appends, few_fit}
use Rattle.engine_writer.proofs.fill_page.Goals.{then-is_shown, else-is_shown}
use Rattle.engine_writer.proofs.fill_page.Goals as goal

pub overflow_cast-w : goal.overflow_cast-w
overflow_cast-w c = omega (arith, c.requires.fits)

pub begin_page-requires : goal.begin_page-requires
begin_page-requires c = let g = c.requires in
    record { zero = g.zero; table = g.table; count = few_fit g.measured g.fits; bytes = omega (arith, g.fits) }

pub loop-i-init : goal.loop-i-init
loop-i-init c = let a = c.args in
    filling_start c.begin_page.ensures c.requires.measured (shown_none (flat_of a.m.now).rows a.s)

pub is_shown-requires : goal.is_shown-requires
is_shown-requires c = let g = c.requires.rows in
    (g.room, omega (arith, g.inside, c.loop-i-test.true))

pub record_at-r-requires : goal.record_at-r-requires
record_at-r-requires c = let g = c.requires.rows in
    (g.room, omega (arith, g.inside, c.loop-i-test.true))

pub append-at-requires : goal.append-at-requires
append-at-requires c = let rows : List Held = (flat_of c.args.m.now).rows in
    let next : let a = c.args in shown (run (((flat_of c.args.m.now).rows)) a.s (c.loop-i.i + 1)) ≡ shown (run (((flat_of c.args.m.now).rows)) a.s c.loop-i.i) ++ ((get_or (((flat_of c.args.m.now).rows)) c.loop-i.i no_row).tuple ∷ []) = let l = c.loop-i in shown_more (rows) c.args.s l.i l.auto.i (omega (arith, c.requires.rows.inside, c.loop-i-test.true)) (not-true _ (sym c.is_shown.ensures ∙ c.if-is_shown.true)) in
    let room : let a = c.args in sizes (shown (run (((flat_of c.args.m.now).rows)) a.s (c.loop-i.i + 1))) ≤ record_space = let l = c.loop-i in omega (arith, shown_within (rows) c.args.s (l.i + 1) (omega (arith, l.auto.i)) c.args.e (omega (arith, c.loop-i-test.true)), c.requires.measured.bytes, c.requires.fits) in
    let l = c.loop-i in let fit = tuple_fits c.args.m.now c.type_inv.m l.i (omega (arith, c.requires.rows.inside, c.loop-i-test.true)) in
    spells_appends c.record_at-r.ensures fit
    (omega (arith, l.invariant.place, room, ap sizes (next), sizes_more (shown (run (rows) c.args.s l.i)) (get_or (rows) l.i no_row).tuple))

pub loop-i-preserved : goal.loop-i-preserved
loop-i-preserved c = let hs : List Held = (flat_of c.args.m.now).rows in
    let l = c.loop-i in let lt = c.loop-i-test.true in let f = l.invariant in
    let room : sizes (shown (run hs c.args.s (l.i + 1))) ≤ record_space =
    omega (arith, shown_within hs c.args.s (l.i + 1) (omega (arith, l.auto.i)) c.args.e (omega (arith, lt)), c.requires.measured.bytes, c.requires.fits) in
    elim c.if-is_shown.branch [
      | then-is_shown a ↦
          let next = shown_more hs c.args.s l.i l.auto.i (omega (arith, c.requires.rows.inside, lt)) (not-true _ (sym c.is_shown.ensures ∙ a.if-is_shown.true)) in
          filling_same (filling_more f a.record_at-r.ensures a.append-at.ensures next room) a.block-is a.at-is refl
      | else-is_shown a ↦
          filling_same f a.block-is a.at-is
          (shown_same hs c.args.s l.i l.auto.i (omega (arith, c.requires.rows.inside, lt)) (not-false _ (sym c.is_shown.ensures ∙ a.if-is_shown.false)))
    ]

pub returns : goal.returns
returns c = let m : List ℕ = c.args.m.now in
    let e : c.loop-i.i ≡ c.args.e = omega (arith, c.requires.rows.order, c.loop-i-test.false) in
    let z : c.args.s + (c.args.e - c.args.s) ≡ c.args.e = omega (arith, c.requires.rows.order) in
    let fits = rw z at (shown_fits m c.type_inv.m c.args.s (c.args.e - c.args.s) (omega (arith, c.requires.rows.order, c.requires.rows.inside))) in
    filling_end c.loop-i.invariant (ap (λ (j : ℕ). shown (run (flat_of m).rows c.args.s j)) e)
    (record { table = c.requires.table; level = omega (arith, c.ranges); tuples = fits; room = omega (arith, c.requires.measured.bytes, c.requires.fits) })
