-- `engine_writer::measure` meets its contract. The invariant (`Measured`): count and size are those of what the rows before row i show.
use Rattle.basics.proofs.Kit.{◌≡◌, sym, ◌∙◌, ◌<◌, length, not-true, not-false, arith}
use Rattle.model.specs.Rules.{held_size}
use Rattle.memory_layout.specs.Flat.{flat_of}
use Rattle.memory_layout.proofs.Laws.{known}
use Rattle.engine_writer.proofs.Showing.{shown_more, shown_same, shown_none}
use Rattle.engine_writer.proofs.Writing.{measured_none, measured_same, measured_more}
use Rattle.engine_writer.proofs.measure.Goals.{then-is_shown, else-is_shown}
use Rattle.engine_writer.proofs.measure.Goals as goal

pub loop-i-init : goal.loop-i-init
loop-i-init c = measured_none (shown_none (flat_of c.args.m.now).rows c.args.s)

pub size_at-size-requires : goal.size_at-size-requires
size_at-size-requires c = (c.requires.room, omega (arith, c.requires.inside, c.loop-i-test.true))

pub is_shown-requires : goal.is_shown-requires
is_shown-requires c = (c.requires.room, omega (arith, c.requires.inside, c.loop-i-test.true))

pub overflow_add-count : goal.overflow_add-count
overflow_add-count c = omega (arith, c.requires.inside, c.loop-i-test.true, known c.args.m.now c.requires.room, c.loop-i.invariant.few)

pub overflow_add-bytes : goal.overflow_add-bytes
overflow_add-bytes c = omega (arith, c.requires.inside, c.loop-i-test.true, known c.args.m.now c.requires.room, c.loop-i.invariant.light, c.size_at-size.ensures.1)

pub loop-i-preserved : goal.loop-i-preserved
unfolding held_size
loop-i-preserved c = let l = c.loop-i in let hs = (flat_of c.args.m.now).rows in
    let h : l.i < length hs = omega (arith, c.requires.inside, c.loop-i-test.true) in let q = c.is_shown.ensures in let d = l.invariant in
    elim c.if-is_shown.branch [
      | then-is_shown a ↦
          measured_more d _ (shown_more hs c.args.s l.i l.auto.i h (not-true _ (sym q ∙ a.if-is_shown.true))) a.count-is c.size_at-size.ensures.0 c.size_at-size.ensures.1 (omega (arith, a.bytes-is)) (omega arith)
      | else-is_shown a ↦ measured_same d (shown_same hs c.args.s l.i l.auto.i h (not-false _ (sym q ∙ a.if-is_shown.false))) a.count-is a.bytes-is (omega arith)
    ]

pub returns : goal.returns
returns c = let e : c.loop-i.i ≡ c.args.e = omega (arith, c.requires.order) in
    let d = rw e at c.loop-i.invariant in
    record { count = d.length_is; bytes = d.size_is }
