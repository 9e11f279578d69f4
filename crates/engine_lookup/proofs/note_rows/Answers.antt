-- `engine_lookup::note_rows` meets its contract. The invariant: the answer is what the rows from i on make of what is noted so far.
use Rattle.basics.proofs.Kit.{sym, ap, ◌∙◌, ◌+◌, ◌<◌, ◌-◌, arith}
use Rattle.memory_layout.specs.Flat.{Flat, flat_of}
use Rattle.engine_lookup.proofs.Iterations.{along, iteration_here, iteration_on, iteration_end}
use Rattle.engine_lookup.proofs.note_rows.Goals.{then-key_at-key, else-key_at-key}
use Rattle.engine_lookup.proofs.note_rows.Goals as goal

pub loop-i-preserved : goal.loop-i-preserved
loop-i-preserved c = let a = c.args in
    let f : Flat = flat_of a.m.now in
    let g = c.loop-i in
    let lt : g.i < a.to = omega (arith, c.loop-i-test.true) in
    let on = along f a.transaction a.key (g.i + 1) (a.to - (g.i + 1)) in
    elim c.if-key_at-key.branch [ then-key_at-key w ↦ ap on (w.l-is ∙ w.note_row-l.ensures) ∙ sym (iteration_here f a.transaction a.key g.i a.to g.l lt (sym c.key_at.ensures ∙ w.if-key_at-key.true)) ∙ g.invariant | else-key_at-key w ↦ ap on w.l-is ∙ sym (iteration_on f a.transaction a.key g.i a.to g.l lt (λ q. w.if-key_at-key.false (c.key_at.ensures ∙ q))) ∙ g.invariant ]

pub returns : goal.returns
returns c = let a = c.args in let g = c.loop-i in
    sym (iteration_end (flat_of a.m.now) a.transaction a.key g.i a.to g.l (omega (arith, c.loop-i-test.false))) ∙ g.invariant
