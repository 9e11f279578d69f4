-- `engine_close::run_end` meets its contract. The invariant: the rows behind row i, up to row r, have its table and key.
use Rattle.engine_close.proofs.RunBounds.{end_high, onward_more, onward_ends, onward_stops}
use Rattle.engine_close.proofs.Memory.{tagged_length}
use Rattle.basics.proofs.Kit.{sym, ◌∙◌, arith}
use Rattle.engine_close.proofs.run_end.Goals as goal

pub overflow_add-t : goal.overflow_add-t
overflow_add-t c = omega (arith, c.requires.below)

pub first_row-end-requires : goal.first_row-end-requires
first_row-end-requires c = let p = c.requires in (p.room, omega (arith, p.below))

pub key_at-key-requires : goal.key_at-key-requires
key_at-key-requires c = let p = c.requires in (p.room, omega (arith, p.inside, tagged_length _ p.room))

pub key_at-requires : goal.key_at-requires
key_at-requires c = let p = c.requires in
    (p.room, omega (arith, c.first_row-end.ensures.most, c.loop-r-test.true, tagged_length _ p.room))

pub returns-then-key_at-key : goal.returns-then-key_at-key
returns-then-key_at-key c =
    onward_ends c.requires c.first_row-end.ensures c.loop-r.invariant (omega arith) c.loop-r-test.true
    (λ q. c.if-key_at-key.true (c.key_at.ensures ∙ q ∙ sym c.key_at-key.ensures))

pub loop-r-preserved : goal.loop-r-preserved
loop-r-preserved c =
    onward_more c.requires c.first_row-end.ensures c.loop-r.invariant (omega arith) c.loop-r-test.true
    (sym c.key_at.ensures ∙ c.if-key_at-key.false ∙ c.key_at-key.ensures)

pub returns : goal.returns
returns c = let high = end_high c.requires c.first_row-end.ensures in
    onward_stops c.requires c.first_row-end.ensures (λ j x y. c.loop-r.invariant j x (omega arith)) high (omega arith)
