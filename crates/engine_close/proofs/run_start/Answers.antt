-- `engine_close::run_start` meets its contract. The invariant: the rows from row r up to row i have the table and key of row i.
use Rattle.engine_close.proofs.RunBounds.{first_low, back_more, back_ends, back_stops}
use Rattle.engine_close.proofs.Memory.{tagged_length}
use Rattle.basics.proofs.Kit.{◌≡◌, sym, ◌∙◌, ◌+◌, ◌-◌, arith}
use Rattle.engine_close.proofs.run_start.Goals as goal

pub first_row-requires : goal.first_row-requires
first_row-requires c = let p = c.requires.0 in (p.room, omega (arith, p.below))

pub key_at-key-requires : goal.key_at-key-requires
key_at-key-requires c = let p = c.requires.0 in (p.room, omega (arith, p.inside, tagged_length _ p.room))

pub key_at-requires : goal.key_at-requires
key_at-requires c = let p = c.requires.0 in
    (p.room, omega (arith, p.inside, tagged_length _ p.room))

pub returns-then-key_at-key : goal.returns-then-key_at-key
returns-then-key_at-key c = let r = c.loop-r.r in let e : r - 1 + 1 ≡ r = omega arith in
    rw e (back_ends c.requires.0 c.first_row.ensures c.loop-r.invariant _ (omega (arith, c.max-low.ensures)) (omega arith)
    (λ q. c.if-key_at-key.true (c.key_at.ensures ∙ q ∙ sym c.key_at-key.ensures)))

pub loop-r-preserved : goal.loop-r-preserved
loop-r-preserved c =
    back_more c.requires.0 c.first_row.ensures c.loop-r.invariant (omega (arith, c.max-low.ensures)) (omega arith)
    (sym c.key_at.ensures ∙ c.if-key_at-key.false ∙ c.key_at-key.ensures)

pub returns : goal.returns
returns c =
    back_stops c.requires.0 c.first_row.ensures (λ j x y. c.loop-r.invariant j (omega arith) y) _ (omega (arith, c.max-low.ensures))
    (omega (arith, c.max-low.ensures, first_low c.requires.0 c.first_row.ensures)) (λ x. omega (arith, c.max-low.ensures))
