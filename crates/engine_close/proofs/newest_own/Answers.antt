-- `engine_close::newest_own` meets its contract. The invariant: the rows that were looked at, the last ones up to row e, are no own rows.
use Rattle.engine_close.proofs.Own.{own_is, not_later_more}
use Rattle.engine_close.proofs.Memory.{tagged_length}
use Rattle.basics.proofs.Kit.{sym, ◌∙◌, arith}
use Rattle.engine_close.proofs.newest_own.Goals as goal

pub owns-requires : goal.owns-requires
owns-requires c = (c.requires.0, omega (arith, c.requires.1.inside, tagged_length _ c.requires.0))

pub returns-then-owns : goal.returns-then-owns
returns-then-owns c =
    record {
      low = omega arith;
      high = omega arith;
      own = own_is c.args.m.now c.requires.0 _ _ ∙ sym c.owns.ensures ∙ c.if-owns.true;
      later = c.loop-r.invariant;
    }

pub loop-r-preserved : goal.loop-r-preserved
loop-r-preserved c = not_later_more _ c.requires.0 _ c.loop-r.invariant (sym c.owns.ensures ∙ c.if-owns.false)

pub returns : goal.returns
returns c = record { low = omega arith; high = c.requires.1.order; own = c.requires.1.own; later = λ j x y. c.loop-r.invariant j (omega arith) y }
