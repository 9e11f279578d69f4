-- `engine_close::own_in` meets its contract. The invariant: no row from row i up to row r is an own row.
use Rattle.engine_close.proofs.Own.{own_is, not_own_more}
use Rattle.engine_close.proofs.Memory.{tagged_length}
use Rattle.basics.proofs.Kit.{sym, ◌∙◌, arith}
use Rattle.engine_close.proofs.own_in.Goals as goal

pub owns-requires : goal.owns-requires
owns-requires c = (c.requires.0, omega (arith, c.requires.1.inside, tagged_length _ c.requires.0))

pub returns-then-owns : goal.returns-then-owns
returns-then-owns c = (
  record {
    low = c.loop-r.auto.r;
    most = omega arith;
    passed = c.loop-r.invariant;
    found = λ x. own_is c.args.m.now c.requires.0 _ _ ∙ sym c.owns.ensures ∙ c.if-owns.true;
  },
  c.loop-r-test.true,
)

pub loop-r-preserved : goal.loop-r-preserved
loop-r-preserved c = not_own_more _ c.requires.0 _ c.loop-r.invariant (sym c.owns.ensures ∙ c.if-owns.false)

pub returns : goal.returns
returns c = record { low = c.requires.1.order; most = omega arith; passed = λ j x y. c.loop-r.invariant j x (omega arith); found = λ x. absurd (omega arith) }
