-- `engine_close::next_own` meets its contract. The invariant: no row from row i up to row g is an own row.
use Rattle.engine_close.proofs.Own.{not_own_then, own_on}
use Rattle.engine_close.proofs.Memory.{few_tagged}
use Rattle.basics.proofs.Kit.{arith}
use Rattle.engine_close.proofs.next_own.Goals as goal

pub row_count-n-requires : goal.row_count-n-requires
row_count-n-requires c = c.requires.0

pub loop-g-init : goal.loop-g-init
loop-g-init c = (omega arith, (omega (arith, c.row_count-n.ensures, c.requires.1), λ j x y. absurd (omega arith)))

pub overflow_add-g : goal.overflow_add-g
overflow_add-g c = omega (arith, c.row_count-n.ensures, few_tagged _ c.requires.0, c.loop-g.invariant.1.0)

pub own_in_group-requires : goal.own_in_group-requires
own_in_group-requires c = (c.requires.0, omega (arith, c.loop-g-test.true, c.row_count-n.ensures))

pub returns-in-Some : goal.returns-in-Some
returns-in-Some c = let l = c.loop-g.invariant in let o = c.in-Some.ensures in (
  record {
    low = omega (arith, l.0, o.0.low);
    most = omega (arith, o.1, c.loop-g-test.true, c.row_count-n.ensures);
    passed = not_own_then _ c.requires.0 _ l.1.1 o.0.passed;
    found = λ x. o.0.found o.1;
  },
  omega (arith, o.1, c.loop-g-test.true, c.row_count-n.ensures),
)

pub loop-g-preserved : goal.loop-g-preserved
loop-g-preserved c = let l = c.loop-g.invariant in
    (omega (arith, l.0), (omega (arith, c.loop-g-test.true), not_own_then _ c.requires.0 _ l.1.1 c.in_default.ensures.passed))

pub own_in-requires : goal.own_in-requires
own_in-requires c = (c.requires.0, record { order = c.loop-g.invariant.1.0; inside = omega (arith, c.row_count-n.ensures) })

pub returns : goal.returns
returns c = let n = c.row_count-n.ensures in
    own_on c.requires.0 c.args.transaction c.loop-g.invariant.0 c.loop-g.invariant.1.1 n _ c.own_in.ensures
