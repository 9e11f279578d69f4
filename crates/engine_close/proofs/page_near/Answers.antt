-- `engine_close::page_near` meets its contract: page `near` is answered only if it has row i, otherwise what `page_of` answers.
use Rattle.basics.proofs.Kit.{subst, ◌≤◌, ◌<◌, arith}
use Rattle.engine_close.proofs.page_near.Goals as goal

pub returns-then-i-start_of : goal.returns-then-i-start_of
returns-then-i-start_of c = let i = c.args.i in
    record {
      low = omega arith;
      high = omega arith;
      first = subst (λ z. z ≤ i) c.start_of.ensures.0 c.if-start_of-i.true;
      last = subst (λ z. i < z) c.start_of-then-start_of-i.ensures.0 c.if-i-start_of.true;
    }
