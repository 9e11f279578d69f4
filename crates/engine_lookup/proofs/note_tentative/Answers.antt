-- `engine_lookup::note_tentative` meets its contract: an own version and one of another transaction.
use Rattle.basics.proofs.Kit.{sym, ap}
use Rattle.engine_lookup.specs.Lookup.{note_tentative}
use Rattle.engine_lookup.proofs.note_tentative.Goals as goal

pub returns-then-own : goal.returns-then-own
unfolding note_tentative
returns-then-own c = let a = c.args in sym (ap (λ b. note_tentative a.i b a.visibility) c.if-own.true)

pub returns-else-own : goal.returns-else-own
unfolding note_tentative
returns-else-own c = let a = c.args in sym (ap (λ b. note_tentative a.i b a.visibility) c.if-own.false)
