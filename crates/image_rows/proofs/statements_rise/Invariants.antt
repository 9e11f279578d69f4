use Rattle.image_rows.specs.Chains.{is_next, statements_rise}
use Rattle.basics.specs.Lists.{tab}
use Rattle.basics.specs.Basics.{all}
use Rattle.basics.proofs.Kit.{◌≡◌, ◌-◌}
use Rattle.image_rows.proofs.statements_rise.Given as goal

abbrev pub invariant-loop-i : goal.invariant-loop-i
invariant-loop-i l = statements_rise l.numbers l.owners l.count ≡ all (is_next l.numbers l.owners l.count) (tab (λ j. j) l.i (l.count - l.i))
