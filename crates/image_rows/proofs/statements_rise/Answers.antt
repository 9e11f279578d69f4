-- `image_rows::statements_rise` meets its contract. The invariant: the answer is whether `is_next` holds of every row from row i on.
use Rattle.basics.proofs.Iterations.{tab_whole, all_yes, all_not, all_end}
use Rattle.basics.proofs.Searches.{tab_next, tab_none}
use Rattle.image_rows.specs.Chains.{is_next, statements_rise}
use Rattle.basics.specs.Basics.{all}
use Rattle.basics.proofs.Kit.{sym, ap, ◌∙◌, arith}
use Rattle.image_rows.proofs.statements_rise.Goals as goal

pub loop-i-init : goal.loop-i-init
unfolding statements_rise
loop-i-init c = let a = c.args in ap (all (is_next _ _ _)) (sym (tab_whole (λ j. j) a.count))

pub is_next-requires : goal.is_next-requires
is_next-requires c = record { inside = omega arith; numbers = omega arith; table = c.requires.1 }

pub returns-then-not-is_next : goal.returns-then-not-is_next
returns-then-not-is_next c = let p = c.loop-i in let a = c.args in
    let t = tab_next (λ j. j) p.i a.count (omega arith) in
    sym (p.invariant ∙ all_not (is_next _ _ a.count) t (sym c.is_next.ensures ∙ c.if-not-is_next.true))

pub loop-i-preserved : goal.loop-i-preserved
loop-i-preserved c = let p = c.loop-i in let a = c.args in
    p.invariant ∙ all_yes (is_next _ _ a.count) (tab_next (λ j. j) _ a.count (omega arith)) (sym c.is_next.ensures ∙ c.if-not-is_next.false)

pub returns : goal.returns
returns c = let p = c.loop-i in let a = c.args in
    sym (p.invariant ∙ all_end (is_next _ _ a.count) (tab_none (λ j. j) _ a.count (omega arith)))
