-- `image::put_entries` meets its contract. The invariant: out is as at entry but for the first i entries, which are put from the place on.
use Rattle.basics.proofs.Kit.{sym, ap, ◌∙◌, List, ℕ, ◌+◌, set, take_all, arith}
use Rattle.basics.proofs.Overs.{over_nil, put_iteration}
use Rattle.basics.specs.Lists.{over}
use Rattle.image.proofs.put_entries.Goals as goal

pub loop-i-init : goal.loop-i-init
loop-i-init c = sym (over_nil _ _)

pub loop-i-preserved : goal.loop-i-preserved
loop-i-preserved c = let a = c.args in let p = c.loop-i in
    ap (λ (o : List ℕ). set o (a.at + p.i) c.from.result) p.invariant ∙ put_iteration _ _ _ p.i _ (omega arith) (omega arith) c.from.ensures

pub returns : goal.returns
returns c = let a = c.args in let p = c.loop-i in
    p.invariant ∙ ap (over a.out.now a.at) (take_all _ _ (omega arith))
