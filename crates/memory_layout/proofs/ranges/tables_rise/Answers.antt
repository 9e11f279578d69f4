-- `memory_layout::tables_rise` meets its contract. The invariant: the answer is whether rise is true and no table from t on ends above the next one.
use Rattle.basics.proofs.Kit.{refl, sym, ap, ◌∙◌, Bool, ◌&&◌, arith}
use Rattle.basics.proofs.Ands.{and_yes}
use Rattle.basics.proofs.Froms.{all_end}
use Rattle.memory_layout.specs.Store.{tables_rise}
use Rattle.memory_layout.proofs.Refusal.{end_rises, tables_iteration}
use Rattle.memory_layout.proofs.ranges.tables_rise.Goals as goal

pub loop-t-init : goal.loop-t-init
unfolding tables_rise
loop-t-init c = refl

pub loop-t-preserved : goal.loop-t-preserved
loop-t-preserved c = tables_iteration c.args.m.now c.loop-t.t c.get2-a.result c.get2-b.result c.loop-t.rise (omega arith)
    c.get2-a.ensures c.get2-b.ensures c.loop-t.invariant

pub returns : goal.returns
returns c = let m = c.args.m.now in
    sym (c.loop-t.invariant ∙ ap (λ (z : Bool). c.loop-t.rise && z) (all_end (end_rises m) c.loop-t.t 7 (omega arith)) ∙ and_yes c.loop-t.rise)
