-- `memory_bytes::search::groups_equal` meets its contract. The invariant is the contract with k in the place of e; the last group, which ends at e, is one more turn.
use Rattle.basics.proofs.Kit.{◌≡◌, ℕ, ◌-◌, rules, refl, sym, arith}
use Rattle.memory_bytes.proofs.Scans.{any_group4}
use Rattle.memory_bytes.proofs.Spans.{grouped_none, grouped_iteration}
use Rattle.basics.specs.Basics.{any}
use Rattle.basics.specs.Lists.{tab}
use Rattle.memory_bytes.specs.Bytes.{column4}
use Rattle.memory_bytes.specs.Columns.{equals}
use Rattle.memory_bytes.proofs.search.groups_equal.Goals as goal

pub loop-k-init : goal.loop-k-init
loop-k-init c = (omega arith, (omega arith, grouped_none c.args.e))

pub loop-k-preserved : goal.loop-k-preserved
loop-k-preserved c = let a = c.args in
    let f = equals a.key in
    let hit : any f (tab (column4 a.m.now a.base) c.loop-k.k 16) ≡ c.any16-h.result =
    any_group4 a.m.now a.base c.loop-k.k 16 f (c.any16-h.ensures f (λ x b r e. search rules)) refl in
    (omega arith, (omega arith, grouped_iteration c.loop-k.invariant.1.1 (omega arith) (omega arith) (omega arith) refl (sym hit) c.pick-lo.ensures c.pick-hi.ensures refl))

pub returns : goal.returns
returns c = let a = c.args in
    let f = equals a.key in
    let t : ℕ = a.e - 16 in
    let hit : any f (tab (column4 a.m.now a.base) t 16) ≡ c.any16-h-2.result =
    any_group4 a.m.now a.base t 16 f (c.any16-h-2.ensures f (λ x b r e. search rules)) refl in
    grouped_iteration c.loop-k.invariant.1.1 (omega arith) (omega arith) (omega arith) (omega arith) (sym hit) c.pick-lo-2.ensures c.pick-hi-2.ensures (omega arith)
