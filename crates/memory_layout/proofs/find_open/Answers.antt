-- `memory_layout::find_open` meets its contract. The invariant: the answer is i plus the place of the transaction among the entries from i on.
use Rattle.basics.proofs.Kit.{◌≡◌, sym, ap, ◌∙◌, List, ℕ, ◌-◌, zero-add, arith}
use Rattle.basics.specs.Lists.{tab}
use Rattle.memory_layout.specs.Views.{open_at, open_count}
use Rattle.memory_layout.specs.Flat.{opens_of}
use Rattle.memory_layout.specs.Opens.{find_open}
use Rattle.memory_layout.proofs.Laws.{known}
use Rattle.memory_layout.proofs.HeadLists.{find_here, find_iteration, find_end}
use Rattle.memory_layout.proofs.find_open.Goals as goal

pub get4-n-requires : goal.get4-n-requires
get4-n-requires c = omega (arith, known _ c.requires)

pub loop-i-init : goal.loop-i-init
unfolding opens_of
loop-i-init c = let m : List ℕ = c.args.m.now in
    let tx : ℕ = c.args.transaction in
    let e : open_count m ≡ c.get4-n.result - 0 = omega (arith, c.get4-n.ensures) in
    (c.get4-n.ensures, ap (λ (z : ℕ). find_open tx (tab (open_at m) 0 z)) e ∙ sym (zero-add _))

pub overflow_mul-i : goal.overflow_mul-i
overflow_mul-i c = omega (arith, known _ c.requires)

pub overflow_add-i : goal.overflow_add-i
overflow_add-i c = omega (arith, known _ c.requires)

pub get4-requires : goal.get4-requires
get4-requires c = omega (arith, known _ c.requires)

pub returns-then-t-transaction : goal.returns-then-t-transaction
returns-then-t-transaction c = omega (arith, c.loop-i.invariant.1, find_here c.args.m.now c.args.transaction c.loop-i.i c.get4-n.result (omega arith) c.get4.ensures (omega arith))

pub loop-i-preserved : goal.loop-i-preserved
loop-i-preserved c = (
  c.loop-i.invariant.0,
  omega (arith, c.loop-i.invariant.1, find_iteration c.args.m.now c.args.transaction c.loop-i.i c.get4-n.result (omega arith) c.get4.ensures c.if-t-transaction.false),
)

pub returns : goal.returns
returns c = omega (arith, c.loop-i.invariant.1, find_end c.args.m.now c.args.transaction c.loop-i.i c.get4-n.result (omega arith))
