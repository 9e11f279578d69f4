-- `memory_bytes::names16` meets its contract. The invariant: the answer is whether one of the numbers from i on is s modulo 1,024, and i counts whole groups.
use Rattle.memory_bytes.proofs.Scans.{any_group2, group2}
use Rattle.basics.proofs.Searches.{any_start, any_hit, any_pass}
use Rattle.basics.specs.Basics.{any}
use Rattle.basics.specs.Lists.{tab}
use Rattle.memory_bytes.specs.Columns.{names}
use Rattle.memory_bytes.specs.Bytes.{column2}
use Rattle.basics.proofs.Kit.{◌≡◌, ℕ, ◌*◌, ◌/◌, ◌-◌, sym, ap, ◌∙◌, arith}
use Rattle.memory_bytes.proofs.names16.Goals as goal
use Rattle.memory_bytes.proofs.names16.Goals.{else-loop-i-test, then-loop-i-test+else-any_names+else-whole-i-gt64}

pub loop-i-init : goal.loop-i-init
loop-i-init c = let a = c.args in (omega arith, omega arith, any_start (names a.s) (column2 a.m.now a.base) a.n)

pub returns-then-any_names : goal.returns-then-any_names
returns-then-any_names c = let a = c.args in let i = c.loop-i.i in
    any_hit (names a.s) (column2 a.m.now a.base) i a.n 64 c.loop-i.invariant.2 (omega arith)
    (any_group2 a.m.now a.base i 64 (names a.s) c.any_names.ensures c.if-any_names.true)

pub loop-i-preserved : goal.loop-i-preserved
loop-i-preserved c = let a = c.args in
    let i = c.loop-i.i in (
      omega arith,
      omega arith,
      any_pass (names a.s) (column2 a.m.now a.base) i a.n 64 c.loop-i.invariant.2 (omega arith)
          (any_group2 a.m.now a.base i 64 (names a.s) c.any_names.ensures c.if-any_names.false),
    )

pub returns : goal.returns
returns c = let a = c.args in
    let f = names a.s in
    let g : ℕ → ℕ = column2 a.m.now a.base in
    let w : ℕ = a.n / 64 * 64 in
    let from = λ (j : ℕ). any f (tab g j (a.n - j)) in
    let left : from w ≡ any f (tab g 0 a.n) = elim c.loop-i-test.branch [
      | else-loop-i-test v ↦ ap from (omega arith) ∙ sym c.loop-i.invariant.2
      | then-loop-i-test+else-any_names+else-whole-i-gt64 v ↦
          ap from (omega arith)
          ∙ sym (any_pass f g c.loop-i.i a.n 64 c.loop-i.invariant.2 (omega arith) (any_group2 a.m.now a.base c.loop-i.i 64 f v.any_names.ensures v.if-any_names.false))
    ] in
    c.any_names-2.ensures ∙ ap (any f) (group2 a.m.now a.base w (a.n - w)) ∙ left
