-- `memory_pages::pass_groups` meets its contract. The invariant: a search for a frozen page may start at the first page of group g.
use Rattle.basics.proofs.Kit.{◌≡◌, subst, ℕ, ◌+◌, ◌*◌, ◌/◌, arith}
use Rattle.memory_pages.specs.Pages.{Passed, frozen_word}
use Rattle.memory_bytes.specs.Bytes.{column2}
use Rattle.memory_bytes.proofs.Scans.{any_group2}
use Rattle.basics.proofs.Searches.{first_skip}
use Rattle.memory_pages.proofs.pass_groups.Goals as goal

pub loop-g-init : goal.loop-g-init
loop-g-init c = record { most = omega arith; rest = omega arith }

pub loop-g-preserved : goal.loop-g-preserved
loop-g-preserved c = let a = c.args in
    let p : ℕ = c.loop-g.g * 16 in
    let next : p + 16 ≡ (c.loop-g.g + 1) * 16 = omega arith in
    subst (λ (z : ℕ). Passed (column2 a.m.now a.base) a.n z) next
    (record {
      most = omega arith;
      rest = first_skip frozen_word _ p a.n c.loop-g.invariant.rest 16 (omega arith)
          (any_group2 a.m.now a.base p 16 frozen_word c.any_frozen.ensures c.if-any_frozen.false);
    })

pub returns-then-any_frozen : goal.returns-then-any_frozen
returns-then-any_frozen c = c.loop-g.invariant

pub returns : goal.returns
returns c = let a = c.args in
    let all : c.loop-g.g ≡ a.n / 16 = omega arith in
    subst (λ (z : ℕ). Passed (column2 a.m.now a.base) a.n (z * 16)) all c.loop-g.invariant
