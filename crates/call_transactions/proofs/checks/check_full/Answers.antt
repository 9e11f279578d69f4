-- `call_transactions::tests::check_full` meets its contract: one case for each test (`full_15`, `full_16`), and none (`full_none`).
use Rattle.basics.proofs.Kit.{sym, ap, ◌∙◌, List, ℕ, arith}
use Rattle.memory_layout.specs.declared.Head.{Head}
use Rattle.memory_layout.proofs.Laws.{known, holds_room, rows_read}
use Rattle.call_transactions.proofs.Testing.{full_15, full_16, full_none}
use Rattle.call_transactions.proofs.checks.check_full.Goals as goal

pub get_head-h-requires : goal.get_head-h-requires
get_head-h-requires c = omega (arith, known _ (holds_room _ c.requires))

pub get_counts-c-requires : goal.get_counts-c-requires
get_counts-c-requires c = omega (arith, known _ (holds_room _ c.requires))

pub returns-then-h-c : goal.returns-then-h-c
returns-then-h-c c = let m : List ℕ = c.args.m.now in
    let ec = ap (λ (x : Head). x.capacity) c.get_head-h.ensures in
    full_15 m c.requires (omega (arith, ec, rows_read m c.get_counts-c.ensures, c.if-h-c.true))

pub returns-then-h : goal.returns-then-h
returns-then-h c = let m : List ℕ = c.args.m.now in
    let ec = ap (λ (x : Head). x.capacity) c.get_head-h.ensures in
    let en = ap (λ (x : Head). x.next) c.get_head-h.ensures in
    full_16 m c.requires (omega (arith, ec, rows_read m c.get_counts-c.ensures, c.if-h-c.false)) (sym en ∙ c.if-h.true)

pub returns : goal.returns
returns c = let m : List ℕ = c.args.m.now in
    let ec = ap (λ (x : Head). x.capacity) c.get_head-h.ensures in
    let en = ap (λ (x : Head). x.next) c.get_head-h.ensures in
    full_none m c.requires (omega (arith, ec, rows_read m c.get_counts-c.ensures, c.if-h-c.false)) (λ q. c.if-h.false (en ∙ q))
