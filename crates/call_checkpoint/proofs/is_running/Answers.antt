-- `call_checkpoint::is_running` meets its contract: the head's bit and level are what the model's checkpoint is read from (`runs_on`, `last_level`).
use Rattle.basics.proofs.Kit.{◌≡◌, sym, ap, ◌∙◌, true, false, ltb, ltb-true, ltb-false, arith}
use Rattle.memory_layout.specs.declared.Head.{Head}
use Rattle.memory_layout.specs.Flat.{flat_of}
use Rattle.basics.proofs.Facts.{by}
use Rattle.call_checkpoint.proofs.Running.{not_on, runs_on, last_level}
use Rattle.call_checkpoint.proofs.is_running.Goals as goal

pub returns-then-h : goal.returns-then-h
returns-then-h c = let f = flat_of c.args.m.now in
    let e = c.get_head-h.ensures in
    let on : f.head.running ≡ true = ap (λ (h : Head). h.running) (sym e) ∙ c.if-h.true in
    by (ltb c.get_head-h.result.level 4294967295)
    (λ t. t ∙ runs_on f on (omega (arith, ltb-true c.get_head-h.result.level 4294967295 t, ap (λ (h : Head). h.level) e)))
    (λ t. t ∙ last_level f on (omega (arith, ltb-false c.get_head-h.result.level 4294967295 t, ap (λ (h : Head). h.level) e)))

pub returns-else-h : goal.returns-else-h
returns-else-h c = let off : c.get_head-h.result.running ≡ false = c.if-h.false in off ∙ not_on (flat_of _) (ap (λ (h : Head). h.running) (sym c.get_head-h.ensures) ∙ off)
