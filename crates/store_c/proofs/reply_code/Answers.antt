-- `store_c::reply_code` meets its contract: the number that a reply has, within 64 bits.
use Rattle.basics.proofs.Kit.{sym, ap, ◌∙◌}
use Rattle.std.specs.Prelude.{Ok}
use Rattle.call_contracts.specs.Shape.{Answer}
use Rattle.call_contracts.specs.declared.Reply.{Reply}
use Rattle.store.specs.Code.{code}
use Rattle.store_c.proofs.Signed.{back}
use Rattle.store_c.proofs.reply_code.Goals as goal

pub returns-in-Done : goal.returns-in-Done
unfolding code
returns-in-Done c = ap (λ (r : Reply). code (Ok r)) (sym c.in-Done.is)

pub returns-in-Count : goal.returns-in-Count
unfolding code
returns-in-Count c = back c.clamped.result _ c.clamped.ensures ∙ ap (λ (r : Reply). code (Ok r)) (sym c.in-Count.is)

pub returns-in-Filled : goal.returns-in-Filled
unfolding code
returns-in-Filled c = back c.clamped-in-Filled.result _ c.clamped-in-Filled.ensures ∙ ap (λ (r : Reply). code (Ok r)) (sym c.in-Filled.is)
