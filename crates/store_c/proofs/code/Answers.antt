-- `store_c::code` meets its contract: a reply's number stands as it is, a refusal's with its sign changed, within 64 bits.
use Rattle.basics.proofs.Kit.{◌≡◌, sym, ap, ◌∙◌, ℤ, pos, neg_ℤ}
use mir.Syntax.{w64}
use mir.Val.{to_z, of_z}
use Rattle.std.specs.Prelude.{Ok}
use Rattle.call_contracts.specs.declared.Reply.{Reply}
use Rattle.call_contracts.specs.declared.Reply.TheVariants.{Done, Count, Filled}
use Rattle.store.specs.Code.{clamped, code}
use Rattle.store_c.proofs.Signed.{back, minus_back}
use Rattle.store_c.proofs.code.Goals as goal

-- a reply's number is read back
reply_back : (x : ℤ) (r : Reply) → x ≡ code (Ok r) → to_z w64 (of_z w64 x) ≡ code (Ok r)
unfolding code clamped
reply_back x Done e = back x 0 e
reply_back x (Count n) e = back x n e
reply_back x (Filled n) e = back x n e

pub returns-in-Ok : goal.returns-in-Ok
returns-in-Ok c = reply_back c.reply_code.result _ c.reply_code.ensures ∙ ap code (sym c.in-Ok.is)

pub returns-in-Err : goal.returns-in-Err
unfolding code
returns-in-Err c =
    minus_back c.clamped.result _ c.clamped.ensures ∙ ap (λ n. neg_ℤ (pos (clamped n))) c.from.ensures ∙ ap code (sym c.in-Err.is)
