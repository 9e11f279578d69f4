-- `log_records::short_front` meets its contract: two bytes, whatever they are.
use Rattle.basics.proofs.Kit.{◌≡◌, sym, ap, ◌∙◌, ⊎_elim, arith}
use Rattle.block_forms.specs.Tuple.{AllBytes}
use Rattle.block_forms.proofs.Spelled.{all_bytes}
use Rattle.log_records.specs.Kinds.{number_of}
use Rattle.log_records.proofs.Fronts.{short_none, open_some, commit_some, abort_some}
use Rattle.log_records.proofs.short_front.Goals as goal

pub returns-then-xs-lt2 : goal.returns-then-xs-lt2
returns-then-xs-lt2 c = let bytes : AllBytes c.args.xs.now = all_bytes c.args.xs.now (λ j. omega (arith, c.type_inv.xs j)) in
    sym (short_none c.args.xs.now (bytes) (omega arith))

pub returns-in-Open : goal.returns-in-Open
returns-in-Open c = let bytes : AllBytes c.args.xs.now = all_bytes c.args.xs.now (λ j. omega (arith, c.type_inv.xs j)) in
    sym (open_some c.args.xs.now (bytes) (c.requires.first ∙ ap number_of c.in-Open.is) (omega (arith, c.if-xs-lt2.false)) c.transaction_of-transaction.ensures)

pub returns-in-Commit : goal.returns-in-Commit
returns-in-Commit c = let bytes : AllBytes c.args.xs.now = all_bytes c.args.xs.now (λ j. omega (arith, c.type_inv.xs j)) in
    sym (commit_some c.args.xs.now (bytes) (c.requires.first ∙ ap number_of c.in-Commit.is) (omega (arith, c.if-xs-lt2.false)) c.transaction_of-transaction.ensures)

pub returns-in_default : goal.returns-in_default
returns-in_default c = let bytes : AllBytes c.args.xs.now = all_bytes c.args.xs.now (λ j. omega (arith, c.type_inv.xs j)) in
    let six : number_of c.args.kind ≡ 6 = ⊎_elim (λ h. absurd (c.in_default.not-Open h)) (⊎_elim (λ h. absurd (c.in_default.not-Commit h)) (ap number_of)) c.requires.short in
    sym (abort_some c.args.xs.now (bytes) (c.requires.first ∙ six) (omega (arith, c.if-xs-lt2.false)) c.transaction_of-transaction.ensures)
