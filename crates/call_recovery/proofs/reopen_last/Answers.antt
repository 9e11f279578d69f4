-- `call_recovery::reopen_last` meets its contract: a transaction is opened at its last row, and at no other (`opened_last`, `opened_other`).
use Rattle.block_forms.specs.Limits.{transaction_limit}
use Rattle.call_recovery.proofs.Owning.{is_settled, opened_settled, opened_other, opened_last, opens_none, opens_one}
use Rattle.block_forms.specs.Bytes.{owner_is}
use Rattle.block_forms.specs.declared.Owner.{Owner}
use Rattle.block_forms.specs.Tuple.{OwnerFits}
use Rattle.basics.proofs.Kit.{ap, subst, ◌<◌, length, arith}
use Rattle.call_recovery.proofs.reopen_last.Goals as goal

pub push_open-requires : goal.push_open-requires
push_open-requires c = let l : c.in-Tentative.transaction < transaction_limit = omega (arith, subst (λ (o : Owner). OwnerFits (owner_is o)) c.in-Tentative.is c.requires.owner) in
    let pre = c.requires in
    let a = c.args in
    let e = opened_last c.in-Tentative.transaction c.in-Tentative.statement a.counts.now a.passed.now (ap owner_is c.in-Tentative.is) c.if-passed-t.true in (
      pre.room,
      record {
        few = omega (arith, ap length e, pre.opens);
        fits = record { transaction = omega arith; written = omega (arith, pre.counted.most _ l) };
      },
    )

pub returns-in_default : goal.returns-in_default
returns-in_default c = opens_none c.requires.room (opened_settled _ _ (is_settled _ c.in_default.not-Tentative))

pub returns-then-passed-t : goal.returns-then-passed-t
returns-then-passed-t c = opens_one (opened_last _ _ _ _ (ap owner_is c.in-Tentative.is) c.if-passed-t.true) c.push_open.ensures

pub returns-else-passed-t : goal.returns-else-passed-t
returns-else-passed-t c = opens_none c.requires.room (opened_other _ _ _ _ (ap owner_is c.in-Tentative.is) c.if-passed-t.false)
