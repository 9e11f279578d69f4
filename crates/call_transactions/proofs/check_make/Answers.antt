-- `call_transactions::check_make` meets its contract: one case for each way in which image, capacity or memory does not fit, and one for none.
use Rattle.block_forms.specs.Limits.{block_size}
use Rattle.basics.proofs.Kit.{⊎_elim, ◌/◌, arith}
use Rattle.memory_layout.specs.Store.{FreshFits}
use Rattle.call_transactions.proofs.Making.{make_odd, make_few, make_many, make_none, make_large, make_short, refusal_given, refusal_zero}
use Rattle.call_transactions.proofs.check_make.Goals as goal

pub returns-then-len-ne0 : goal.returns-then-len-ne0
returns-then-len-ne0 c = let a = c.args in
    refusal_given _ a.room _ (⊎_elim (make_odd _ _ _) (⊎_elim (λ h. make_few _ _ _ h.1) (λ h. make_many _ _ _ h.2)) c.then-len-ne0.either)

pub returns-then-capacity-lt1 : goal.returns-then-capacity-lt1
returns-then-capacity-lt1 c = let a = c.args in
    refusal_given a.len a.room a.capacity (⊎_elim (make_none _ _ _ c.if-len-ne0.false c.if-blocks-lt2.false c.if-blocks-gt-BLOCK_LIMIT.false)
    (λ h. make_large _ _ _ c.if-len-ne0.false c.if-blocks-lt2.false c.if-blocks-gt-BLOCK_LIMIT.false h.1) c.then-capacity-lt1.either)

pub returns-then-room-n : goal.returns-then-room-n
returns-then-room-n c = let a = c.args in
    refusal_given a.len a.room a.capacity
    (make_short _ _ _ c.if-len-ne0.false c.if-blocks-lt2.false c.if-blocks-gt-BLOCK_LIMIT.false c.if-capacity-lt1.false (omega (arith, c.if-capacity-gt-CAPACITY_LIMIT.false)) c.if-room-n.true)

pub returns : goal.returns
returns c = let a = c.args in
    let r : FreshFits a.room (a.len / block_size) a.capacity = record {
      least = c.if-capacity-lt1.false;
      most = omega (arith, c.if-capacity-gt-CAPACITY_LIMIT.false);
      long = c.if-room-n.false;
      few = c.if-blocks-lt2.false;
      many = c.if-blocks-gt-BLOCK_LIMIT.false;
    } in
    refusal_zero a.len a.room a.capacity (record { whole = c.if-len-ne0.false; room = r })
