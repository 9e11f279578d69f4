-- `store_c::vodzanu_roll_forward` meets its contract: the end is written if the roll-forward is accepted, and stays else.
use Rattle.basics.proofs.Kit.{◌≡◌, sym, ◌∙◌, true, false, ℕ, ⊎_elim, rules}
use Rattle.basics.specs.Basics.{if'◌then◌else◌}
use Rattle.call_contracts.specs.Shape.{Answer, is_accepted}
use Rattle.call_contracts.proofs.Answering.{accepted_ok}
use Rattle.store.specs.Code.{end_after}
use Rattle.store_c.proofs.vodzanu_roll_forward.Goals.{then-is_ok, else-is_ok}
use Rattle.store_c.proofs.vodzanu_roll_forward.Goals as goal

written : (a : Answer) (new old : ℕ) → is_accepted a ≡ true → end_after a new old ≡ new
unfolding end_after if'◌then◌else◌
written a new old h = rw h

stays : (a : Answer) (new old : ℕ) → is_accepted a ≡ false → end_after a new old ≡ old
unfolding end_after if'◌then◌else◌
stays a new old h = rw h

pub returns : goal.returns
returns c = record {
  answer = c.roll_forward-forwarded.result;
  holds = c.roll_forward-forwarded.ensures;
  number = search rules;
  end = elim c.if-is_ok.branch [ then-is_ok w ↦ w.end-is ∙ sym (written _ _ _ (accepted_ok _ ∙ sym c.is_ok.ensures.value ∙ w.if-is_ok.true)) | else-is_ok w ↦ w.end-is ∙ sym (stays _ _ _ (accepted_ok _ ∙ sym c.is_ok.ensures.value ∙ w.if-is_ok.false)) ];
}
