-- `call_logged::append_accepted` meets its contract: the record of a call that was accepted is appended, a refusal is handed on.
use Rattle.basics.proofs.Kit.{◌≡◌, refl, sym, ap, ◌∙◌, true, ◌+◌, not, arith}
use Rattle.basics.proofs.Facts.{lie}
use Rattle.log_records.proofs.Spelling.{size_of_change}
use Rattle.log_records.proofs.Changes.{small_change}
use Rattle.call_contracts.specs.Shape.{is_accepted}
use Rattle.call_contracts.proofs.Answering.{accepted_ok}
use Rattle.call_logged.proofs.Logging.{handed_on}
use Rattle.call_logged.proofs.append_accepted.Goals as goal

pub returns-then-is_err : goal.returns-then-is_err
returns-then-is_err c = handed_on _ _ _ _ _ (accepted_ok _ ∙ c.is_err.ensures.negation ∙ ap not c.if-is_err.true) refl refl

pub change_size-size-requires : goal.change_size-size-requires
change_size-size-requires c = let accepted : is_accepted c.args.answer ≡ true = accepted_ok _ ∙ c.is_err.ensures.negation ∙ ap not c.if-is_err.false in
    let room = c.requires accepted in small_change c.args.change c.args.payload.now room.fits room.told

pub append-requires : goal.append-requires
append-requires c = let accepted : is_accepted c.args.answer ≡ true = accepted_ok _ ∙ c.is_err.ensures.negation ∙ ap not c.if-is_err.false in
    c.requires accepted

pub overflow_add-result : goal.overflow_add-result
overflow_add-result c = let accepted : is_accepted c.args.answer ≡ true = accepted_ok _ ∙ c.is_err.ensures.negation ∙ ap not c.if-is_err.false in
    omega (arith, (c.requires accepted).room, c.change_size-size.ensures)

pub returns : goal.returns
returns c = let accepted : is_accepted c.args.answer ≡ true = accepted_ok _ ∙ c.is_err.ensures.negation ∙ ap not c.if-is_err.false in
    let room = c.requires accepted in
    record {
      answer = refl;
      done = λ q. (c.append.ensures, ap (λ n. c.args.end + n) (c.change_size-size.ensures ∙ sym (size_of_change c.args.change c.args.payload.now room.told)));
      other = λ n. lie (sym n ∙ accepted);
    }
