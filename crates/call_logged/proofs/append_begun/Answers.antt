-- `call_logged::append_begun` meets its contract: the mark of a begin that was accepted is appended, a refusal is handed on.
use Rattle.basics.proofs.Kit.{◌≡◌, refl, sym, ap, ◌∙◌, true, ◌+◌, not, arith}
use Rattle.basics.proofs.Facts.{lie}
use Rattle.log_records.proofs.Spelling.{mark_size_lem}
use Rattle.call_contracts.specs.Shape.{is_accepted}
use Rattle.call_contracts.proofs.Answering.{accepted_ok}
use Rattle.call_logged.proofs.Logging.{handed_on}
use Rattle.call_logged.proofs.append_begun.Goals as goal

pub returns-then-is_err : goal.returns-then-is_err
returns-then-is_err c = handed_on _ _ _ _ _ (accepted_ok _ ∙ c.is_err.ensures.negation ∙ ap not c.if-is_err.true) refl refl

pub mark_size-size-requires : goal.mark_size-size-requires
mark_size-size-requires c = let accepted : is_accepted c.args.answer ≡ true = accepted_ok _ ∙ c.is_err.ensures.negation ∙ ap not c.if-is_err.false in
    omega (arith, (c.requires accepted).fits.count)

pub overflow_add-level : goal.overflow_add-level
overflow_add-level c = let accepted : is_accepted c.args.answer ≡ true = accepted_ok _ ∙ c.is_err.ensures.negation ∙ ap not c.if-is_err.false in
    omega (arith, (c.requires accepted).fits.level)

pub append_mark-requires : goal.append_mark-requires
append_mark-requires c = let accepted : is_accepted c.args.answer ≡ true = accepted_ok _ ∙ c.is_err.ensures.negation ∙ ap not c.if-is_err.false in
    c.requires accepted

pub overflow_add-result : goal.overflow_add-result
overflow_add-result c = let accepted : is_accepted c.args.answer ≡ true = accepted_ok _ ∙ c.is_err.ensures.negation ∙ ap not c.if-is_err.false in
    omega (arith, (c.requires accepted).room, c.mark_size-size.ensures)

pub returns : goal.returns
returns c = let accepted : is_accepted c.args.answer ≡ true = accepted_ok _ ∙ c.is_err.ensures.negation ∙ ap not c.if-is_err.false in
    let a = c.args in
    record {
      answer = refl;
      done = λ q. (c.append_mark.ensures, ap (λ n. a.end + n) (c.mark_size-size.ensures ∙ sym (mark_size_lem (a.level + 1) a.transactions.now)));
      other = λ n. lie (sym n ∙ accepted);
    }
