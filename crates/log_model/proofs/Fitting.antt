-- The record of an accepted call has every field in its range, and repeats that call.
use Rattle.basics.proofs.Kit.{◌≡◌, sym, ap, ◌∙◌, subst, true, false, some, List, [], ℕ, suc, ◌≤◌, ◌<◌, Bool, ltb, length, arith}
use Rattle.basics.specs.Basics.{is_in}
use Rattle.basics.proofs.Facts.{and_true, never}
use Rattle.basics.proofs.Elements.{leb-false, all_in, in_all, some_eq}
use Rattle.basics.proofs.Members.{pigeon}
use Rattle.block_forms.specs.Limits.{payload_limit, most_transaction, transaction_limit}
use Rattle.model.specs.State.{Store, Outcome}
use Rattle.model.specs.Transactions.{open_numbers, open_call, not_open, no_table, too_long, argument_tests, write_tests, write_call, commit_call, abort_call}
use Rattle.model.specs.Checked.{insert_checked_call}
use Rattle.model.specs.Checkpoint.{begin_call}
use Rattle.model.specs.Calls.{TransactionCall, opens, inserts, inserts_checked, replaces, deletes, commits, aborts, reads, lists, crossings, transact, TypedTuple, TypedCall, accepted}
use Rattle.model.specs.WellFormed.{WellFormed}
use Rattle.model.proofs.Owners.{numbers_length}
use Rattle.model.proofs.Effects.{unless_accepted}
use Rattle.model.proofs.BlockUse.{below_most}
use Rattle.model.proofs.Well.{sound}
use Rattle.model.proofs.Sees.{checked_inserts}
use Rattle.log_records.specs.Records.{LogRecord, mark_of, PlaceFits, PayloadFits, RecordFits}
use Rattle.log_model.specs.Repeats.{call_of, call_if, repeat}
use Rattle.log_model.specs.Logged.{record_of, unwritten, mark_for}
use Rattle.log_model.proofs.Opening.{in_unwritten, unwritten_distinct}

-- ---- calls of transactions

abbrev Accepted : Outcome → Type 0
Accepted o = accepted o.answer ≡ true

low : (tx : ℕ) (s : Store) → ltb most_transaction tx ≡ false → tx < transaction_limit
low tx s h = omega (arith, leb-false transaction_limit tx h)

written : (new m : Bool) (tx t k : ℕ) (bs : List ℕ) (s : Store) → TypedTuple k bs → Accepted (write_call new m tx t k bs s) → PlaceFits tx t k × PayloadFits bs
unfolding write_call write_tests argument_tests not_open no_table too_long
written new m tx t k bs s ty h =
    unless_accepted (λ o. PlaceFits tx t k × PayloadFits bs) _ s _
    (λ p a. (
      record { transaction = low tx s p.0; table = omega (arith, leb-false 8 t p.1.1.0); key = ty.0 },
      record { limit = omega (arith, leb-false (suc payload_limit) (length bs) p.1.1.1.0); bytes = ty.1 },
    )) h

pub call_fits : (c : TransactionCall) (s : Store) (r : LogRecord) → TypedCall c → record_of c ≡ some r → Accepted (transact c s) → RecordFits r
unfolding record_of transact open_call insert_checked_call commit_call abort_call not_open
call_fits (opens tx) s r ty e h = subst RecordFits (some_eq e) (unless_accepted (λ o. tx < transaction_limit) _ s _ (λ p a. low tx s p.0) h)
call_fits (inserts tx t k bs) s r ty e h = subst RecordFits (some_eq e) (written true false tx t k bs s ty h)
call_fits (inserts_checked tx t k bs hours) s r ty e h =
    subst RecordFits (some_eq e) (unless_accepted (λ o. PlaceFits tx t k × PayloadFits bs) _ s _ (λ p a. written true false tx t k bs s ty a) h)
call_fits (replaces tx t k bs) s r ty e h = subst RecordFits (some_eq e) (written false false tx t k bs s ty h)
call_fits (deletes tx t k) s r ty e h = subst RecordFits (some_eq e) (written false true tx t k [] s ty h).0
call_fits (commits tx) s r ty e h = subst RecordFits (some_eq e) (unless_accepted (λ o. tx < transaction_limit) _ s _ (λ p a. low tx s p.0) h)
call_fits (aborts tx) s r ty e h = subst RecordFits (some_eq e) (unless_accepted (λ o. tx < transaction_limit) _ s _ (λ p a. low tx s p.0) h)
call_fits (reads tx t k room) s r ty e h = never e
call_fits (lists room) s r ty e h = never e
call_fits (crossings tx t first end room) s r ty e h = never e

-- repeating the record is the call, also where the insert was checked
pub call_repeats : (c : TransactionCall) (s : Store) (r : LogRecord) → record_of c ≡ some r → Accepted (transact c s) → repeat r s ≡ transact c s
unfolding record_of transact repeat call_of call_if
call_repeats (opens tx) s r e h = ap (λ x. call_if (call_of x) s) (sym (some_eq e))
call_repeats (inserts tx t k bs) s r e h = ap (λ x. call_if (call_of x) s) (sym (some_eq e))
call_repeats (inserts_checked tx t k bs hours) s r e h = ap (λ x. call_if (call_of x) s) (sym (some_eq e)) ∙ sym (checked_inserts tx t k bs hours s h).0
call_repeats (replaces tx t k bs) s r e h = ap (λ x. call_if (call_of x) s) (sym (some_eq e))
call_repeats (deletes tx t k) s r e h = ap (λ x. call_if (call_of x) s) (sym (some_eq e))
call_repeats (commits tx) s r e h = ap (λ x. call_if (call_of x) s) (sym (some_eq e))
call_repeats (aborts tx) s r e h = ap (λ x. call_if (call_of x) s) (sym (some_eq e))
call_repeats (reads tx t k room) s r e h = never e
call_repeats (lists room) s r e h = never e
call_repeats (crossings tx t first end room) s r e h = never e

-- ---- begin

pub mark_fits : (s : Store) → WellFormed s → Accepted (begin_call s) → RecordFits (mark_for s)
unfolding begin_call mark_for
mark_fits s w h =
    let os = open_numbers s.active in
    let d = (sound s w).listed.0 in
    let inside : (u : ℕ) → is_in u (unwritten s.active) ≡ true → is_in u (open_numbers s.active) ≡ true = λ u i.
    (and_true _ _ (sym (in_unwritten u s.active d) ∙ i)).0 in
    let few = pigeon (unwritten s.active) os (unwritten_distinct s.active d) (all_in _ (unwritten s.active) inside) in
    unless_accepted (λ o. RecordFits (mark_of (suc s.level) (unwritten s.active))) _ s _
    (λ p a. record {
      level = omega (arith, below_most s.level w.level p.1.0);
      count = omega (arith, few, numbers_length s.active, (sound s w).valid.opened);
      transactions = all_in _ (unwritten s.active) (λ u i. omega (arith, in_all (λ tx. tx ≤ most_transaction) u os (inside u i) (sound s w).listed.1));
    }) h
