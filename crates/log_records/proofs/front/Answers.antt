-- `log_records::front` meets its contract: the first byte's kind decides what is read (`front_going`).
use Rattle.std.specs.Prelude.{Option, Some, None, slice_get}
use Rattle.std.specs.Option.{option_copied}
use Rattle.std.proofs.Common.{Bor}
use Rattle.std.proofs.lemmas.Option.{get_or_from_slice_get, slice_get-get_or}
use Rattle.basics.proofs.Kit.{◌≡◌, sym, ap, ◌∙◌, subst, ◌⊎◌, ⊎_elim, inl, inr, List, ℕ, ◌<◌, ◌≤◌, ◌/◌, length, get_or, arith}
use Rattle.basics.proofs.Numbers.{lt_or_ge}
use Rattle.basics.proofs.Facts.{clash}
use Rattle.block_forms.specs.Tuple.{AllBytes}
use Rattle.block_forms.proofs.Spelled.{all_bytes}
use Rattle.log_records.proofs.Fronts.{other_none, front_end, front_going}
use Rattle.log_records.proofs.front.Goals as goal

no_first : (xs : List ℕ) {o : Option (Bor ℕ)} → option_copied o ≡ slice_get xs 0 → o ≡ None → length xs ≡ 0
no_first xs v s =
    ⊎_elim (λ (h : 0 < length xs). let e = sym (sym v ∙ ap option_copied s) ∙ slice_get-get_or xs 0 0 h in clash cc) (λ (h : length xs ≤ 0). omega arith)
    (lt_or_ge 0 (length xs))

first_is : (xs : List ℕ) {o : Option (Bor ℕ)} {r : Bor ℕ} → option_copied o ≡ slice_get xs 0 → o ≡ Some r → get_or xs 0 0 ≡ r.now
first_is xs {r = r} v s = get_or_from_slice_get xs 0 r.now 0 (sym v ∙ ap option_copied s)

pub returns-in_default : goal.returns-in_default
returns-in_default c = sym (front_end c.args.xs.now (inl (no_first c.args.xs.now c.first.ensures.value c.in_default.is)))

pub returns-then-first-eq0 : goal.returns-then-first-eq0
returns-then-first-eq0 c = sym (front_end c.args.xs.now (inr (first_is c.args.xs.now c.first.ensures.value c.in-Some.is ∙ c.if-first-eq0.true)))

pub returns-in_default-try_from : goal.returns-in_default-try_from
returns-in_default-try_from c = let bytes : AllBytes c.args.xs.now = all_bytes c.args.xs.now (λ j. omega (arith, c.type_inv.xs j)) in
    let f = first_is c.args.xs.now c.first.ensures.value c.in-Some.is in
    sym (front_going c.args.xs.now (omega (arith, f, c.if-first-eq0.false)) ∙ other_none c.args.xs.now (bytes) (subst (λ z. (z / 16 ≡ 0) ⊎ (7 < z / 16)) (sym f) c.in_default-try_from.ensures))

pub returns-in-Open : goal.returns-in-Open
returns-in-Open c = let f = first_is c.args.xs.now c.first.ensures.value c.in-Some.is in
    c.short_front.ensures ∙ sym (front_going c.args.xs.now (omega (arith, f, c.if-first-eq0.false)))

pub returns-in-Insert : goal.returns-in-Insert
returns-in-Insert c = let f = first_is c.args.xs.now c.first.ensures.value c.in-Some.is in
    c.tuple_front.ensures ∙ sym (front_going c.args.xs.now (omega (arith, f, c.if-first-eq0.false)))

pub returns-in-Delete : goal.returns-in-Delete
returns-in-Delete c = let f = first_is c.args.xs.now c.first.ensures.value c.in-Some.is in
    c.delete_front.ensures ∙ sym (front_going c.args.xs.now (omega (arith, f, c.if-first-eq0.false)))

pub returns-in-Mark : goal.returns-in-Mark
returns-in-Mark c = let f = first_is c.args.xs.now c.first.ensures.value c.in-Some.is in
    c.mark_front.ensures ∙ sym (front_going c.args.xs.now (omega (arith, f, c.if-first-eq0.false)))
