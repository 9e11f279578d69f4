-- A transaction's entry among the open ones: what is found there, written and taken out.
use Rattle.basics.proofs.Kit.{◌≡◌, refl, sym, ap, ◌∙◌, true, false, not, List, [], ◌∷◌, ℕ, suc, ◌≤◌, ◌<◌, length, get_or, set, eqb-true, eq-eqb, ne_eqb, eqb-false}
use Rattle.basics.proofs.Kit.{arith}
use Rattle.basics.specs.Basics.{if'◌then◌else◌, any, is_in, keep}
use Rattle.basics.proofs.Facts.{by}
use Rattle.model.specs.State.{Active}
use Rattle.model.specs.Transactions.{is_for, open_numbers, written_by, one_more, with_write, without}
use Rattle.basics.proofs.Elements.{in_here, keep_cons, keep_past, in_past}
use Rattle.basics.specs.Lists.{remove_at}
use Rattle.basics.proofs.Parts.{remove_at_suc}
use Rattle.basics.proofs.Firsts.{index_hit, index_pass}
use Rattle.memory_layout.specs.Flat.{no_open}
use Rattle.memory_layout.specs.Opens.{find_open}
use Rattle.std.specs.Prelude.{Option, Some, None, is_some}
use Rattle.basics.proofs.Facts.{lie}
use Rattle.call_transactions.specs.Calls.{OpenedAt}

-- ---- one entry

module _ (tx : ℕ) (o : Active) (os : List Active) where
  module _ (e : is_for tx o ≡ true) where
    find_here : find_open tx (o ∷ os) ≡ 0
    find_here = index_hit (is_for tx) o os e

    numbers_here : is_in tx (open_numbers (o ∷ os)) ≡ true
    unfolding open_numbers is_for
    numbers_here = in_here tx o.transaction _ (eq-eqb tx o.transaction (sym (eqb-true o.transaction tx e)))

    wrote_here : with_write tx (o ∷ os) ≡ one_more o ∷ os
    unfolding with_write one_more if'◌then◌else◌
    wrote_here = rw e

    count_here : written_by tx (o ∷ os) ≡ o.written
    unfolding written_by if'◌then◌else◌
    count_here = rw e

    without_here : without tx (o ∷ os) ≡ without tx os
    unfolding without
    without_here = keep_past (λ (x : Active). not (is_for tx x)) o os (ap not e)

  module _ (e : is_for tx o ≡ false) where
    find_on : find_open tx (o ∷ os) ≡ suc (find_open tx os)
    find_on = index_pass (is_for tx) o os e

    numbers_on : is_in tx (open_numbers (o ∷ os)) ≡ is_in tx (open_numbers os)
    unfolding open_numbers is_for
    numbers_on = in_past tx o.transaction _ (ne_eqb tx o.transaction (λ q. eqb-false o.transaction tx e (sym q)))

    wrote_on : with_write tx (o ∷ os) ≡ o ∷ with_write tx os
    unfolding with_write if'◌then◌else◌
    wrote_on = rw e

    count_on : written_by tx (o ∷ os) ≡ written_by tx os
    unfolding written_by if'◌then◌else◌
    count_on = rw e

    without_on : without tx (o ∷ os) ≡ o ∷ without tx os
    unfolding without
    without_on = keep_cons (λ (x : Active). not (is_for tx x)) o os (ap not e)

-- ---- found below the count: it is open

pub found_open : (tx : ℕ) (os : List Active) → find_open tx os < length os → is_in tx (open_numbers os) ≡ true
found_open tx [] h = absurd (omega arith)
found_open tx (o ∷ os) h =
    by (is_for tx o) (λ e. numbers_here tx o os e) (λ e. numbers_on tx o os e ∙ found_open tx os (omega (arith, find_on tx o os e)))

-- else it is not
pub not_found_open : (tx : ℕ) (os : List Active) → length os ≤ find_open tx os → is_in tx (open_numbers os) ≡ false
unfolding open_numbers is_in any
not_found_open tx [] h = refl
not_found_open tx (o ∷ os) h =
    by (is_for tx o) (λ e. absurd (omega (arith, find_here tx o os e))) (λ e. numbers_on tx o os e ∙ not_found_open tx os (omega (arith, find_on tx o os e)))

-- ---- the entry found

pub found_is : (tx : ℕ) (os : List Active) → find_open tx os < length os → (get_or os (find_open tx os) no_open).transaction ≡ tx
unfolding is_for
found_is tx [] h = absurd (omega arith)
found_is tx (o ∷ os) h =
    by (is_for tx o)
    (λ e. ap (λ (i : ℕ). (get_or (o ∷ os) i no_open).transaction) (find_here tx o os e) ∙ eqb-true _ _ e)
    (λ e. ap (λ (i : ℕ). (get_or (o ∷ os) i no_open).transaction) (find_on tx o os e) ∙ found_is tx os (omega (arith, find_on tx o os e)))

pub count_is : (tx : ℕ) (os : List Active) → find_open tx os < length os → (get_or os (find_open tx os) no_open).written ≡ written_by tx os
count_is tx [] h = absurd (omega arith)
count_is tx (o ∷ os) h =
    by (is_for tx o)
    (λ e. ap (λ (i : ℕ). (get_or (o ∷ os) i no_open).written) (find_here tx o os e) ∙ sym (count_here tx o os e))
    (λ e. ap (λ (i : ℕ). (get_or (o ∷ os) i no_open).written) (find_on tx o os e) ∙ count_is tx os (omega (arith, find_on tx o os e)) ∙ sym (count_on tx o os e))

pub wrote_is : (tx : ℕ) (os : List Active) → find_open tx os < length os → set os (find_open tx os) (one_more (get_or os (find_open tx os) no_open)) ≡ with_write tx os
wrote_is tx [] h = absurd (omega arith)
wrote_is tx (o ∷ os) h =
    let at : ℕ → List Active = λ i. set (o ∷ os) i (one_more (get_or (o ∷ os) i no_open)) in
    by (is_for tx o)
    (λ e. ap at (find_here tx o os e) ∙ sym (wrote_here tx o os e))
    (λ e. ap at (find_on tx o os e) ∙ ap (λ (z : List Active). o ∷ z) (wrote_is tx os (omega (arith, find_on tx o os e))) ∙ sym (wrote_on tx o os e))

-- ---- the entry taken out

pub without_found : (tx : ℕ) (os : List Active) → find_open tx os < length os → without tx (remove_at (find_open tx os) os) ≡ without tx os
without_found tx [] h = absurd (omega arith)
without_found tx (o ∷ os) h =
    by (is_for tx o)
    (λ e. ap (λ (i : ℕ). without tx (remove_at i (o ∷ os))) (find_here tx o os e) ∙ sym (without_here tx o os e))
    (λ e. ap (λ (i : ℕ). without tx (remove_at i (o ∷ os))) (find_on tx o os e) ∙ ap (without tx) (remove_at_suc (find_open tx os) o os)
    ∙ without_on tx o (remove_at (find_open tx os) os) e
    ∙ ap (λ (z : List Active). o ∷ z) (without_found tx os (omega (arith, find_on tx o os e))) ∙ sym (without_on tx o os e))

pub without_none : (tx : ℕ) (os : List Active) → length os ≤ find_open tx os → without tx os ≡ os
unfolding without keep
without_none tx [] h = refl
without_none tx (o ∷ os) h =
    by (is_for tx o)
    (λ e. absurd (omega (arith, find_here tx o os e)))
    (λ e. without_on tx o os e ∙ ap (λ (z : List Active). o ∷ z) (without_none tx os (omega (arith, find_on tx o os e))))

-- ---- the place of the first entry, if there is one

pub opened_none : (tx : ℕ) (os : List Active) (r : Option ℕ) → OpenedAt tx os r → is_some r ≡ false → length os ≤ find_open tx os
opened_none tx os (Some i) o e = lie (sym e)
opened_none tx os None o e = o

pub opened_some : (tx : ℕ) (os : List Active) (r : Option ℕ) → OpenedAt tx os r → is_some r ≡ true → find_open tx os < length os
opened_some tx os (Some i) o e = omega (arith, o.0, o.1)
opened_some tx os None o e = lie e
