-- The tests of the calendar one after the other, and the call that comes behind them.
use Rattle.basics.proofs.Kit.{◌≡◌, sym, ap, ◌∙◌, subst, fun_ext, Bool, true, false, not, List, [], ◌∷◌, ℕ, ◌≤◌, ◌<◌, eqb, ltb, lt-ltb, le-ltb, eq-eqb, ne_eqb, arith}
use Rattle.basics.specs.Basics.{if'◌then◌else◌}
use Rattle.basics.proofs.Facts.{by}
use Rattle.calendar.specs.Calendar.{minutes, rows_of, is_calendar, open_throughout}
use Rattle.model.specs.State.{Store, Outcome}
use Rattle.model.specs.Transactions.{no_table, gives, insert_call}
use Rattle.model.specs.Calls.{with_room}
use Rattle.model.specs.Checked.{no_calendar, no_length, some_closed, hours_tests, insert_checked_call}
use Rattle.memory_layout.specs.Flat.{flat_of}
use Rattle.memory_layout.specs.Store.{holds_store, store_of}
use Rattle.std.specs.Prelude.{Err}
use Rattle.refusals.specs.declared.Refusal.{Refusal}
use Rattle.refusals.specs.declared.Refusal.TheVariants.{NoStore}
use Rattle.refusals.specs.Numbers.{number}
use Rattle.refusals.proofs.Numbers.{number_positive}
use Rattle.call_contracts.specs.Shape.{Answer, Answers}
use Rattle.call_contracts.proofs.Answering.{answers_4, answers_refused, room_refused}
use Rattle.call_transactions.specs.Refusals.{first_refusal}
use Rattle.call_transactions.proofs.Refusing.{stop_here, go_on, refusal_none, Numbered, unless_stop, unless_pass}
use Rattle.model.specs.State as model

module _ (t k : ℕ) (bs hours : List ℕ) where
  -- ---- one test after the other

  pub stop_10 : 7 < t → 10 ≡ first_refusal (hours_tests t k bs hours)
  unfolding hours_tests no_table
  stop_10 h = sym (stop_here 10 (ltb 7 t) _ (lt-ltb 7 t h))

  module _ (h10 : t ≤ 7) where
    past_10 : first_refusal (hours_tests t k bs hours) ≡ first_refusal (no_calendar hours ∷ no_length bs ∷ some_closed k bs hours ∷ [])
    unfolding hours_tests no_table
    past_10 = go_on 10 (ltb 7 t) _ (le-ltb 7 t h10)

    pub stop_26 : is_calendar hours ≡ false → 26 ≡ first_refusal (hours_tests t k bs hours)
    unfolding no_calendar
    stop_26 h = sym (past_10 ∙ stop_here 26 (not (is_calendar hours)) _ (ap not h))

    module _ (h26 : is_calendar hours ≡ true) where
      past_26 : first_refusal (hours_tests t k bs hours) ≡ first_refusal (no_length bs ∷ some_closed k bs hours ∷ [])
      unfolding no_calendar
      past_26 = past_10 ∙ go_on 26 (not (is_calendar hours)) _ (ap not h26)

      pub stop_27 : minutes bs ≡ 0 → 27 ≡ first_refusal (hours_tests t k bs hours)
      unfolding no_length
      stop_27 h = sym (past_26 ∙ stop_here 27 (eqb (minutes bs) 0) _ (eq-eqb (minutes bs) 0 h))

      module _ (h27 : minutes bs ≡ 0 → ⊥) where
        past_27 : first_refusal (hours_tests t k bs hours) ≡ first_refusal (some_closed k bs hours ∷ [])
        unfolding no_length
        past_27 = past_26 ∙ go_on 27 (eqb (minutes bs) 0) _ (ne_eqb (minutes bs) 0 h27)

        pub stop_28 : open_throughout (rows_of hours) k (minutes bs) ≡ false → 28 ≡ first_refusal (hours_tests t k bs hours)
        unfolding some_closed
        stop_28 h = sym (past_27 ∙ stop_here 28 (not (open_throughout (rows_of hours) k (minutes bs))) _ (ap not h))

        pub all_open : open_throughout (rows_of hours) k (minutes bs) ≡ true → 0 ≡ first_refusal (hours_tests t k bs hours)
        unfolding some_closed
        all_open h = sym (past_27 ∙ go_on 28 (not (open_throughout (rows_of hours) k (minutes bs))) _ (ap not h) ∙ refusal_none)

  -- ---- the call

  numbered : Numbered (hours_tests t k bs hours)
  unfolding hours_tests no_table no_calendar no_length some_closed
  numbered = (omega arith, (omega arith, (omega arith, (omega arith, tt))))

  module _ (tx : ℕ) (m : List ℕ) (room : Bool) where
    -- no test holds: it is the insert
    pub is_insert : 0 ≡ first_refusal (hours_tests t k bs hours) → (r : Answer) (m' : List ℕ) → Answers (with_room room (insert_call tx t k bs)) m r m'
        → Answers (with_room room (insert_checked_call tx t k bs hours)) m r m'
    unfolding insert_checked_call
    is_insert e r m' a =
        subst (λ (call : Store → Outcome). Answers (with_room room call) m r m')
        (fun_ext (λ s. sym (unless_pass (hours_tests t k bs hours) s (insert_call tx t k bs s) numbered (sym e)))) a

    -- one holds: it is refused, by 4 where there is no store
    pub refuses : (e : Refusal) → number e ≡ first_refusal (hours_tests t k bs hours) → (r : Refusal) → r ≡ (if' holds_store m then e else NoStore)
        → Answers (with_room room (insert_checked_call tx t k bs hours)) m (Err r) m
    unfolding insert_checked_call if'◌then◌else◌
    refuses e ev r q =
        let s = store_of (flat_of m) in
        let call = insert_checked_call tx t k bs hours in
        let stops = unless_stop (hours_tests t k bs hours) s (insert_call tx t k bs s) (λ z. omega (arith, ev, z, number_positive e)) ∙ ap (λ n. gives (model.refused n) s) (sym ev) in
        subst (λ a. Answers (with_room room call) m (Err a) m) (sym q) (by (holds_store m)
        (λ h. rw h (room_refused room call m e m (answers_refused call m e h stops)))
        (λ h. rw h (room_refused room call m NoStore m (answers_4 call m h))))
