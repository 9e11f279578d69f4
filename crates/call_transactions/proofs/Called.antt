-- Insert, replace and delete as a write: its tests and what is written.
use Rattle.basics.proofs.Kit.{◌≡◌, refl, sym, ap, ◌∙◌, subst, fun_ext, Bool, true, false, List, [], ◌∷◌, ℕ, length, arith}
use Rattle.model.specs.State.{Store, Outcome}
use Rattle.model.specs.Sight.{versions}
use Rattle.model.specs.Transactions.{gives, unless, argument_tests, tuple_tests, write_tests, after_write, with_tuple, write_call, delete_call}
use Rattle.model.specs.Calls.{with_room}
use Rattle.memory_layout.specs.Flat.{flat_of}
use Rattle.memory_layout.specs.Store.{holds_store, store_of, store_in, pages_in, HoldsNow}
use Rattle.call_contracts.specs.Shape.{Answer, Answers}
use Rattle.std.specs.Prelude.{Ok, Err}
use Rattle.refusals.specs.declared.Refusal.{Refusal}
use Rattle.refusals.specs.declared.Refusal.TheVariants.{LogFull}
use Rattle.refusals.specs.Numbers.{number}
use Rattle.refusals.proofs.Numbers.{number_positive}
use Rattle.call_contracts.specs.declared.Reply.TheVariants.{Done}
use Rattle.call_contracts.proofs.Answering.{answers_refused, answers_done, no_room_done}
use Rattle.engine_lookup.specs.Lookup.{Shows}
use Rattle.engine_lookup.specs.declared.Visibility.{Visibility}
use Rattle.call_transactions.specs.Refusals.{first_refusal, refusal_in, found_tests}
use Rattle.call_transactions.proofs.Refusing.{unless_append, unless_stop, unless_pass, passed_held, call_after, answers_stopped}
use Rattle.call_transactions.proofs.Testing.{key_tests_are, later_numbered, call_numbered}
use Rattle.model.specs.State as model

-- a write of a delete mark with no payload is a delete
is_delete : (tx t k : ℕ) (bs : List ℕ) → length bs ≡ 0 → (s : Store) → write_call false true tx t k bs s ≡ delete_call tx t k s
is_delete tx t k [] e s = refl
is_delete tx t k (b ∷ bs) e s = absurd (omega arith)

pub delete_is : (tx t k : ℕ) (bs m : List ℕ) (r : Answer) (m' : List ℕ) → Answers (write_call false true tx t k bs) m r m' → length bs ≡ 0
    → Answers (delete_call tx t k) m r m'
delete_is tx t k bs m r m' a e = subst (λ (call : Store → Outcome). Answers call m r m') (fun_ext (is_delete tx t k bs e)) a

-- ---- a write: its tests, and what it leaves

-- what comes behind the first tests
wrote : Bool → Bool → ℕ → ℕ → ℕ → List ℕ → Store → Outcome
wrote new mark tx t k bs s = unless (tuple_tests new tx t k s) s (gives model.done (after_write tx t k bs mark s))

is_write : (new mark : Bool) (tx t k : ℕ) (bs : List ℕ) (s : Store)
    → write_call new mark tx t k bs s ≡ unless (argument_tests tx t (length bs) s) s (wrote new mark tx t k bs s)
unfolding write_call write_tests with_tuple wrote
is_write new mark tx t k bs s = unless_append (argument_tests tx t (length bs) s) (tuple_tests new tx t k s) s _

module _ (new mark : Bool) (tx t k : ℕ) (bs m : List ℕ) where
  abbrev S : Store
  S = store_of (flat_of m)

  abbrev call : Store → Outcome
  call = write_call new mark tx t k bs

  pub call_refused : (r : Refusal) → number r ≡ refusal_in (store_in m) (argument_tests tx t (length bs)) → Answers (write_call new mark tx t k bs) m (Err r) m
  call_refused r e = answers_stopped m (argument_tests tx t (length bs)) r e call (wrote new mark tx t k bs) (is_write new mark tx t k bs)

  module _ (ev : 0 ≡ refusal_in (store_in m) (argument_tests tx t (length bs))) (l : Visibility) (shown : Shows (flat_of m) t tx (versions t k (pages_in (flat_of m))) l) where
    there : holds_store m ≡ true
    there = passed_held m (argument_tests tx t (length bs)) ev

    tests_are : found_tests new (flat_of m) l ≡ tuple_tests new tx t k S
    tests_are = key_tests_are (flat_of m) t tx k l shown new

    call_is : call S ≡ unless (tuple_tests new tx t k S) S (gives model.done (after_write tx t k bs mark S))
    unfolding wrote
    call_is = call_after m (argument_tests tx t (length bs)) ev call (wrote new mark tx t k bs) (is_write new mark tx t k bs) (call_numbered tx t (length bs))

    pub key_refused : (r : Refusal) → number r ≡ first_refusal (found_tests new (flat_of m) l) → Answers (write_call new mark tx t k bs) m (Err r) m
    key_refused r e =
        let later_is : number r ≡ first_refusal (tuple_tests new tx t k S) = e ∙ ap first_refusal tests_are in
        answers_refused call m r there
        (call_is ∙ unless_stop (tuple_tests new tx t k S) S _ (λ q. omega (arith, later_is, q, number_positive r)) ∙ ap (λ (j : ℕ). gives (model.refused j) S) (sym later_is))

    module _ (ew : 0 ≡ first_refusal (found_tests new (flat_of m) l)) where
      written_is : call S ≡ gives model.done (after_write tx t k bs mark S)
      written_is = call_is ∙ unless_pass (tuple_tests new tx t k S) S _ (later_numbered new tx t k S) (sym (ew ∙ ap first_refusal tests_are))

      -- but there is no room for the record
      pub write_29 : (room : Bool) → room ≡ false → Answers (with_room room (write_call new mark tx t k bs)) m (Err LogFull) m
      unfolding with_tuple
      write_29 room h = no_room_done room call m h there _ written_is

      pub write_done : (m' : List ℕ) → HoldsNow m m' (after_write tx t k bs mark (store_of (flat_of m))) → Answers (write_call new mark tx t k bs) m (Ok Done) m'
      write_done m' p = answers_done call m m' (after_write tx t k bs mark S) there written_is p
