-- The tests of insert, replace and delete: those that look at no tuple, and those by what there is of the key; what is known once none holds.
use Rattle.basics.proofs.Kit.{◌≡◌, refl, sym, ap, ◌∙◌, ⊎_elim, Bool, true, false, not, List, [], ◌∷◌, ◌++◌, ℕ, ◌≤◌, ◌<◌, leb, eqb, ltb, length, le-leb, lt-ltb, le-ltb, lt-leb}
use Rattle.basics.proofs.Kit.{eq-eqb, ne_eqb, eqb-false, ltb-false, arith}
use Rattle.basics.specs.Basics.{is_some, is_in}
use Rattle.basics.proofs.Facts.{by, lie}
use Rattle.block_forms.specs.Limits.{payload_limit, most_transaction}
use Rattle.model.specs.State.{Store}
use Rattle.model.specs.Sight.{held, versions}
use Rattle.model.specs.Transactions.{Test, ◌when◌, not_open, no_table, too_long, full, argument_tests, key_test, key_tests, tuple_tests, open_numbers}
use Rattle.basics.proofs.Elements.{leb-false, not-false}
use Rattle.basics.proofs.Tabs.{lt_or_ge}
use Rattle.memory_layout.specs.Flat.{Flat, flat_of}
use Rattle.memory_layout.specs.Store.{holds_store, store_of, store_in, pages_in}
use Rattle.memory_layout.specs.Opens.{find_open}
use Rattle.memory_layout.proofs.Laws.{holds_room, filled}
use Rattle.memory_layout.proofs.Runs.{held_count}
use Rattle.memory_pages.specs.Spots.{place_in}
use Rattle.engine_lookup.specs.Lookup.{Shows, seen_at, picked}
use Rattle.engine_lookup.specs.declared.Visibility.{Visibility}
use Rattle.std.specs.Prelude.{Option as Found, Some, None, is_some as is_found}
use Rattle.engine_lookup.proofs.Picking.{visibility_sees}
use Rattle.call_transactions.specs.Refusals.{first_refusal, refusal_in, found_tests}
use Rattle.call_transactions.specs.Calls.{AcceptAt}
use Rattle.refusals.specs.declared.Refusal.{Refusal}
use Rattle.refusals.specs.Numbers.{number}
use Rattle.refusals.proofs.Numbers.{number_positive}
use Rattle.call_transactions.proofs.Opens.{not_found_open}
use Rattle.call_transactions.proofs.Refusing.{Numbered, stop_here, go_on, refusal_none, refusal_append, refusal_first, refusal_4, refusal_in_lem, passed_held, passed_tests, open_numbered}

-- ---- 4, 6, 7, 10, 11

-- the tests behind those of an open transaction
abbrev own_tests : ℕ → ℕ → List Test
own_tests t n = no_table t ∷ too_long n ∷ []

tests_are : (tx t n : ℕ) (s : Store) → argument_tests tx t n s ≡ not_open tx s ++ own_tests t n
unfolding argument_tests
tests_are tx t n s = refl

module _ (tx t n : ℕ) (m : List ℕ) where
  abbrev S : Store
  S = store_of (flat_of m)

  pub call_stopped : (r : Refusal) → number r ≡ refusal_in (store_in m) (not_open tx) → number r ≡ refusal_in (store_in m) (argument_tests tx t n)
  call_stopped r ev =
      by (holds_store m)
      (λ h. let e1 : number r ≡ first_refusal (not_open tx S) = ev ∙ refusal_in_lem m (not_open tx) h in
      e1 ∙ sym (refusal_in_lem m (argument_tests tx t n) h ∙ ap first_refusal (tests_are tx t n S)
      ∙ refusal_first (not_open tx S) (own_tests t n) (λ z. omega (arith, e1, z, number_positive r))))
      (λ h. ev ∙ refusal_4 m (not_open tx) h ∙ sym (refusal_4 m (argument_tests tx t n) h))

  module _ (ev : 0 ≡ refusal_in (store_in m) (not_open tx)) where
    rest_is : refusal_in (store_in m) (argument_tests tx t n) ≡ first_refusal (own_tests t n)
    rest_is =
        refusal_in_lem m (argument_tests tx t n) (passed_held m (not_open tx) ev) ∙ ap first_refusal (tests_are tx t n S)
        ∙ refusal_append (not_open tx S) (own_tests t n) (passed_tests m (not_open tx) ev) (open_numbered tx S)

    pub call_10 : 7 < t → 10 ≡ refusal_in (store_in m) (argument_tests tx t n)
    unfolding no_table
    call_10 h = sym (rest_is ∙ stop_here 10 (ltb 7 t) _ (lt-ltb 7 t h))

    module _ (h10 : t ≤ 7) where
      past_10 : refusal_in (store_in m) (argument_tests tx t n) ≡ first_refusal (11 when ltb payload_limit n ∷ [])
      unfolding no_table too_long
      past_10 = rest_is ∙ go_on 10 (ltb 7 t) _ (le-ltb 7 t h10)

      pub call_11 : payload_limit < n → 11 ≡ refusal_in (store_in m) (argument_tests tx t n)
      call_11 h = sym (past_10 ∙ stop_here 11 (ltb payload_limit n) _ (lt-ltb payload_limit n h))

      pub call_passed : n ≤ payload_limit → 0 ≡ refusal_in (store_in m) (argument_tests tx t n)
      call_passed h = sym (past_10 ∙ go_on 11 (ltb payload_limit n) _ (le-ltb payload_limit n h) ∙ refusal_none)

-- ---- 15, 16

module _ (m : List ℕ) (there : holds_store m ≡ true) where
  abbrev f : Flat
  f = flat_of m

  held_rows : length (held (store_of f).pages) ≡ length f.rows
  unfolding store_of
  held_rows = held_count f (filled m (holds_room m there))

  cap_is : (store_of f).capacity ≡ f.head.capacity
  unfolding store_of
  cap_is = refl

  next_is : (store_of f).next ≡ f.head.next
  unfolding store_of
  next_is = refl

  pub full_15 : f.head.capacity ≤ length f.rows → 15 ≡ first_refusal (full (store_of f))
  unfolding full
  full_15 h = sym (stop_here 15 _ _ (le-leb (store_of f).capacity (length (held (store_of f).pages)) (omega (arith, h, held_rows, cap_is))))

  module _ (h : length f.rows < f.head.capacity) where
    free : leb (store_of f).capacity (length (held (store_of f).pages)) ≡ false
    free = lt-leb (store_of f).capacity (length (held (store_of f).pages)) (omega (arith, h, held_rows, cap_is))

    pub full_16 : f.head.next ≡ 4294967295 → 16 ≡ first_refusal (full (store_of f))
    unfolding full
    full_16 e = sym (go_on 15 _ _ free ∙ stop_here 16 _ _ (eq-eqb _ _ (next_is ∙ e)))

    pub full_none : (f.head.next ≡ 4294967295 → ⊥) → 0 ≡ first_refusal (full (store_of f))
    unfolding full
    full_none e = sym (go_on 15 _ _ free ∙ go_on 16 _ _ (ne_eqb _ _ (λ q. e (sym next_is ∙ q))) ∙ refusal_none)

-- ---- 12, 13, 14

module _ (f : Flat) (l : Visibility) where
  pub key_12 : (new : Bool) → l.foreign ≡ true → 12 ≡ first_refusal (found_tests new f l)
  unfolding found_tests key_tests
  key_12 new e = sym (stop_here 12 _ _ e)

  -- behind 12, by the version that is seen
  module _ (e12 : l.foreign ≡ false) {r : Found ℕ} (er : r ≡ picked f l) where
    by_sight : (new : Bool) → first_refusal (found_tests new f l) ≡ first_refusal (key_test new (is_found r) ∷ full (store_of f))
    unfolding found_tests key_tests
    by_sight new = go_on 12 _ _ e12 ∙ ap (λ (z : Found ℕ). first_refusal (key_test new (is_found z) ∷ full (store_of f))) (sym er)

    pub key_13 : {i : ℕ} → r ≡ Some i → (new : Bool) → new ≡ true → 13 ≡ first_refusal (found_tests new f l)
    unfolding key_test
    key_13 q true en = sym (by_sight true ∙ stop_here 13 (is_found r) _ (ap is_found q))
    key_13 q false en = lie en

    pub key_14 : r ≡ None → (new : Bool) → not new ≡ true → 14 ≡ first_refusal (found_tests new f l)
    unfolding key_test
    key_14 q true en = lie en
    key_14 q false en = sym (by_sight false ∙ stop_here 14 (not (is_found r)) _ (ap (λ (z : Found ℕ). not (is_found z)) q))

    -- the key is not seen and is to be new, or is seen and is not to be
    pub key_passed : (new : Bool) → is_found r ≡ not new → first_refusal (full (store_of f)) ≡ first_refusal (found_tests new f l)
    unfolding key_test
    key_passed true q = sym (by_sight true ∙ go_on 13 (is_found r) _ q)
    key_passed false q = sym (by_sight false ∙ go_on 14 (not (is_found r)) _ (ap not q))

-- ---- by the model's words

known_is : (f : Flat) (t : ℕ) (r : Found ℕ) → is_found r ≡ is_some (seen_at f t r)
unfolding seen_at is_some
known_is f t (Some i) = refl
known_is f t None = refl

module _ (f : Flat) (t tx k : ℕ) (l : Visibility) (shown : Shows f t tx (versions t k (pages_in f)) l) where
  pub key_tests_are : (new : Bool) → found_tests new f l ≡ tuple_tests new tx t k (store_of f)
  unfolding found_tests tuple_tests store_of
  key_tests_are new =
      let sees = known_is f t (picked f l) ∙ ap is_some (visibility_sees f t tx k l (picked f l) shown refl).means in
      λ i. key_tests new (shown.others i) (sees i) (store_of f)

pub later_numbered : (new : Bool) (tx t k : ℕ) (s : Store) → Numbered (tuple_tests new tx t k s)
unfolding tuple_tests key_tests key_test full
later_numbered true tx t k s = (omega arith, (omega arith, (omega arith, (omega arith, tt))))
later_numbered false tx t k s = (omega arith, (omega arith, (omega arith, (omega arith, tt))))

pub call_numbered : (tx t n : ℕ) (s : Store) → Numbered (argument_tests tx t n s)
unfolding argument_tests not_open no_table too_long
call_numbered tx t n s = (omega arith, (omega arith, (omega arith, (omega arith, tt))))

-- ---- none holds

pass_one : (n : ℕ) (b : Bool) (ts : List Test) → 0 < n → first_refusal (n when b ∷ ts) ≡ 0 → (b ≡ false) × (first_refusal ts ≡ 0)
pass_one n b ts p e = by b (λ h. absurd (omega (arith, p, e, stop_here n b ts h))) (λ h. (h, sym (go_on n b ts h) ∙ e))

pass_key : (new : Bool) (f : Flat) (l : Visibility) → first_refusal (found_tests new f l) ≡ 0 → first_refusal (full (store_of f)) ≡ 0
unfolding found_tests key_tests key_test
pass_key true f l e = (pass_one 13 _ _ (omega arith) (pass_one 12 _ _ (omega arith) e).1).1
pass_key false f l e = (pass_one 14 _ _ (omega arith) (pass_one 12 _ _ (omega arith) e).1).1

is_open : (tx : ℕ) (f : Flat) → not (is_in tx (open_numbers (store_of f).active)) ≡ false → find_open tx f.opens < length f.opens
unfolding store_of
is_open tx f e =
    ⊎_elim (λ h. h) (λ h. lie (sym (not_found_open tx f.opens h) ∙ not-false (is_in tx (open_numbers f.opens)) e)) (lt_or_ge (find_open tx f.opens) (length f.opens))

-- what the first tests have shown
pub record Called (m : List ℕ) (tx t n : ℕ) : Type 0 where
  pub there : holds_store m ≡ true
  pub opened : find_open tx (flat_of m).opens < length (flat_of m).opens
  pub transaction : tx ≤ most_transaction
  pub table : t < 8
  pub short : n ≤ payload_limit

pub called : {tx t n : ℕ} {m : List ℕ} → 0 ≡ refusal_in (store_in m) (argument_tests tx t n) → Called m tx t n
unfolding argument_tests not_open no_table too_long
called {tx} {t} {n} {m} ev =
    let s : Store = store_of (flat_of m) in
    let p6 = pass_one 6 (ltb most_transaction tx) _ (omega arith) (passed_tests m (argument_tests tx t n) ev) in
    let p7 = pass_one 7 (not (is_in tx (open_numbers s.active))) _ (omega arith) p6.1 in
    let p10 = pass_one 10 (ltb 7 t) _ (omega arith) p7.1 in
    let p11 = pass_one 11 (ltb payload_limit n) _ (omega arith) p10.1 in
    record {
      there = passed_held m (argument_tests tx t n) ev;
      opened = is_open tx (flat_of m) p7.0;
      transaction = ltb-false most_transaction tx p6.0;
      table = omega (arith, ltb-false 7 t p10.0);
      short = ltb-false payload_limit n p11.0;
    }

-- and the others
pub accepts : {m : List ℕ} {tx t at k : ℕ} {bs : List ℕ} (new : Bool) (l : Visibility) → Called m tx t (length bs) → 0 ≡ first_refusal (found_tests new (flat_of m) l)
    → at ≡ place_in (flat_of m) t k → AcceptAt m tx t at k bs
unfolding full
accepts {m} new l c e p =
    let s : Store = store_of (flat_of m) in
    let there : holds_store m ≡ true = c.there in
    let p15 = pass_one 15 (leb s.capacity (length (held s.pages))) _ (omega arith) (pass_key new (flat_of m) l (sym e)) in
    let p16 = pass_one 16 (eqb s.next 4294967295) [] (omega arith) p15.1 in
    record {
      has_store = there;
      opened = c.opened;
      transaction = c.transaction;
      table = c.table;
      short = c.short;
      free = omega (arith, leb-false s.capacity (length (held s.pages)) p15.0, held_rows m there, cap_is m there);
      next = λ q. eqb-false s.next 4294967295 p16.0 (next_is m there ∙ q);
      place = p;
    }
