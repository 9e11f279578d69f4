-- The tests of statements that the code makes are the definition's, and count the transactions.
use Rattle.basics.proofs.Kit.{◌≡◌, refl, sym, ap, ◌∙◌, true, ◌&&◌, List, [], ℕ, suc, ◌≤◌, ◌<◌, zero, ◌-◌, eqb, ltb, length, take, get_or, length-take, get_or-take, lt-ltb, eqb-true, eq-eqb}
use Rattle.basics.proofs.Kit.{ne_eqb, eqb-false, ltb-true, arith}
use Rattle.basics.specs.Basics.{if'◌then◌else◌, all, how_many, distinct, one_if}
use Rattle.basics.proofs.Facts.{by, lie, and_true}
use Rattle.image_rows.specs.Rows.{Row, number, is_by, is_own, earlier_by, statement_is, statement_ok}
use Rattle.image_rows.specs.Columns.{coded_owner, coded, row_at, rows_in}
use Rattle.image_rows.specs.Chains.{last_by, keys_once, is_there_below, is_next, statements_rise}
use Rattle.image_rows.proofs.Chains.{last_le, last_passes, last_there}
use Rattle.image_rows.proofs.Keys.{once_in, once_out}
use Rattle.basics.proofs.Members.{distinct_out}
use Rattle.basics.proofs.Searches.{all_tab, tab_all}
use Rattle.image_rows.proofs.Totals.{total_same, count_total}
use Rattle.image_rows.proofs.Ranks.{tx_of, st_of, own, rank, Before, Ordered, Ranked, ranked_ordered, ordered_ranked, same_row}

-- ---- the code's tests

module _ (os ns : List ℕ) (n : ℕ) where
  next_before : (k : ℕ) → is_next ns os n k ≡ true → (st_of (get_or os k 0) ≡ 0 → ⊥) → Before os ns n k
  unfolding is_next is_there_below
  next_before k e s =
      let f = eqb (get_or os k 0 - 1) in
      let u : is_there_below ns (get_or ns k 0) (last_by f os n) ≡ true = rw (ne_eqb _ _ s) at e in
      there (last_by f os n) refl u
    where
      there : (j : ℕ) → last_by (eqb (get_or os k 0 - 1)) os n ≡ j → is_there_below ns (get_or ns k 0) j ≡ true → Before os ns n k
      there zero e u = lie u
      there (suc j) e u =
          let f = eqb (get_or os k 0 - 1) in
          record {
            row = j;
            there = omega (arith, last_le f os n);
            code = sym (eqb-true _ _ (last_passes f os n j e));
            lower = ltb-true _ _ u;
          }

  pub tests_ordered : keys_once os n ≡ true → statements_rise ns os n ≡ true → Ordered os ns n
  unfolding statements_rise
  tests_ordered e r = record {
    once = once_out os n e;
    before = λ k l. next_before k (tab_all (is_next ns os n) (λ i. i) 0 n r k (omega arith) (omega arith));
  }

  module _ (w : Ordered os ns n) where
    below_found : (k j : ℕ) → k < n → (st_of (get_or os k 0) ≡ 0 → ⊥) → last_by (eqb (get_or os k 0 - 1)) os n ≡ suc j → ltb (get_or ns j 0) (get_or ns k 0) ≡ true
    below_found k j l s e =
        let f = eqb (get_or os k 0 - 1) in
        let b = w.before k l s in
        let c = eqb-true _ _ (last_passes f os n j e) in
        let q = same_row os ns n w j b.row (omega (arith, last_le f os n)) b.there (λ z. omega (arith, b.code)) (sym c ∙ sym b.code) in
        lt-ltb (get_or ns j 0) (get_or ns k 0) (omega (arith, b.lower))

    before_next : (k : ℕ) → k < n → is_next ns os n k ≡ true
    unfolding is_next is_there_below
    before_next k l =
        by (eqb (st_of (get_or os k 0)) 0)
        (λ t. rw t)
        (λ t. let s = eqb-false (st_of (get_or os k 0)) 0 t in
        let f = eqb (get_or os k 0 - 1) in
        let b = w.before k l s in
        let h = last_there f os n b.row b.there (eq-eqb _ _ (sym b.code)) in
        let e : last_by f os n ≡ suc (last_by f os n - 1) = omega arith in
        rw t (ap (is_there_below ns (get_or ns k 0)) e ∙ below_found k (last_by f os n - 1) l s e))

    pub ordered_rise : statements_rise ns os n ≡ true
    unfolding statements_rise
    ordered_rise = all_tab (is_next ns os n) (λ i. i) 0 n (λ k a b. before_next k (omega arith))

-- ---- the definition

module _ (os ns : List ℕ) (n : ℕ) where
  abbrev rows : List Row
  rows = rows_in [] ns os [] n

  pub own_row : (t k : ℕ) → is_own t (row_at [] ns os [] k) ≡ own t (get_or os k 0)
  unfolding is_own is_by row_at coded coded_owner own if'◌then◌else◌
  own_row t k = by (eqb (get_or os k 0) 0) (λ u. rw u) (λ u. rw u)

  row_rank : (t m : ℕ) → how_many (earlier_by t m) rows ≡ rank os ns n t m
  unfolding rows_in rank earlier_by number row_at coded
  row_rank t m = count_total (earlier_by t m) (row_at [] ns os []) n ∙ total_same _ _ n (λ k l. earlier k)
    where
      earlier : (k : ℕ) → one_if (earlier_by t m (row_at [] ns os [] k)) ≡ one_if (own t (get_or os k 0) && ltb (get_or ns k 0) m)
      earlier k = ap (λ b. one_if (b && ltb (get_or ns k 0) m)) (own_row t k)

  row_none : (k : ℕ) → get_or os k 0 ≡ 0 → statement_ok rows (row_at [] ns os [] k) ≡ true
  unfolding statement_ok statement_is number row_at coded coded_owner if'◌then◌else◌
  row_none k e = rw (eq-eqb _ _ e)

  row_some : (k : ℕ) → (get_or os k 0 ≡ 0 → ⊥) → statement_ok rows (row_at [] ns os [] k) ≡ eqb (st_of (get_or os k 0)) (rank os ns n (tx_of (get_or os k 0)) (get_or ns k 0))
  unfolding statement_ok statement_is number row_at coded coded_owner if'◌then◌else◌
  row_some k z = rw (ne_eqb _ _ z, row_rank)

  statements_ranked : all (statement_ok rows) rows ≡ true → Ranked os ns n
  unfolding rows_in
  statements_ranked e k l z = eqb-true _ _ (sym (row_some k z) ∙ tab_all (statement_ok rows) (row_at [] ns os []) 0 n e k (omega arith) (omega arith))

  ranked_statements : Ranked os ns n → all (statement_ok rows) rows ≡ true
  unfolding rows_in
  ranked_statements r =
      all_tab (statement_ok rows) (row_at [] ns os []) 0 n (λ k a l.
      by (eqb (get_or os k 0) 0) (λ u. row_none k (eqb-true _ _ u)) (λ u. let z = eqb-false _ _ u in row_some k z ∙ eq-eqb _ _ (r k (omega arith) z)))

  module _ (fits : n ≤ length ns) (d : distinct (take n ns) ≡ true) where
    numbers_apart : (j k : ℕ) → j < k → k < n → get_or ns j 0 ≡ get_or ns k 0 → ⊥
    numbers_apart j k l h e =
        distinct_out (take n ns) d j k l (rw length-take (omega arith)) (get_or-take n ns j 0 (omega arith) ∙ e ∙ sym (get_or-take n ns k 0 h))

    pub statements_ordered : all (statement_ok rows) rows ≡ true → Ordered os ns n
    statements_ordered e = ranked_ordered os ns n numbers_apart (statements_ranked e)

    -- both tests of the code together
    pub statements_tests : (keys_once os n && statements_rise ns os n) ≡ all (statement_ok rows) rows
    statements_tests =
        by (all (statement_ok rows) rows)
        (λ t. let w = statements_ordered t in rw (t, once_in os n w.once, ordered_rise os ns n w))
        (λ t. rw t (by (keys_once os n && statements_rise ns os n)
        (λ u. let v = and_true (keys_once os n) (statements_rise ns os n) u in
        lie (sym t ∙ ranked_statements (ordered_ranked os ns n (tests_ordered os ns n v.0 v.1))))
        (λ u. u)))
