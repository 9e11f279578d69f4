-- Where statements are in order, each transaction has one row of statement 0, so these rows count the transactions.
use Rattle.basics.proofs.Kit.{◌≡◌, refl, sym, ap, ◌∙◌, true, false, ◌&&◌, not, List, [], ◌∷◌, ℕ, ◌+◌, ◌<◌, eqb, length, get_or, eqb-true, eqb-false, not-true}
use Rattle.basics.proofs.Kit.{arith}
use Rattle.basics.specs.Basics.{if'◌then◌else◌, any, is_in, distinct, one_if}
use Rattle.basics.proofs.Facts.{by, and_true}
use Rattle.block_forms.specs.Tuple.{Owner, committed, tentative}
use Rattle.image_rows.specs.Rows.{Row, is_own, add_owner, transactions}
use Rattle.image_rows.specs.Columns.{row_at, rows_in}
use Rattle.image_rows.specs.Chains.{is_start, starts}
use Rattle.basics.proofs.Ands.{and_no}
use Rattle.basics.proofs.Searches.{any_cons, any_tab, tab_any}
use Rattle.image_rows.proofs.Owners.{in_transactions}
use Rattle.image_rows.proofs.Totals.{total, total_same, total_sum, total_none, count_total}
use Rattle.image_rows.proofs.Ranks.{tx_of, st_of, own, own_in, own_out, placed, Ordered, placed_one}
use Rattle.image_rows.proofs.Order.{own_row}
use Rattle.basics.proofs.Elements.{in_head, in_weak}

-- ---- the list of transactions

added_distinct : (o : Owner) (ts : List ℕ) → distinct ts ≡ true → distinct (add_owner o ts) ≡ true
unfolding add_owner distinct if'◌then◌else◌
added_distinct committed ts d = d
added_distinct (tentative t s) ts d = by (is_in t ts) (λ h. rw h d) (λ h. rw (h, h) d)

pub transactions_distinct : (rs : List Row) → distinct (transactions rs) ≡ true
unfolding transactions distinct
transactions_distinct [] = refl
transactions_distinct (r ∷ rs) = added_distinct r.1.owner (transactions rs) (transactions_distinct rs)

-- a start of t, or of one of ts
start_or : (t o : ℕ) (ts : List ℕ) → is_in t ts ≡ false
    → one_if (is_start o && is_in (tx_of o) (t ∷ ts)) ≡ one_if (own t o && eqb (st_of o) 0) + one_if (is_start o && is_in (tx_of o) ts)
unfolding is_start own is_in
start_or t o ts h =
    rw (any_cons (eqb (tx_of o)) t ts) (
    by (eqb o 0) (λ a. rw a) (λ a.
    by (eqb (st_of o) 0)
    (λ b. by (eqb (tx_of o) t) (λ c. rw (a, b, c, eqb-true (tx_of o) t c, h)) (λ c. rw (a, b, c) (omega arith)))
    (λ b. rw (a, b, and_no))))

begun : (o : ℕ) → is_start o ≡ true → own (tx_of o) o ≡ true
unfolding is_start
begun o e = own_in (tx_of o) o (eqb-false o 0 (not-true _ (and_true (not (eqb o 0)) (eqb (st_of o) 0) e).0)) refl

module _ (os ns : List ℕ) (n : ℕ) (w : Ordered os ns n) where
  abbrev rows : List Row
  rows = rows_in [] [] os [] n

  listed : (ts : List ℕ) → distinct ts ≡ true → ((t : ℕ) → is_in t ts ≡ true → placed os ns n t 0 ≡ 1)
      → total (λ k. one_if (is_start (get_or os k 0) && is_in (tx_of (get_or os k 0)) ts)) n ≡ length ts
  unfolding distinct is_in any placed
  listed [] d h = total_none _ n (λ k l. rw (and_no (is_start (get_or os k 0))))
  listed (t ∷ ts) d h =
      let v = and_true (not (is_in t ts)) (distinct ts) d in
      total_sum _ _ _ n (λ k l. start_or t (get_or os k 0) ts (not-true _ v.0))
      ∙ omega (arith, h t (in_head t ts), listed ts v.1 (λ u i. h u (in_weak u t ts i)))

  row_listed : (t k : ℕ) → k < n → own t (get_or os k 0) ≡ true → is_in t (transactions rows) ≡ true
  unfolding rows_in
  row_listed t k l e = in_transactions t rows ∙ any_tab (is_own t) (row_at [] [] os []) 0 n k (omega arith) (omega arith) (own_row os [] n t k ∙ e)

  one_start : (t : ℕ) → is_in t (transactions rows) ≡ true → placed os ns n t 0 ≡ 1
  unfolding rows_in
  one_start t e =
      tab_any (is_own t) (row_at [] [] os []) 0 n (sym (in_transactions t rows) ∙ e) (λ k l u.
      let v = own_out t (get_or os k 0) (sym (own_row os [] n t k) ∙ u) in
      ap (λ z. placed os ns n z 0) (sym v.1) ∙ placed_one os ns n w k 0 (omega arith) v.0 (omega arith))

  pub starts_transactions : starts os n ≡ length (transactions rows)
  unfolding starts is_start
  starts_transactions =
      count_total is_start (λ i. get_or os i 0) n
      ∙ total_same _ _ n (λ k l. by (is_start (get_or os k 0)) (λ u. rw (u, row_listed (tx_of (get_or os k 0)) k l (begun (get_or os k 0) u))) (λ u. rw u))
      ∙ listed (transactions rows) (transactions_distinct rows) one_start
