-- Rows that are changed but for what a test looks at: the test answers the same. So the tests read columns with the others missing, and rows
-- without payloads.
use Rattle.basics.proofs.Kit.{◌≡◌, refl, sym, ap, ◌∙◌, false, ◌&&◌, List, [], ◌∷◌, map, ℕ, ◌≤◌, leb, ltb, length, take, get_or}
use Rattle.basics.specs.Basics.{if'◌then◌else◌, all, every, paired, how_many, distinct}
use Rattle.block_forms.specs.Tuple.{Owner, committed, tentative}
use Rattle.image_rows.specs.Rows.{Row, number, is_by, is_own, follows, starts_well, is_below, earlier_by, statement_is, statement_ok, transactions, open_limit}
use Rattle.basics.proofs.Facts.{by}
use Rattle.basics.proofs.Ands.{and_no}
use Rattle.image_rows.specs.Chains.{starts}
use Rattle.image_rows.proofs.Counts.{starts_transactions}
use Rattle.image_rows.proofs.Order.{statements_ordered}
use Rattle.image_rows.specs.Columns.{coded_owner, coded, row_at, rows_in, columns_ok}
use Rattle.basics.proofs.Ands.{and_yes, and_assoc}
use Rattle.basics.proofs.Tabs.{take_tab, tab_self}
use Rattle.basics.proofs.Tabs.{map_tab}
use Rattle.basics.proofs.Maps.{all_kept, count_kept}

-- ---- rows with the same owners, or numbers, or both

module _ (h : Row → Row) (o : (r : Row) → (h r).1.owner ≡ r.1.owner) where
  pub transactions_kept : (rs : List Row) → transactions (map h rs) ≡ transactions rs
  unfolding transactions
  transactions_kept [] = refl
  transactions_kept (r ∷ rs) = rw (o r, transactions_kept rs)

module _ (h : Row → Row) (n : (r : Row) → number (h r) ≡ number r) where
  pub numbers_kept : (rs : List Row) → map number (map h rs) ≡ map number rs
  numbers_kept [] = refl
  numbers_kept (r ∷ rs) = rw (n r, numbers_kept rs)

  pub below_kept : (next : ℕ) (rs : List Row) → all (is_below next) (map h rs) ≡ all (is_below next) rs
  unfolding is_below
  below_kept next rs = all_kept (is_below next) (is_below next) h (λ r. rw (n r)) rs

module _ (h : Row → Row) (o : (r : Row) → (h r).1.owner ≡ r.1.owner) (n : (r : Row) → number (h r) ≡ number r) where
  earlier_kept : (t k : ℕ) (rs : List Row) → how_many (earlier_by t k) (map h rs) ≡ how_many (earlier_by t k) rs
  unfolding earlier_by is_own
  earlier_kept t k rs = count_kept (earlier_by t k) (earlier_by t k) h (λ r i. is_by t (o r i) && ltb (n r i) k) rs

  statement_kept : (rs : List Row) (k : ℕ) (w : Owner) → statement_is (map h rs) k w ≡ statement_is rs k w
  unfolding statement_is
  statement_kept rs k committed = refl
  statement_kept rs k (tentative t s) = rw (earlier_kept t k rs)

  pub statements_kept : (rs : List Row) → all (statement_ok (map h rs)) (map h rs) ≡ all (statement_ok rs) rs
  unfolding statement_ok
  statements_kept rs =
      all_kept (statement_ok (map h rs)) (statement_ok rs) h (λ r. rw (n r, o r) (statement_kept rs (number r) r.1.owner)) rs

-- ---- columns that are missing

-- only number and owner of a row
abbrev thin : Row → Row
thin r = (0, record { key = 0; number = r.1.number; owner = r.1.owner; mark = false; payload = [] })

abbrev only_number : Row → Row
only_number r = (0, record { key = 0; number = r.1.number; owner = committed; mark = false; payload = [] })

abbrev only_owner : Row → Row
only_owner r = (0, record { key = 0; number = 0; owner = r.1.owner; mark = false; payload = [] })

module _ (ps ns os ms : List ℕ) (n : ℕ) where
  thin_rows : rows_in [] ns os [] n ≡ map thin (rows_in ps ns os ms n)
  unfolding rows_in row_at coded
  thin_rows = map_tab thin (row_at ps ns os ms) 0 n

  number_rows : rows_in [] ns [] [] n ≡ map only_number (rows_in ps ns os ms n)
  unfolding rows_in row_at coded coded_owner if'◌then◌else◌
  number_rows = map_tab only_number (row_at ps ns os ms) 0 n

  owner_rows : rows_in [] [] os [] n ≡ map only_owner (rows_in ps ns os ms n)
  unfolding rows_in row_at coded
  owner_rows = map_tab only_owner (row_at ps ns os ms) 0 n

  pub below_columns : (next : ℕ) → all (is_below next) (rows_in [] ns [] [] n) ≡ all (is_below next) (rows_in ps ns os ms n)
  unfolding number
  below_columns next = rw number_rows (below_kept only_number (λ r. refl) next (rows_in ps ns os ms n))

  pub transactions_columns : transactions (rows_in [] [] os [] n) ≡ transactions (rows_in ps ns os ms n)
  transactions_columns = rw owner_rows (transactions_kept only_owner (λ r. refl) (rows_in ps ns os ms n))

  pub statements_columns : all (statement_ok (rows_in [] ns os [] n)) (rows_in [] ns os [] n) ≡ all (statement_ok (rows_in ps ns os ms n)) (rows_in ps ns os ms n)
  unfolding number
  statements_columns = rw thin_rows (statements_kept thin (λ r. refl) (λ r. refl) (rows_in ps ns os ms n))

module _ (ps ns os ms : List ℕ) (n : ℕ) (h : n ≤ length ns) where
  numbers_columns : map number (rows_in ps ns os ms n) ≡ take n ns
  unfolding number rows_in row_at coded
  numbers_columns = sym (map_tab number (row_at ps ns os ms) 0 n) ∙ sym (take_tab (λ i. get_or ns i 0) 0 n (length ns) h) ∙ ap (take n) (tab_self ns)

  -- each test with the columns that it looks at
  pub columns_tests : (next : ℕ) →
      columns_ok next (rows_in ps ns os ms n)
      ≡ ((paired follows (rows_in ps ns os ms n) && starts_well (rows_in ps ns os ms n))
      && (distinct (take n ns)
      && (all (is_below next) (rows_in [] ns [] [] n)
      && (leb (length (transactions (rows_in [] [] os [] n))) open_limit && all (statement_ok (rows_in [] ns os [] n)) (rows_in [] ns os [] n)))))
  unfolding columns_ok every
  columns_tests next =
      rw (
        and_assoc (paired follows (rows_in ps ns os ms n)) (starts_well (rows_in ps ns os ms n)),
        below_columns ps ns os ms n next,
        transactions_columns ps ns os ms n,
        statements_columns ps ns os ms n,
        ← numbers_columns,
        and_yes,
      )

  -- the tests in the code's order, which counts transactions by their first statements
  pub tests_in_turn : (next : ℕ) →
      columns_ok next (rows_in ps ns os ms n)
      ≡ ((paired follows (rows_in ps ns os ms n) && starts_well (rows_in ps ns os ms n))
      && (distinct (take n ns)
      && (all (is_below next) (rows_in [] ns [] [] n) && (all (statement_ok (rows_in [] ns os [] n)) (rows_in [] ns os [] n) && leb (starts os n) open_limit))))
  tests_in_turn next =
      columns_tests next ∙ by (distinct (take n ns))
      (λ d. by (all (statement_ok (rows_in [] ns os [] n)) (rows_in [] ns os [] n))
      (λ t. rw (d, t, ← starts_transactions _ _ _ (statements_ordered _ _ _ h d t), and_yes))
      (λ t. rw (d, t, and_no)))
      (λ d. rw d)
