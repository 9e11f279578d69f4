-- The tables of the pages do not fall: rows rise by table, and every page has a row.
use Rattle.basics.proofs.Kit.{◌≡◌, refl, ◌∙◌, Bool, true, ◌&&◌, not, List, [], ◌∷◌, ◌++◌, ℕ, ◌≤◌, leb, eqb, ltb, length, le-leb, leb-true, eqb-true, ltb-true, arith}
use Rattle.basics.specs.Basics.{if'◌then◌else◌, all, paired}
use Rattle.basics.proofs.Facts.{by, AllOf, and_true}
use Rattle.basics.proofs.Lists.{all_weak, all_join}
use Rattle.block_forms.specs.Tuple.{Tuple}
use Rattle.image_rows.specs.Rows.{Row, rows_of, is_at, is_lower, follows}
use Rattle.image.specs.Stages.{StoredPage, rows_of_pages}
use Rattle.memory_layout.specs.declared.Entry.{Entry}
use Rattle.call_recovery.specs.Loading.{entry_for, TablesRise}
use Rattle.call_recovery.proofs.Tested.{PageOk}

-- ---- rows

at_table : (t k : ℕ) (r : Row) → is_at t k r ≡ true → r.0 ≡ t
unfolding is_at
at_table t k r e = eqb-true r.0 t (and_true (eqb r.0 t) (eqb r.1.key k) e).0

lower_table : (r s : Row) → is_lower r s ≡ true → r.0 ≤ s.0
unfolding is_lower
lower_table r s h =
    by (ltb r.0 s.0)
    (λ e. omega (arith, ltb-true r.0 s.0 e))
    (λ e.
    let k : (eqb r.0 s.0 && ltb r.1.key s.1.key) ≡ true = rw e at h in
    omega (arith, eqb-true r.0 s.0 (and_true (eqb r.0 s.0) (ltb r.1.key s.1.key) k).0))

follows_table : (r s : Row) → follows r s ≡ true → r.0 ≤ s.0
unfolding follows if'◌then◌else◌
follows_table r s h =
    by (is_at s.0 s.1.key r)
    (λ e. omega (arith, at_table s.0 s.1.key r e))
    (λ e.
    let k : (is_lower r s && not s.1.mark) ≡ true = rw e at h in
    lower_table r s (and_true (is_lower r s) (not s.1.mark) k).0)

-- behind the rows of a page
rest_follows : (t : ℕ) (x : Tuple) (xs : List Tuple) (rs : List Row) → paired follows ((t, x) ∷ (rows_of t xs ++ rs)) ≡ true
    → (y : Tuple) × (paired follows ((t, y) ∷ rs) ≡ true)
unfolding rows_of paired
rest_follows t x [] rs h = (x, h)
rest_follows t x (z ∷ xs) rs h = rest_follows t z xs rs (and_true (follows (t, x) (t, z)) (paired follows ((t, z) ∷ (rows_of t xs ++ rs))) h).1

-- ---- pages

-- the tables of the pages rise from u on
abbrev RisesFrom : ℕ → List StoredPage → Type 0
RisesFrom u [] = Unit {0}
RisesFrom u (p ∷ ps) = (u ≤ p.table) × RisesFrom p.table ps

page_rises : (r : Row) (t : ℕ) (ts : List Tuple) (rs : List Row) → 1 ≤ length ts → paired follows (r ∷ (rows_of t ts ++ rs)) ≡ true
    → (r.0 ≤ t) × ((y : Tuple) × (paired follows ((t, y) ∷ rs) ≡ true))
unfolding rows_of paired
page_rises r t [] rs l h = absurd (omega arith)
page_rises r t (x ∷ xs) rs l h =
    let a = and_true (follows r (t, x)) (paired follows ((t, x) ∷ (rows_of t xs ++ rs))) h in
    (follows_table r (t, x) a.0, rest_follows t x xs rs a.1)

page_first : (t : ℕ) (ts : List Tuple) (rs : List Row) → 1 ≤ length ts → paired follows (rows_of t ts ++ rs) ≡ true → (y : Tuple) × (paired follows ((t, y) ∷ rs) ≡ true)
unfolding rows_of
page_first t [] rs l h = absurd (omega arith)
page_first t (x ∷ xs) rs l h = rest_follows t x xs rs h

rises : (r : Row) (ps : List StoredPage) → AllOf PageOk ps → paired follows (r ∷ rows_of_pages ps) ≡ true → RisesFrom r.0 ps
unfolding rows_of_pages
rises r [] a h = tt
rises r (p ∷ ps) a h =
    let q = page_rises r p.table p.tuples (rows_of_pages ps) a.0.filled h in (q.0, rises (p.table, q.1.0) ps a.1 q.1.1)

all_rise : (ps : List StoredPage) → AllOf PageOk ps → paired follows (rows_of_pages ps) ≡ true → RisesFrom 0 ps
unfolding rows_of_pages
all_rise [] a h = tt
all_rise (p ∷ ps) a h =
    let q = page_first p.table p.tuples (rows_of_pages ps) a.0.filled h in (omega arith, rises (p.table, q.0) ps a.1 q.1)

-- ---- entries

entry_table : (p : StoredPage) → leb (entry_for p).table p.table ≡ true
unfolding entry_for
entry_table p = le-leb p.table p.table (omega arith)

tables_from : (u : ℕ) (es : List Entry) (ps : List StoredPage) → all (λ (e : Entry). leb e.table u) es ≡ true → RisesFrom u ps → TablesRise es ps
unfolding TablesRise all
tables_from u es [] a r = tt
tables_from u es (p ∷ ps) a r =
    let f : Entry → Bool = λ e. leb e.table p.table in
    let b = all_weak (λ (e : Entry). leb e.table u) f (λ e h. le-leb e.table p.table (omega (arith, r.0, leb-true e.table u h))) es a in
    (b, tables_from p.table (es ++ entry_for p ∷ []) ps (all_join f es (entry_for p ∷ []) ∙ rw (b, entry_table p)) r.1)

pub tables_rise : (ps : List StoredPage) → AllOf PageOk ps → paired follows (rows_of_pages ps) ≡ true → TablesRise [] ps
unfolding all
tables_rise ps a h = tables_from 0 [] ps refl (all_rise ps a h)
