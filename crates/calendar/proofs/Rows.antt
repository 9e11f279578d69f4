-- Rows in their bytes: the parts of a calendar, a row read from four bytes, and a walk along the rows.
use Rattle.basics.proofs.Kit.{◌≡◌, refl, sym, ap, ◌∙◌, true, false, Bool, List, [], ◌∷◌, ◌++◌, ℕ, ◌*◌, ◌%◌, ◌≤◌, ◌<◌, length, length-append, take, drop, take_at, drop_at, leb-true, eqb-true, le-leb, lt-leb}
use Rattle.basics.proofs.Kit.{ne_eqb, arith}
use Rattle.basics.specs.Basics.{all, every}
use Rattle.basics.proofs.Facts.{and_true}
use Rattle.basics.proofs.Ands.{and_yes}
use Rattle.basics.proofs.Elements.{every_all}
use Rattle.calendar.specs.Calendar.{row_limit, row_size, rows_of, row_in, in_range, is_calendar}
use Rattle.calendar.specs.declared.Hours.{Hours}
use Rattle.std.specs.Slice.Iter.{chunks_exact_rest, chunks_exact_size, chunks_exact_steps}
use denote.Ref.{Bor}
use Rattle.std.specs.Prelude.{Some}
use Rattle.std.specs.Iterator.{AlwaysYields}
use Rattle.std.proofs.lemmas.Iterator.{YieldsList}
use Rattle.std.specs.declared.slice.ChunksExact.{ChunksExact}

-- ---- bytes

-- four bytes are a row, and what follows them is the rows behind it
row_first : (row rest : List ℕ) → length row ≡ row_size → rows_of (row ++ rest) ≡ row_in row ∷ rows_of rest
unfolding rows_of
row_first [] rest h = absurd (omega arith)
row_first (a ∷ []) rest h = absurd (omega arith)
row_first (a ∷ b ∷ []) rest h = absurd (omega arith)
row_first (a ∷ b ∷ c ∷ []) rest h = absurd (omega arith)
row_first (a ∷ b ∷ c ∷ d ∷ []) rest h = refl
row_first (a ∷ b ∷ c ∷ d ∷ e ∷ bs) rest h = absurd (omega arith)

-- fewer bytes are none
pub rows_none : (bs : List ℕ) → length bs < row_size → rows_of bs ≡ []
unfolding rows_of
rows_none [] l = refl
rows_none (a ∷ []) l = refl
rows_none (a ∷ b ∷ []) l = refl
rows_none (a ∷ b ∷ c ∷ []) l = refl
rows_none (a ∷ b ∷ c ∷ d ∷ bs) l = absurd (omega arith)

-- ---- the parts of a calendar

pub record Parts (bs : List ℕ) : Type 0 where
  pub few : length bs ≤ row_limit * row_size
  pub whole : length bs % row_size ≡ 0
  pub rows : all in_range (rows_of bs) ≡ true

pub parts : {bs : List ℕ} → is_calendar bs ≡ true → Parts bs
unfolding is_calendar
parts e = let q = every_all _ e in record { few = leb-true _ _ q.0; whole = eqb-true _ _ q.1.0; rows = q.1.1.0 }

-- the tests of a calendar one by one
pub too_many : (bs : List ℕ) → row_limit * row_size < length bs → false ≡ is_calendar bs
unfolding is_calendar every
too_many bs h = rw (lt-leb (length bs) (row_limit * row_size) h)

module _ (bs : List ℕ) (few : length bs ≤ row_limit * row_size) where
  pub not_whole : (length bs % row_size ≡ 0 → ⊥) → false ≡ is_calendar bs
  unfolding is_calendar every
  not_whole h = rw (le-leb (length bs) (row_limit * row_size) few, ne_eqb (length bs % row_size) 0 h)

  pub by_rows : length bs % row_size ≡ 0 → all in_range (rows_of bs) ≡ is_calendar bs
  unfolding is_calendar every
  by_rows h = rw (le-leb (length bs) (row_limit * row_size) few, h) (sym (and_yes (all in_range (rows_of bs))))

-- ---- a walk along the rows

-- what is asked of all rows is still to be asked of those that are left
pub record Walk (q : List Hours → Bool) (bs : List ℕ) (left : ChunksExact ℕ) : Type 0 where
  pub size : chunks_exact_size left ≡ row_size
  pub same : q (rows_of bs) ≡ q (rows_of (chunks_exact_rest left))

-- the next row of those that are left, as an iterator gives it
pub row_next : (row rest : List ℕ) {s : List ℕ} {h : Hours} {n : ℕ} → n ≡ row_size → (s ≡ row ++ rest) × (length row ≡ n) → h ≡ row_in row → rows_of s ≡ h ∷ rows_of rest
row_next row rest e p f = rw f (ap rows_of p.0 ∙ row_first row rest (p.1 ∙ e))

-- fewer bytes than a row's give none
none_given : (bs : List ℕ) (s : ChunksExact ℕ) → chunks_exact_size s ≡ row_size → chunks_exact_rest s ≡ bs → length bs < row_size → (x : Bor (List ℕ)) (t : ChunksExact ℕ)
    → chunks_exact_steps s (Some x) t → ⊥
none_given bs s n e l x t p = omega (arith, n, p.1.1, ap length e, ap length p.1.0, length-append x.now (chunks_exact_rest t))

-- an iterator over the parts of four bytes gives the rows, one after another
given : (bs : List ℕ) (s : ChunksExact ℕ) → chunks_exact_size s ≡ row_size → chunks_exact_rest s ≡ bs → AlwaysYields (chunks_exact_steps {A = ℕ}) (λ x. row_in x.now) s (rows_of bs)
unfolding rows_of
given [] s n e = none_given _ s n e (omega arith)
given (a ∷ []) s n e = none_given _ s n e (omega arith)
given (a ∷ b ∷ []) s n e = none_given _ s n e (omega arith)
given (a ∷ b ∷ c ∷ []) s n e = none_given _ s n e (omega arith)
given (a ∷ b ∷ c ∷ d ∷ bs) s n e = (
  (λ t p. absurd (omega (arith, n, p.1.0, ap length e))),
  (λ x t p. let k = p.1.1 ∙ n in
      let f = sym p.1.0 ∙ e in (
        ap row_in (sym (take_at x.now (chunks_exact_rest t) row_size k) ∙ ap (take row_size) f),
        given bs t (p.0 ∙ n) (sym (drop_at x.now (chunks_exact_rest t) row_size k) ∙ ap (drop row_size) f),
      )),
)

pub rows_given : {s : ChunksExact ℕ} (bs : List ℕ) → chunks_exact_size s ≡ row_size → chunks_exact_rest s ≡ bs → YieldsList (chunks_exact_steps {A = ℕ}) (λ x. row_in x.now) s (rows_of bs)
rows_given {s} bs n e = record { runs = given bs s n e }

module _ {q : List Hours → Bool} {bs : List ℕ} {u : ChunksExact ℕ} (w : Walk q bs u) where
  pub walk_next : {v : ChunksExact ℕ} → chunks_exact_size v ≡ chunks_exact_size u → q (rows_of (chunks_exact_rest u)) ≡ q (rows_of (chunks_exact_rest v)) → Walk q bs v
  walk_next s e = record { size = s ∙ w.size; same = w.same ∙ e }

  pub walk_end : length (chunks_exact_rest u) < chunks_exact_size u → q (rows_of bs) ≡ q []
  walk_end h = w.same ∙ ap q (rows_none (chunks_exact_rest u) (omega (arith, w.size)))

-- a row of a calendar, as a walk along its rows comes to it
pub row_ranged : {bs : List ℕ} {u : ChunksExact ℕ} {h : Hours} {hs : List Hours} → Parts bs → Walk (all in_range) bs u → rows_of (chunks_exact_rest u) ≡ h ∷ hs → in_range h ≡ true
unfolding all
row_ranged {hs = hs} p w e = (and_true _ (all in_range hs) (ap (all in_range) (sym e) ∙ sym w.same ∙ p.rows)).0
