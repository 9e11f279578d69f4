-- What a walk over a page's tuples makes of them: their marks tested, their rows put into columns.
use Rattle.basics.proofs.Kit.{◌≡◌, refl, sym, ap, ◌∙◌, Bool, true, false, List, [], ◌∷◌, ◌++◌, append_assoc, append-nil, map, ℕ, ◌+◌, length, take, drop, take-append-drop}
use Rattle.basics.specs.Basics.{all}
use Rattle.basics.proofs.Lists.{map_append}
use Rattle.block_forms.specs.Tuple.{Tuple}
use Rattle.block_forms.specs.Bytes.{payload_in, tuple_of}
use Rattle.block_forms.specs.declared.Record.{Record}
use Rattle.block_reader.proofs.Walk.{Handed}
use Rattle.image_rows.specs.Rows.{Row, rows_of, mark_ok}
use Rattle.image_rows.specs.Columns.{bare}
use Rattle.basics.proofs.Iterations.{all_yes, all_not}

-- ---- one turn

module _ {xs : List ℕ} {ts : List Tuple} {at i : ℕ} {r : Record} {next : ℕ} (f : Handed xs ts at i r next) (t : ℕ) where
  rows_first : rows_of t (drop i ts) ≡ (t, tuple_of r (payload_in xs r)) ∷ rows_of t (drop (i + 1) ts)
  unfolding rows_of
  rows_first = ap (rows_of t) f.left

  -- the mark of the record that was found
  module _ {b : Bool} (m : (u : ℕ) (p : List ℕ) → length p ≡ r.len → b ≡ mark_ok (u, tuple_of r p)) where
    pub mark_right : b ≡ true → all mark_ok (rows_of t (drop i ts)) ≡ all mark_ok (rows_of t (drop (i + 1) ts))
    mark_right q = all_yes mark_ok rows_first (sym (m t (payload_in xs r) f.found.payload) ∙ q)

    pub mark_wrong : b ≡ false → all mark_ok (rows_of t (drop i ts)) ≡ false
    mark_wrong q = all_not mark_ok rows_first (sym (m t (payload_in xs r) f.found.payload) ∙ q)

pub marks_end : (t : ℕ) (l : List Tuple) → l ≡ [] → all mark_ok (rows_of t l) ≡ true
unfolding rows_of all
marks_end t l e = rw e

-- ---- the rows that are put into columns

pub rows_append : (t : ℕ) (xs ys : List Tuple) → rows_of t (xs ++ ys) ≡ rows_of t xs ++ rows_of t ys
unfolding rows_of
rows_append t [] ys = refl
rows_append t (x ∷ xs) ys = ap (λ (l : List Row). (t, x) ∷ l) (rows_append t xs ys)

module _ (t i : ℕ) (ts : List Tuple) (front before : List Row) (e : before ≡ front ++ map bare (rows_of t (take i ts))) where
  -- one row more
  pub row_next : (after : List Row) (r : Record) (p : List ℕ) → take (i + 1) ts ≡ take i ts ++ (tuple_of r p ∷ []) → after ≡ before ++ ((t, tuple_of r []) ∷ [])
      → after ≡ front ++ map bare (rows_of t (take (i + 1) ts))
  unfolding rows_of tuple_of
  row_next after r p d a =
      let x : Tuple = tuple_of r p in
      let n = ap (λ (l : List Tuple). front ++ map bare (rows_of t l)) d in
      let m : map bare (rows_of t (take i ts ++ (x ∷ []))) ≡ map bare (rows_of t (take i ts)) ++ ((t, tuple_of r []) ∷ []) =
      rw (rows_append t (take i ts) (x ∷ []), map_append bare (rows_of t (take i ts)) ((t, x) ∷ [])) in
      a ∙ rw e (append_assoc front (map bare (rows_of t (take i ts))) ((t, tuple_of r []) ∷ [])) ∙ sym (n ∙ ap (λ (l : List Row). front ++ l) m)

  -- none left
  pub row_last : drop i ts ≡ [] → before ≡ front ++ map bare (rows_of t ts)
  row_last d =
      let k : take i ts ≡ ts = sym (append-nil (take i ts)) ∙ ap (λ (l : List Tuple). take i ts ++ l) (sym d) ∙ take-append-drop i ts in
      e ∙ ap (λ (l : List Tuple). front ++ map bare (rows_of t l)) k

-- none yet
pub row_first : (t : ℕ) (ts : List Tuple) (front : List Row) → front ≡ front ++ map bare (rows_of t (take 0 ts))
unfolding rows_of
row_first t ts front = sym (append-nil front)
