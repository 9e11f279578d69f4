-- A record as a row, put into columns; and its delete mark.
use Rattle.basics.proofs.Kit.{◌≡◌, refl, ◌∙◌, Bool, true, false, not, List, [], ◌∷◌, ◌++◌, ℕ, ◌+◌, ◌*◌, ◌%◌, ◌<◌, ◌/◌, ◌-◌, leb, eqb, length, set, get_or-set_same}
use Rattle.basics.proofs.Kit.{get_or-set_other, ne_eqb, arith}
use mir.Val.{bool_byte}
use Rattle.basics.specs.Basics.{if'◌then◌else◌}
use Rattle.basics.proofs.Facts.{by}
use Rattle.block_forms.specs.Limits.{statement_limit}
use Rattle.block_forms.specs.Tuple.{tentative, is_tentative}
use Rattle.block_forms.specs.Bytes.{owner_is, tuple_of}
use Rattle.block_forms.specs.declared.Owner.TheVariants.{Committed, Tentative}
use Rattle.block_forms.specs.declared.Record.{Record}
use Rattle.image_rows.specs.Rows.{mark_ok}
use Rattle.image_rows.specs.Columns.{coded_owner, coded, row_at, rows_in, ColumnsHold}
use Rattle.basics.proofs.Tabs.{tab_cong, tab_add}
use Rattle.basics.proofs.Elements.{empty_length}

-- ---- the row of a record

pub owner_coded : {t s o : ℕ} → o ≡ 1 + t * statement_limit + s → s < statement_limit → coded_owner o ≡ tentative t s
unfolding coded_owner if'◌then◌else◌
owner_coded {t} {s} {o} e h =
    let a : (o - 1) / statement_limit ≡ t = omega arith in
    let b : (o - 1) % statement_limit ≡ s = omega arith in
    rw (ne_eqb o 0 (λ z. omega arith), a, b)

mark_coded : (m : Bool) → leb 1 (bool_byte m) ≡ m
mark_coded true = refl
mark_coded false = refl

pub record_row : (t p o : ℕ) (r : Record) → p ≡ t * 4294967296 + r.key → r.key < 4294967296 → coded_owner o ≡ owner_is r.owner
    → coded p r.number o (bool_byte r.mark) ≡ (t, tuple_of r [])
unfolding coded tuple_of
record_row t p o r e h w =
    let a : p / 4294967296 ≡ t = omega arith in
    let b : p % 4294967296 ≡ r.key = omega arith in
    let m = mark_coded r.mark in
    λ i. (a i, record { key = b i; number = r.number; owner = w i; mark = m i; payload = [] })

-- ---- one row more

module _ (ps ns os ms : List ℕ) (k p n o m : ℕ) where
  same_below : (j : ℕ) → j < k → row_at (set ps k p) (set ns k n) (set os k o) (set ms k m) j ≡ row_at ps ns os ms j
  unfolding row_at
  same_below j h =
      let d : j ≡ k → ⊥ = λ e. omega arith in
      rw (get_or-set_other ps k j p 0 d, get_or-set_other ns k j n 0 d, get_or-set_other os k j o 0 d, get_or-set_other ms k j m 0 d)

  here : ColumnsHold ps ns os ms (k + 1) → row_at (set ps k p) (set ns k n) (set os k o) (set ms k m) k ≡ coded p n o m
  unfolding row_at
  here h = rw (
    get_or-set_same ps k p 0 (omega (arith, h.places)),
    get_or-set_same ns k n 0 (omega (arith, h.numbers)),
    get_or-set_same os k o 0 (omega (arith, h.owners)),
    get_or-set_same ms k m 0 (omega (arith, h.marks)),
  )

  pub row_put : ColumnsHold ps ns os ms (k + 1)
      → rows_in (set ps k p) (set ns k n) (set os k o) (set ms k m) (k + 1) ≡ rows_in ps ns os ms k ++ (coded p n o m ∷ [])
  unfolding rows_in
  row_put h =
      let u = row_at (set ps k p) (set ns k n) (set os k o) (set ms k m) in
      let e = tab_cong u (row_at ps ns os ms) 0 0 k (λ j l. same_below (0 + j) (omega arith)) in
      let z : 0 + k ≡ k = omega arith in
      tab_add u 0 k 1 ∙ rw (z, e, here h)

-- ---- a record's delete mark

module _ (t : ℕ) (r : Record) (p : List ℕ) where
  pub unmarked : not r.mark ≡ true → mark_ok (t, tuple_of r p) ≡ true
  unfolding mark_ok tuple_of
  unmarked h = rw h

  pub held : r.owner ≡ Committed → not r.mark ≡ mark_ok (t, tuple_of r p)
  unfolding mark_ok tuple_of is_tentative
  held o = rw o (by (not r.mark) (λ h. rw h) (λ h. rw h))

  pub marked_open : {u s : ℕ} → not r.mark ≡ false → r.owner ≡ Tentative u s → length p ≡ r.len → mark_ok (t, tuple_of r p) ≡ eqb r.len 0
  unfolding mark_ok tuple_of is_tentative
  marked_open h o l = rw (h, o, ← l) (empty_length p)
