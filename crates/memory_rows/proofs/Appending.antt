-- A row behind all others, in the slot of its own index.
use Rattle.block_forms.specs.Limits.{payload_limit}
use Rattle.basics.proofs.Kit.{◌≡◌, refl, sym, ap, ◌∙◌, subst, ⊎_elim, false, List, [], ◌∷◌, ◌++◌, ℕ, ◌+◌, ◌*◌, ◌≤◌, ◌<◌, length, length-append}
use Rattle.basics.proofs.Kit.{ne_eqb, arith}
use Rattle.block_forms.specs.Bytes.{owner_is, flags_of, owner_word}
use Rattle.memory_bytes.specs.Bytes.{bytes4, Wrote}
use Rattle.memory_bytes.specs.Columns.{equals, slot_limit}
use Rattle.basics.proofs.Tabs.{lt_or_ge}
use Rattle.basics.proofs.Searches.{none_tab}
use Rattle.memory_layout.specs.Views.{slot_of, ref_of}
use Rattle.memory_layout.specs.Flat.{capacity_of, rows_of}
use Rattle.memory_layout.proofs.Frame.{same4}
use Rattle.memory_rows.specs.Rows.{held_by, RowFits, RowsOnly}
use Rattle.memory_layout.specs.Flat.{Capacity}
use Rattle.memory_rows.specs.Cells.{code_of, slot_in, slot_at, is_taken, InOrder, RowsRaised, CellsPut, SlotFilled}
use Rattle.memory_rows.specs.declared.Row.{Row}
use Rattle.memory_rows.proofs.Moving.{cells_stay}
use Rattle.memory_rows.proofs.Inserting.{slot_own, inserted}
use Rattle.basics.proofs.Parts.{insert_last}

-- no row is moved
raised_none : (m : List ℕ) (c n : ℕ) → RowsRaised m m c n n
raised_none m c n =
    record {
      only = record { size = refl; below = λ b h. refl; above = λ b h. refl };
      before = λ j h. record { key = refl; ref = refl; state = refl };
      moved = λ j h k. absurd (omega arith);
    }

-- while every row is in the slot of its own index, the next slot is free
order_free : {m : List ℕ} {n : ℕ} → InOrder m → n ≡ length (rows_of m) → is_taken m n ≡ false
order_free {m} {n} o e = none_tab (equals n) (slot_at m) 0 (length (rows_of m)) (λ j p q. ne_eqb (slot_at m j) n (λ z. omega (arith, o.slot j (omega arith))))

module _ {m m1 m3 m4 : List ℕ} {c n w r st : ℕ} (row : Row) {xs : List ℕ} (z : Capacity m c) (en : n ≡ length (rows_of m)) (full : n < c)
    (own : RowFits row) (fit : length xs ≤ payload_limit) (o : InOrder m)
    (ew : w ≡ owner_word (owner_is row.owner)) (er : r ≡ n + code_of row.pending * slot_limit) (es : st ≡ flags_of (owner_is row.owner) row.mark (length xs))
    (fill : SlotFilled m m1 n row.number w xs) (put : CellsPut m1 m3 c n row.key r st) (count : Wrote m3 m4 32 (bytes4 (n + 1))) where
  pub appended : RowsOnly m m4 (rows_of m ++ held_by row xs ∷ [])
  appended =
      subst (RowsOnly m m4) (insert_last n (held_by row xs) (rows_of m) en)
      (inserted row z en (omega arith) full own fit full (order_free o en) ew er es fill (raised_none m1 c n) put count)

  -- the slots of the rows, for the capacity c
  slot_kept : (i : ℕ) → i < n → slot_in m4 c i ≡ i
  unfolding slot_in
  slot_kept i h =
      let e : ref_of m4 c i ≡ ref_of m c i =
      (cells_stay c i count.apart (omega arith)).ref ∙ (put.others i (omega arith) (λ x. omega arith)).ref ∙ (cells_stay c i fill.apart (omega arith)).ref in
      ap (slot_of c) e ∙ (λ y. slot_of (z.is y) (ref_of m (z.is y) i)) ∙ o.slot i (omega arith)

  slot_new : slot_in m4 c n ≡ n
  unfolding slot_in
  slot_new = ap (slot_of c) ((cells_stay c n count.apart (omega arith)).ref ∙ put.ref ∙ er) ∙ slot_own c _ n (omega (arith, z.most)) full

  pub in_order : InOrder m4
  in_order =
      let cap : capacity_of m4 ≡ c =
      same4 m m4 4 (λ b p q. count.apart.below b (omega arith) ∙ put.only.below b (omega arith) ∙ fill.apart.below b (omega arith)) ∙ sym z.is in
      let l : length (rows_of m4) ≡ n + 1 = ap length appended.rows ∙ omega (arith, length-append (rows_of m) (held_by row xs ∷ [])) in
      record {
        slot = λ i h.
            ap (λ (k : ℕ). slot_in m4 k i) cap
            ∙ ⊎_elim (λ k. slot_kept i k) (λ k. let e : i ≡ n = omega arith in ap (slot_in m4 c) e ∙ slot_new ∙ sym e) (lt_or_ge i n);
      }
