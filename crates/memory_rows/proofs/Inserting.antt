-- A row is put in or taken out: the rows are then the old list with one element more or less.
use Rattle.basics.proofs.Kit.{◌≡◌, sym, ap, ◌∙◌, ⊎_elim, Bool, true, false, List, ℕ, suc, ◌+◌, ◌*◌, ◌%◌, ◌≤◌, ◌<◌, ◌-◌, min, min-eq_left, eqb, ltb, length, get_or, lt-ltb, eq-eqb}
use Rattle.basics.proofs.Kit.{arith}
use Rattle.basics.specs.Basics.{if'◌then◌else◌}
use Rattle.block_forms.specs.Limits.{payload_limit}
use Rattle.block_forms.specs.Tuple.{Owner}
use Rattle.memory_bytes.specs.Bytes.{le4, bytes, bytes2, bytes4, Wrote}
use Rattle.memory_bytes.specs.Columns.{equals, slot_limit}
use Rattle.basics.specs.Lists.{tab, insert_at, remove_at}
use Rattle.memory_bytes.proofs.Bytes.{le2_below, le4_below, le4_wrote}
use Rattle.basics.proofs.Tabs.{lt_or_ge, tab_insert, tab_remove}
use Rattle.basics.proofs.Numbers.{less_than}
use Rattle.basics.proofs.Searches.{tab_none_at}
use Rattle.memory_layout.specs.Places.{keys_at, refs_at, states_at, starts_at, head_size, slot_size}
use Rattle.block_forms.specs.Decode.{read_owner}
use Rattle.memory_layout.specs.Views.{row_count, length_of, slot_of, slot_place, key_of, ref_of, state_of, held_of, row_at}
use Rattle.memory_layout.specs.Flat.{capacity_of, rows_of}
use Rattle.memory_layout.proofs.Laws.{rows_length}
use Rattle.memory_layout.proofs.Frame.{Same, same4, same_bytes, within, within4, moved_row, slot_below}
use Rattle.block_forms.specs.Bytes.{owner_is, flags_of, owner_word}
use Rattle.block_forms.proofs.ReadBack.{flags_length, flags_mark, flags_owner}
use Rattle.memory_rows.specs.Rows.{held_by, RowFits, RowsOnly}
use Rattle.memory_layout.specs.Flat.{Capacity}
use Rattle.memory_rows.specs.Cells.{code_of, slot_in, slot_at, is_taken, SameCells, RowsRaised, RowsLowered, CellsPut, SlotFilled}
use Rattle.memory_rows.specs.declared.Row.{Row}
use Rattle.memory_rows.proofs.Exchange.{code_is}
use Rattle.memory_rows.proofs.Moving.{cells_then, cells_stay}

-- ---- what was stored is read

pub slot_own : (c r s : ℕ) → r % slot_limit ≡ s → s < c → slot_of c r ≡ s
unfolding slot_of if'◌then◌else◌
slot_own c r s e h = ap (λ (z : ℕ). if' ltb z c then z else 0) e ∙ ap (λ (t : Bool). if' t then s else 0) (lt-ltb s c h)

length_read : (o : Owner) (mark : Bool) (n : ℕ) → n ≤ payload_limit → length_of (flags_of o mark n) ≡ n
unfolding length_of
length_read o mark n h = ap (λ (z : ℕ). min z payload_limit) (flags_length o mark n h) ∙ min-eq_left h

-- ---- a row more

module _ {m m1 m2 m3 m4 : List ℕ} {c i n s w r st : ℕ} (row : Row) {xs : List ℕ} (z : Capacity m c) (en : n ≡ length (rows_of m)) (at : i ≤ n) (full : n < c)
    (own : RowFits row) (fit : length xs ≤ payload_limit) (ls : s < c) (free : is_taken m s ≡ false)
    (ew : w ≡ owner_word (owner_is row.owner)) (er : r ≡ s + code_of row.pending * slot_limit) (es : st ≡ flags_of (owner_is row.owner) row.mark (length xs))
    (fill : SlotFilled m m1 s row.number w xs) (up : RowsRaised m1 m2 c i n) (put : CellsPut m2 m3 c i row.key r st)
    (count : Wrote m3 m4 32 (bytes4 (n + 1))) where
  -- slots are as they were when the new one was filled
  after_fill : (b : ℕ) → head_size ≤ b → b < keys_at c → get_or m4 b 0 ≡ get_or m1 b 0
  after_fill b p q = count.apart.above b (omega arith) ∙ put.only.below b q ∙ up.only.below b q

  other_slot : (t : ℕ) → t < c → (t ≡ s → ⊥) → Same m m4 (slot_place t) slot_size
  other_slot t l ne b p q =
      after_fill b (omega arith) (omega arith)
      ∙ ⊎_elim (λ r. fill.apart.below b (omega arith)) (λ r. fill.apart.above b (omega (arith, less_than r (λ e. ne (sym e))))) (lt_or_ge t s)

  not_taken : (j : ℕ) → j < n → slot_of c (ref_of m c j) ≡ s → ⊥
  unfolding slot_in
  not_taken j h e =
      let l : ℕ = length (rows_of m) in
      let k : eqb (slot_at m j) s ≡ false = tab_none_at (equals s) (slot_at m) 0 l free j (omega arith) (omega arith) in
      let y : ◌≡◌ {A = Bool} true false =
      sym (eq-eqb (slot_of c (ref_of m c j)) s e) ∙ (λ x. eqb (slot_of (z.is x) (ref_of m (z.is x) j)) s) ∙ k in
      let x : ◌≡◌ {A = ℕ} 0 1 = cc in omega arith

  row_from : (j k : ℕ) → j < n → SameCells m m4 c j k → row_at m4 c k ≡ row_at m c j
  row_from j k h e =
      moved_row m m4 c j k e.key e.ref e.state
      (other_slot (slot_of c (ref_of m c j)) (slot_below m m4 c (ref_of m c j) z.least) (not_taken j h))

  filled : (j : ℕ) → SameCells m m1 c j j
  filled j = cells_stay c j fill.apart (omega arith)

  counted : (j : ℕ) → SameCells m3 m4 c j j
  counted j = cells_stay c j count.apart (omega arith)

  row_front : (j : ℕ) → j < i → row_at m4 c j ≡ row_at m c j
  row_front j h = row_from j j (omega arith) (cells_then (filled j) (cells_then (up.before j h) (cells_then (put.others j (omega arith) (λ e. omega arith)) (counted j))))

  row_behind : (j : ℕ) → i ≤ j → j < n → row_at m4 c (suc j) ≡ row_at m c j
  row_behind j p q =
      let e : suc j ≡ j + 1 = omega arith in
      ap (row_at m4 c) e
      ∙ row_from j (j + 1) q (cells_then (filled j) (cells_then (up.moved j p q) (cells_then (put.others (j + 1) (omega arith) (λ e. omega arith)) (counted (j + 1)))))

  new_slot : Same m1 m4 (slot_place s) slot_size
  new_slot b p q = after_fill b (omega arith) (omega arith)

  row_new : row_at m4 c i ≡ held_by row xs
  unfolding row_at held_of
  row_new =
      let o : Owner = owner_is row.owner in
      let l : ℕ = length xs in
      let a : ℕ = slot_place s in
      let ref : ℕ = s + code_of row.pending * slot_limit in
      let state : ℕ = flags_of o row.mark l in
      let pr : ref_of m4 c i ≡ ref = (counted i).ref ∙ put.ref ∙ er in
      let ps : state_of m4 c i ≡ state = (counted i).state ∙ put.state ∙ es in
      let pk : key_of m4 c i ≡ row.key = (counted i).key ∙ put.key in
      let sl : slot_of c ref ≡ s = slot_own c ref s (omega (arith, z.most)) ls in
      let num : le4 m4 a ≡ row.number = within4 m1 m4 a slot_size a new_slot (omega arith) (omega arith) ∙ fill.number in
      let word : le4 m4 (a + 4) ≡ owner_word o = within4 m1 m4 a slot_size (a + 4) new_slot (omega arith) (omega arith) ∙ fill.owner ∙ ew in
      let pay : bytes m4 (a + 8) l ≡ xs = same_bytes m1 m4 (a + 8) l (within m1 m4 a slot_size (a + 8) l new_slot (omega arith) (omega arith)) ∙ fill.payload in
      (λ y. held_of m4 (slot_place (slot_of c (pr y))) (pk y) (ps y) (pr y))
      ∙ (λ y. held_of m4 (slot_place (sl y)) row.key state ref)
      ∙ (λ y. record {
        tuple = record {
          key = row.key;
          number = num y;
          owner = (ap (read_owner state) word ∙ flags_owner o row.mark l fit own) y;
          mark = flags_mark o row.mark l fit y;
          payload = (ap (bytes m4 (a + 8)) (length_read o row.mark l fit) ∙ pay) y;
        };
        pending = code_is row.pending s (omega (arith, z.most)) y;
      })

  rows_then : rows_of m4 ≡ insert_at i (held_by row xs) (rows_of m)
  unfolding rows_of
  rows_then =
      let cap : capacity_of m4 ≡ c =
      same4 m m4 4 (λ b p q. count.apart.below b (omega arith) ∙ put.only.below b (omega arith) ∙ up.only.below b (omega arith) ∙ fill.apart.below b (omega arith)) ∙ sym z.is in
      let n4 : row_count m4 ≡ n + 1 = le4_wrote (n + 1) (omega (arith, z.most)) count in
      let n0 : n ≡ row_count m = en ∙ rows_length m in
      (λ y. tab (row_at m4 (cap y)) 0 (n4 y))
      ∙ tab_insert (row_at m c) (row_at m4 c) n i (held_by row xs) at row_front row_new row_behind
      ∙ (λ y. insert_at i (held_by row xs) (tab (row_at m (z.is y)) 0 (n0 y)))

  pub inserted : RowsOnly m m4 (insert_at i (held_by row xs) (rows_of m))
  inserted =
      record {
        size = count.apart.size ∙ put.only.size ∙ up.only.size ∙ fill.apart.size;
        rows = rows_then;
        count = sym (rows_length m4) ∙ ap length rows_then;
        before = λ b h. count.apart.below b h ∙ put.only.below b (omega arith) ∙ up.only.below b (omega arith) ∙ fill.apart.below b (omega arith);
        head = λ b h k. count.apart.above b h ∙ put.only.below b (omega arith) ∙ up.only.below b (omega arith) ∙ fill.apart.below b (omega arith);
        behind = λ b h.
            let g : starts_at c ≤ b = omega (arith, z.is) in
            count.apart.above b (omega arith) ∙ put.only.above b g ∙ up.only.above b g ∙ fill.apart.above b (omega arith);
      }

-- ---- a row less

module _ {m m1 m2 m3 : List ℕ} {c i n r : ℕ} (v : ℕ) (z : Capacity m c) (en : n ≡ length (rows_of m)) (at : i < n) (er : r ≡ refs_at c)
    (down : RowsLowered m m1 c i n) (hint : Wrote m1 m2 (r + (n - 1) * 2) (bytes2 v)) (count : Wrote m2 m3 32 (bytes4 (n - 1))) where
  slot_stays : (t : ℕ) → t < c → Same m m3 (slot_place t) slot_size
  slot_stays t l b p q = count.apart.above b (omega arith) ∙ hint.apart.below b (omega arith) ∙ down.only.below b (omega arith)

  -- the note behind the rows touches none that is left
  noted : (j : ℕ) → j + 1 < n → SameCells m1 m3 c j j
  noted j h =
      cells_then (record {
        key = le4_below hint.apart (keys_at c + j * 4) (omega (arith, z.rows));
        ref = le2_below hint.apart (refs_at c + j * 2) (omega arith);
        state = hint.apart.above (states_at c + j) (omega (arith, z.rows));
      }) (cells_stay c j count.apart (omega arith))

  row_stays : (j k : ℕ) → SameCells m m3 c j k → row_at m3 c k ≡ row_at m c j
  row_stays j k e = moved_row m m3 c j k e.key e.ref e.state (slot_stays (slot_of c (ref_of m c j)) (slot_below m m3 c (ref_of m c j) z.least))

  rows_left : rows_of m3 ≡ remove_at i (rows_of m)
  unfolding rows_of
  rows_left =
      let cap : capacity_of m3 ≡ c =
      same4 m m3 4 (λ b p q. count.apart.below b (omega arith) ∙ hint.apart.below b (omega arith) ∙ down.only.below b (omega arith)) ∙ sym z.is in
      let n3 : row_count m3 ≡ n - 1 = le4_wrote (n - 1) (omega (arith, z.most, z.rows)) count in
      let n0 : n ≡ row_count m = en ∙ rows_length m in
      (λ y. tab (row_at m3 (cap y)) 0 (n3 y))
      ∙ tab_remove (row_at m c) (row_at m3 c) n i at (λ j h. row_stays j j (cells_then (down.before j h) (noted j (omega arith))))
      (λ j p q. let e : j + 1 ≡ suc j = omega arith in
      row_stays (j + 1) j (cells_then (down.moved j p (omega arith)) (noted j (omega arith))) ∙ ap (row_at m c) e)
      ∙ (λ y. remove_at i (tab (row_at m (z.is y)) 0 (n0 y)))

  pub removed : RowsOnly m m3 (remove_at i (rows_of m))
  removed =
      record {
        size = count.apart.size ∙ hint.apart.size ∙ down.only.size;
        rows = rows_left;
        count = sym (rows_length m3) ∙ ap length rows_left;
        before = λ b h. count.apart.below b h ∙ hint.apart.below b (omega arith) ∙ down.only.below b (omega arith);
        head = λ b h k. count.apart.above b h ∙ hint.apart.below b (omega arith) ∙ down.only.below b (omega arith);
        behind = λ b h.
            let g : starts_at c ≤ b = omega (arith, z.is) in
            count.apart.above b (omega arith) ∙ hint.apart.above b (omega (arith, z.rows)) ∙ down.only.above b g;
      }
