-- What the head's numbers give, and a row by its bytes.
use Rattle.basics.proofs.Kit.{◌≡◌, sym, ap, ◌∙◌, List, ℕ, ◌+◌, ◌*◌, ◌≤◌, ◌<◌, ◌-◌, length, arith}
use Rattle.memory_bytes.specs.Columns.{equals, Covers}
use Rattle.basics.specs.Lists.{tab}
use Rattle.memory_bytes.specs.Bytes.{le4, bytes, column4}
use Rattle.basics.proofs.Tabs.{tab_at, tab_same}
use Rattle.model.specs.State.{Held}
use Rattle.memory_layout.specs.Places.{keys_at}
use Rattle.block_forms.specs.Decode.{read_owner, read_mark}
use Rattle.memory_layout.specs.Views.{row_count, row_at, held_of, pending_of, length_of, key_of, ref_of, state_of, slot_place}
use Rattle.memory_layout.specs.Flat.{flat_of, rows_of, capacity_of, row_in, no_row}
use Rattle.memory_layout.proofs.Laws.{rows_length}
use Rattle.memory_rows.specs.Rows.{key_in}
use Rattle.memory_rows.specs.Cells.{slot_in, slot_at}

module _ (m : List ℕ) where
  pub row_is : (i : ℕ) → i < length (rows_of m) → row_in (flat_of m) i ≡ row_at m (capacity_of m) i
  unfolding rows_of
  row_is i h =
      tab_at (row_at m (capacity_of m)) (row_count m) i no_row (omega (arith, rows_length m))

  -- ---- the fields of row i

  module _ (i : ℕ) (h : i < length (rows_of m)) where
    pub key_is : (row_in (flat_of m) i).tuple.key ≡ key_of m (capacity_of m) i
    unfolding row_at held_of
    key_is = ap (λ (r : Held). r.tuple.key) (row_is i h)

    pub number_is : (row_in (flat_of m) i).tuple.number ≡ le4 m (slot_place (slot_at m i))
    unfolding row_at held_of slot_in
    number_is = ap (λ (r : Held). r.tuple.number) (row_is i h)

    pub owner_is_lem : (row_in (flat_of m) i).tuple.owner ≡ read_owner (state_of m (capacity_of m) i) (le4 m (slot_place (slot_at m i) + 4))
    unfolding row_at held_of slot_in
    owner_is_lem = ap (λ (r : Held). r.tuple.owner) (row_is i h)

    pub mark_is : (row_in (flat_of m) i).tuple.mark ≡ read_mark (state_of m (capacity_of m) i)
    unfolding row_at held_of
    mark_is = ap (λ (r : Held). r.tuple.mark) (row_is i h)

    pub payload_is : (row_in (flat_of m) i).tuple.payload ≡ bytes m (slot_place (slot_at m i) + 8) (length_of (state_of m (capacity_of m) i))
    unfolding row_at held_of slot_in
    payload_is = ap (λ (r : Held). r.tuple.payload) (row_is i h)

    pub pending_is_lem : (row_in (flat_of m) i).pending ≡ pending_of (ref_of m (capacity_of m) i)
    unfolding row_at held_of
    pending_is_lem = ap (λ (r : Held). r.pending) (row_is i h)

  -- the keys of the rows are a column
  column_key : {a : ℕ} → a ≡ keys_at (capacity_of m) → (j : ℕ) → j < length (rows_of m) → column4 m a j ≡ key_in (flat_of m) j
  column_key q j h = ap (λ (z : ℕ). le4 m (z + j * 4)) q ∙ sym (key_is j h)

  keys_are : (s e : ℕ) → e ≤ length (rows_of m) → (a : ℕ) → a ≡ keys_at (capacity_of m) → tab (column4 m a) s (e - s) ≡ tab (key_in (flat_of m)) s (e - s)
  keys_are s e h a q = tab_same (column4 m a) (key_in (flat_of m)) s (e - s) (λ k p b. column_key q k (omega arith))

  -- what a search in the column answers is over the rows
  pub over_keys : (f : List ℕ → ℕ) (s e : ℕ) → e ≤ length (rows_of m) → {a r : ℕ} → a ≡ keys_at (capacity_of m) → r ≡ s + f (tab (column4 m a) s (e - s))
      → r ≡ s + f (tab (key_in (flat_of m)) s (e - s))
  over_keys f s e h {a} q p = p ∙ ap (λ (xs : List ℕ). s + f xs) (keys_are s e h a q)

  -- and so is the span of a key
  pub covers_keys : {a k s e x y : ℕ} → e ≤ length (rows_of m) → a ≡ keys_at (capacity_of m) → Covers (column4 m a) k s e x y → Covers (key_in (flat_of m)) k s e x y
  covers_keys {k = k} h q c =
      let o = c.order in
      let t = c.high in
      record {
        low = c.low;
        order = o;
        high = t;
        before = λ j u v. ap (equals k) (sym (column_key q j (omega arith))) ∙ c.before j u v;
        behind = λ j u v. ap (equals k) (sym (column_key q j (omega arith))) ∙ c.behind j u v;
      }
