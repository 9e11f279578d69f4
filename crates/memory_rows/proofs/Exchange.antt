-- One row exchanged by a change of its columns: another state, another pending operation.
use Rattle.memory_bytes.specs.Columns.{slot_limit}
use Rattle.basics.proofs.Kit.{◌≡◌, refl, sym, ap, ◌∙◌, ⊎_elim, Bool, List, [], ◌∷◌, ℕ, ◌+◌, ◌*◌, ◌%◌, ◌≤◌, ◌<◌, ◌/◌, min, leb, ltb, length, get_or, le-ltb, arith}
use Rattle.basics.specs.Basics.{if'◌then◌else◌}
use Rattle.block_forms.specs.Limits.{payload_limit, committed_value, statement_limit, mark_value}
use Rattle.block_forms.specs.Tuple.{committed, tentative}
use Rattle.model.specs.State.{Held}
use Rattle.model.specs.Rules.{as_committed, with_pending}
use Rattle.memory_bytes.specs.Bytes.{le2, le4, bytes, bytes2, Apart, Wrote}
use Rattle.basics.specs.Lists.{tab}
use Rattle.memory_bytes.proofs.Bytes.{le2_below, le2_above, le4_below, le2_wrote}
use Rattle.basics.proofs.Numbers.{lt_or_ge, less_than}
use Rattle.basics.proofs.Tabs.{tab_set}
use Rattle.memory_layout.specs.Places.{keys_at, refs_at, states_at, starts_at, slot_size}
use Rattle.block_forms.specs.Decode.{read_owner, read_mark}
use Rattle.memory_layout.specs.Views.{row_count, pending_by, pending_of, length_of, slot_of, slot_place, key_of, ref_of, state_of, held_of, row_at}
use Rattle.memory_layout.specs.Flat.{flat_of, capacity_of, rows_of, row_in, Room, Becomes}
use Rattle.memory_layout.proofs.Laws.{rows_length}
use Rattle.memory_layout.proofs.Frame.{Same, same4, same_held, moved_row, slot_below}
use Rattle.memory_rows.specs.Rows.{pending_is, committed_row, with_row}
use Rattle.memory_rows.specs.Cells.{code_of}
use Rattle.memory_rows.specs.declared.Pending.{Pending}
use Rattle.memory_rows.specs.declared.Pending.TheVariants.{Nothing, Adding, Committing, Removing}
use Rattle.memory_rows.proofs.Access.{row_is}
use Rattle.memory_layout.proofs.Laws.{sized}
use Rattle.memory_layout.proofs.Changes.{same_below, same_above, kept_pages, becomes_rest}

module _ {m m' : List ℕ} (room : Room m) (i : ℕ) (h : i < length (rows_of m)) {a n : ℕ} (s : Apart m m' a n)
    (from : keys_at (capacity_of m) ≤ a) (to : a + n ≤ starts_at (capacity_of m)) where
  slot_same : (r : ℕ) → Same m m' (slot_place (slot_of (capacity_of m) r)) slot_size
  slot_same r b p q =
      let l : slot_of (capacity_of m) r < capacity_of m = slot_below m m' (capacity_of m) r (sized m room).least in
      s.below b (omega arith)

  -- the columns of the other rows are as they were, and row i is x
  exchanged : {x : Held} → ((j : ℕ) → j < capacity_of m → (j ≡ i → ⊥) → key_of m' (capacity_of m) j ≡ key_of m (capacity_of m) j)
      → ((j : ℕ) → j < capacity_of m → (j ≡ i → ⊥) → ref_of m' (capacity_of m) j ≡ ref_of m (capacity_of m) j)
      → ((j : ℕ) → j < capacity_of m → (j ≡ i → ⊥) → state_of m' (capacity_of m) j ≡ state_of m (capacity_of m) j)
      → row_at m' (capacity_of m) i ≡ x → Becomes m m' (with_row (flat_of m) i x)
  unfolding rows_of
  exchanged {x} ks rs ss e =
      let c : ℕ = capacity_of m in
      let z = sized m room in
      let en : row_count m' ≡ row_count m = same4 m m' 32 (λ b p q. s.below b (omega arith)) in
      let count : length (rows_of m) ≡ row_count m = rows_length m in
      let l : i < row_count m = omega arith in
      let other : (j : ℕ) → j < c → (j ≡ i → ⊥) → row_at m' c j ≡ row_at m c j =
      λ j b ne. moved_row m m' c j j (ks j b ne) (rs j b ne) (ss j b ne) (slot_same (ref_of m c j)) in
      becomes_rest m m' room
      (record {
        size = s.size;
        head = same_below 0 32 s (omega arith);
        counts = same_below 36 28 s (omega arith);
        lists = same_below 80 944 s (omega arith);
        named = λ b p. s.above b (omega arith);
      }) (
        omega (arith, z.rows),
        ap (tab (row_at m' c) 0) en
            ∙ tab_set (row_at m c) (row_at m' c) (row_count m) i x l (λ j b. other j (omega arith) (λ q. omega arith)) e
            (λ j a b. other j (omega (arith, z.rows, count)) (λ q. omega arith)),
      )
      (kept_pages m m' room (same_below 32 4 s (omega arith)) (same_below 64 16 s (omega arith)) (same_above (starts_at c) (c * 8) s (omega arith)))

-- ---- committed

owner_committed : (s w : ℕ) → committed_value ≤ s → read_owner s w ≡ committed
unfolding read_owner if'◌then◌else◌
owner_committed s w h = ap (λ (t : Bool). if' t then tentative (w / statement_limit) (w % statement_limit) else committed) (le-ltb s committed_value h)

pub length_by : (s t : ℕ) → s % mark_value ≡ t % 64 → length_of s ≡ length_of t
unfolding length_of
length_by s t h = ap (λ (z : ℕ). min z payload_limit) h

mark_by : (s t : ℕ) → s % committed_value ≡ t % committed_value → read_mark s ≡ read_mark t
unfolding read_mark
mark_by s t h = ap (leb 64) h

committed_is : (m : List ℕ) (a k s r : ℕ) → held_of m a k (s % committed_value + committed_value) r ≡ committed_row (held_of m a k s r)
unfolding held_of committed_row as_committed
committed_is m a k s r =
    let v : ℕ = s % committed_value + committed_value in
    λ i. record {
      tuple = record {
        key = k;
        number = le4 m a;
        owner = owner_committed v (le4 m (a + 4)) (omega arith) i;
        mark = mark_by v s (omega arith) i;
        payload = bytes m (a + 8) (length_by v s (omega arith) i);
      };
      pending = pending_of r;
    }

module _ {m m' : List ℕ} (room : Room m) (i : ℕ) (h : i < length (rows_of m)) where
  pub commits : {a v : ℕ} → a ≡ states_at (capacity_of m) + i → v ≡ get_or m a 0 % committed_value + committed_value → Wrote m m' a (v ∷ [])
      → Becomes m m' (with_row (flat_of m) i (committed_row (row_in (flat_of m) i)))
  unfolding row_at
  commits {a} {v} e ev w =
      let c : ℕ = capacity_of m in
      let z = sized m room in
      let s : Apart m m' a 1 = w.apart in
      let rs : (j : ℕ) → j < c → ref_of m' c j ≡ ref_of m c j = λ j b. le2_below s (refs_at c + j * 2) (omega arith) in
      let ks : (j : ℕ) → j < c → key_of m' c j ≡ key_of m c j = λ j b. le4_below s (keys_at c + j * 4) (omega arith) in
      let l : i < c = omega arith in
      let new : state_of m' c i ≡ state_of m c i % committed_value + committed_value =
      ap (λ (y : ℕ). get_or m' y 0) (omega arith) ∙ w.here 0 (omega arith) ∙ ev ∙ ap (λ (y : ℕ). get_or m y 0 % committed_value + committed_value) e in
      let p : ℕ = slot_place (slot_of c (ref_of m c i)) in
      exchanged room i h s (omega arith) (omega arith) (λ j b ne. ks j b) (λ j b ne. rs j b)
      (λ j b ne. ⊎_elim (λ q. s.below (states_at c + j) (omega arith)) (λ q. s.above (states_at c + j) (omega (arith, less_than q (λ z. ne (sym z))))) (lt_or_ge j i))
      ((λ y. held_of m' (slot_place (slot_of c (rs i l y))) (ks i l y) (new y) (rs i l y))
      ∙ same_held m m' c p (key_of m c i) (state_of m c i % committed_value + committed_value) (ref_of m c i) (slot_same room i h s (omega arith) (omega arith) (ref_of m c i))
      ∙ committed_is m p (key_of m c i) (state_of m c i) (ref_of m c i)
      ∙ ap committed_row (sym (row_is m i h)))

-- ---- pending

pub code_is : (p : Pending) (s : ℕ) → s < slot_limit → pending_of (s + code_of p * slot_limit) ≡ pending_is p
unfolding pending_of pending_by if'◌then◌else◌
code_is Nothing s h = let e : (s + 0 * slot_limit) / slot_limit % 4 ≡ 0 = omega arith in ap pending_by e
code_is Adding s h = let e : (s + 1 * slot_limit) / slot_limit % 4 ≡ 1 = omega arith in ap pending_by e
code_is Committing s h = let e : (s + 2 * slot_limit) / slot_limit % 4 ≡ 2 = omega arith in ap pending_by e
code_is Removing s h = let e : (s + 3 * slot_limit) / slot_limit % 4 ≡ 3 = omega arith in ap pending_by e

pub slot_by : (c r t : ℕ) → r % slot_limit ≡ t % slot_limit → slot_of c r ≡ slot_of c t
unfolding slot_of
slot_by c r t e = ap (λ (z : ℕ). if' ltb z c then z else 0) e

pending_is_lem : (m : List ℕ) (a k s r v : ℕ) (p : Pending) → v ≡ r % slot_limit + code_of p * slot_limit
    → held_of m a k s v ≡ with_pending (pending_is p) (held_of m a k s r)
unfolding held_of with_pending
pending_is_lem m a k s r v p e =
    let o : pending_of v ≡ pending_is p = ap pending_of e ∙ code_is p (r % slot_limit) (omega arith) in
    λ i. record {
      tuple = record { key = k; number = le4 m a; owner = read_owner s (le4 m (a + 4)); mark = read_mark s; payload = bytes m (a + 8) (length_of s) };
      pending = o i;
    }

module _ {m m' : List ℕ} (room : Room m) (i : ℕ) (h : i < length (rows_of m)) where
  pub pends : {a v : ℕ} (p : Pending) → a ≡ refs_at (capacity_of m) + i * 2 → code_of p < 4 → v ≡ le2 m a % slot_limit + code_of p * slot_limit
      → Wrote m m' a (bytes2 v) → Becomes m m' (with_row (flat_of m) i (with_pending (pending_is p) (row_in (flat_of m) i)))
  unfolding row_at
  pends {a} {v} p e four ev w =
      let c : ℕ = capacity_of m in
      let z = sized m room in
      let s : Apart m m' a 2 = w.apart in
      let ss : (j : ℕ) → j < c → state_of m' c j ≡ state_of m c j = λ j b. s.above (states_at c + j) (omega arith) in
      let ks : (j : ℕ) → j < c → key_of m' c j ≡ key_of m c j = λ j b. le4_below s (keys_at c + j * 4) (omega arith) in
      let l : i < c = omega arith in
      let r : ℕ = ref_of m c i in
      let u : ℕ = r % slot_limit + code_of p * slot_limit in
      let eu : v ≡ u = ev ∙ ap (λ (y : ℕ). le2 m y % slot_limit + code_of p * slot_limit) e in
      let new : ref_of m' c i ≡ u = ap (le2 m') (sym e) ∙ le2_wrote v (omega arith) w ∙ eu in
      let t : slot_of c u ≡ slot_of c r = slot_by c u r (omega arith) in
      exchanged room i h s (omega arith) (omega arith) (λ j b ne. ks j b)
      (λ j b ne. ⊎_elim (λ q. le2_below s (refs_at c + j * 2) (omega arith)) (λ q. le2_above s (refs_at c + j * 2) (omega (arith, less_than q (λ z. ne (sym z))))) (lt_or_ge j i))
      (λ j b ne. ss j b)
      ((λ y. held_of m' (slot_place (slot_of c (new y))) (ks i l y) (ss i l y) (new y))
      ∙ (λ y. held_of m' (slot_place (t y)) (key_of m c i) (state_of m c i) u)
      ∙ same_held m m' c (slot_place (slot_of c r)) (key_of m c i) (state_of m c i) u (slot_same room i h s (omega arith) (omega arith) r)
      ∙ pending_is_lem m (slot_place (slot_of c r)) (key_of m c i) (state_of m c i) r u p refl
      ∙ ap (with_pending (pending_is p)) (sym (row_is m i h)))
