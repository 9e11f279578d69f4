-- Cells of the columns after the moves and stores of an insert or a remove.
use Rattle.block_forms.specs.Limits.{payload_limit}
use Rattle.basics.proofs.Kit.{◌≡◌, sym, ap, ◌∙◌, ⊎_elim, List, [], ◌∷◌, ℕ, ◌+◌, ◌*◌, ◌≤◌, ◌<◌, length, get_or, arith}
use Rattle.memory_bytes.specs.Bytes.{le2, le4, bytes, bytes2, bytes4, Apart, Raised, Lowered, Wrote}
use Rattle.memory_bytes.proofs.Bytes.{le2_below, le2_above, le4_below, le4_above, le2_raised, le4_raised, le2_lowered, le4_lowered, le2_wrote, le4_wrote, bytes_wrote}
use Rattle.basics.proofs.Tabs.{lt_or_ge}
use Rattle.memory_layout.specs.Places.{keys_at, refs_at, states_at}
use Rattle.memory_layout.specs.Views.{key_of, ref_of, state_of, slot_place}
use Rattle.memory_rows.specs.Cells.{SameCells, ColumnsOnly, RowsRaised, RowsLowered, CellsPut, SlotFilled}
use Rattle.basics.proofs.Numbers.{less_than}

-- ---- cells that stay

-- one change after the other
pub cells_then : {m m1 m2 : List ℕ} {c j k l : ℕ} → SameCells m m1 c j k → SameCells m1 m2 c k l → SameCells m m2 c j l
cells_then p q = record { key = q.key ∙ p.key; ref = q.ref ∙ p.ref; state = q.state ∙ p.state }

-- a change before the columns
pub cells_stay : {m m' : List ℕ} {a n : ℕ} (c j : ℕ) → Apart m m' a n → a + n ≤ keys_at c → SameCells m m' c j j
cells_stay c j s h =
    record {
      key = le4_above s (keys_at c + j * 4) (omega arith);
      ref = le2_above s (refs_at c + j * 2) (omega arith);
      state = s.above (states_at c + j) (omega arith);
    }

-- three changes, one in each column, of the cells of the rows from i up to e
pub record Three (m m1 m2 m3 : List ℕ) (c i e : ℕ) : Type 0 where
  pub only : ColumnsOnly m m3 c
  pub by : (j k : ℕ) → k < c → j < c → key_of m1 c k ≡ key_of m c j → ref_of m2 c k ≡ ref_of m1 c j → state_of m3 c k ≡ state_of m2 c j → SameCells m m3 c j k
  pub before : (j : ℕ) → j < i → SameCells m m3 c j j
  pub behind : (j : ℕ) → e ≤ j → j < c → SameCells m m3 c j j

pub three : {m m1 m2 m3 : List ℕ} {a1 n1 a2 n2 a3 n3 : ℕ} (c i e : ℕ) → Apart m m1 a1 n1 → Apart m1 m2 a2 n2 → Apart m2 m3 a3 n3
    → keys_at c + i * 4 ≤ a1 → a1 + n1 ≤ keys_at c + e * 4 → refs_at c + i * 2 ≤ a2 → a2 + n2 ≤ refs_at c + e * 2 → states_at c + i ≤ a3 → a3 + n3 ≤ states_at c + e → e ≤ c
    → Three m m1 m2 m3 c i e
three {m} {m1} {m2} {m3} c i e s1 s2 s3 f1 t1 f2 t2 f3 t3 l =
    let by : (j k : ℕ) → k < c → j < c → key_of m1 c k ≡ key_of m c j → ref_of m2 c k ≡ ref_of m1 c j → state_of m3 c k ≡ state_of m2 c j → SameCells m m3 c j k =
    λ j k hk hj ek er es. record {
      key = le4_below s3 (keys_at c + k * 4) (omega arith) ∙ le4_below s2 (keys_at c + k * 4) (omega arith) ∙ ek;
      ref = le2_below s3 (refs_at c + k * 2) (omega arith) ∙ er ∙ le2_above s1 (refs_at c + j * 2) (omega arith);
      state = es ∙ s2.above (states_at c + j) (omega arith) ∙ s1.above (states_at c + j) (omega arith);
    } in
    record {
      only = record {
        size = s3.size ∙ s2.size ∙ s1.size;
        below = λ b h. s3.below b (omega arith) ∙ s2.below b (omega arith) ∙ s1.below b (omega arith);
        above = λ b h. s3.above b (omega arith) ∙ s2.above b (omega arith) ∙ s1.above b (omega arith);
      };
      by = by;
      before = λ j h. by j j (omega arith) (omega arith) (le4_below s1 (keys_at c + j * 4) (omega arith)) (le2_below s2 (refs_at c + j * 2) (omega arith))
          (s3.below (states_at c + j) (omega arith));
      behind = λ j h b. by j j b b (le4_above s1 (keys_at c + j * 4) (omega arith)) (le2_above s2 (refs_at c + j * 2) (omega arith)) (s3.above (states_at c + j) (omega arith));
    }

-- ---- rows moved

pub raised_rows : {m m1 m2 m3 : List ℕ} {c i n k r s : ℕ} → k ≡ keys_at c → r ≡ refs_at c → s ≡ states_at c → i ≤ n → n < c
    → Raised m m1 (k + i * 4) (k + n * 4) 4 → Raised m1 m2 (r + i * 2) (r + n * 2) 2 → Raised m2 m3 (s + i) (s + n) 1 → RowsRaised m m3 c i n
raised_rows {m} {m1} {m2} {m3} {c} {i} {n} ek er es h l s4 s2 s1 =
    let t = three c i (n + 1) s4.apart s2.apart s1.apart (omega arith) (omega arith) (omega arith) (omega arith) (omega arith) (omega arith) (omega arith) in
    record {
      only = t.only;
      before = t.before;
      moved = λ j p q. t.by j (j + 1) (omega arith) (omega arith) (ap (le4 m1) (omega arith) ∙ le4_raised s4 (keys_at c + j * 4) (omega arith) (omega arith))
          (ap (le2 m2) (omega arith) ∙ le2_raised s2 (refs_at c + j * 2) (omega arith) (omega arith))
          (ap (λ (z : ℕ). get_or m3 z 0) (omega arith) ∙ s1.moved (states_at c + j) (omega arith) (omega arith));
    }

pub lowered_rows : {m m1 m2 m3 : List ℕ} {c i n k r s : ℕ} → k ≡ keys_at c → r ≡ refs_at c → s ≡ states_at c → i < n → n ≤ c
    → Lowered m m1 (k + i * 4) (k + n * 4) 4 → Lowered m1 m2 (r + i * 2) (r + n * 2) 2 → Lowered m2 m3 (s + i) (s + n) 1 → RowsLowered m m3 c i n
lowered_rows {m} {m1} {m2} {m3} {c} {i} {n} ek er es h l s4 s2 s1 =
    let t = three c i n s4.apart s2.apart s1.apart (omega arith) (omega arith) (omega arith) (omega arith) (omega arith) (omega arith) (omega arith) in
    record {
      only = t.only;
      before = t.before;
      moved = λ j p q. t.by (j + 1) j (omega arith) (omega arith) (le4_lowered s4 (keys_at c + j * 4) (omega arith) (omega arith) ∙ ap (le4 m) (omega arith))
          (le2_lowered s2 (refs_at c + j * 2) (omega arith) (omega arith) ∙ ap (le2 m1) (omega arith))
          (s1.moved (states_at c + j) (omega arith) (omega arith) ∙ ap (λ (z : ℕ). get_or m2 z 0) (omega arith));
    }

-- ---- cells and slots written

pub cells_put : {m m1 m2 m3 : List ℕ} {c i k r s key ref state : ℕ} → k ≡ keys_at c → r ≡ refs_at c → s ≡ states_at c → i < c → key < 4294967296 → ref < 65536
    → Wrote m m1 (k + i * 4) (bytes4 key) → Wrote m1 m2 (r + i * 2) (bytes2 ref) → Wrote m2 m3 (s + i) (state ∷ []) → CellsPut m m3 c i key ref state
cells_put {m} {m1} {m2} {m3} {c} {i} {key = key} {ref = ref} ek er es l bk br w4 w2 w1 =
    let t = three c i (i + 1) w4.apart w2.apart w1.apart (omega arith) (omega arith) (omega arith) (omega arith) (omega arith) (omega arith) (omega arith) in
    record {
      only = t.only;
      others = λ j b ne. ⊎_elim (λ p. t.before j p) (λ p. t.behind j (omega (arith, less_than p (λ z. ne (sym z)))) b) (lt_or_ge j i);
      key = le4_below w1.apart (keys_at c + i * 4) (omega arith) ∙ le4_below w2.apart (keys_at c + i * 4) (omega arith)
          ∙ ap (le4 m1) (omega arith) ∙ le4_wrote key bk w4;
      ref = le2_below w1.apart (refs_at c + i * 2) (omega arith) ∙ ap (le2 m2) (omega arith) ∙ le2_wrote ref br w2;
      state = ap (λ (z : ℕ). get_or m3 z 0) (omega arith) ∙ w1.here 0 (omega arith);
    }

pub slot_filled : {m m1 m2 m3 : List ℕ} {s a number word : ℕ} {payload : List ℕ} → a ≡ slot_place s → number < 4294967296 → word < 4294967296
    → length payload ≤ payload_limit → Wrote m m1 a (bytes4 number) → Wrote m1 m2 (a + 4) (bytes4 word) → Wrote m2 m3 (a + 8) payload
    → SlotFilled m m3 s number word payload
slot_filled {m} {m1} {m2} {m3} {s} {a} {number} {word} {payload} e bn bw bp w1 w2 w3 =
    record {
      apart = record {
        size = w3.apart.size ∙ w2.apart.size ∙ w1.apart.size;
        below = λ b h. w3.apart.below b (omega arith) ∙ w2.apart.below b (omega arith) ∙ w1.apart.below b (omega arith);
        above = λ b h. w3.apart.above b (omega arith) ∙ w2.apart.above b (omega arith) ∙ w1.apart.above b (omega arith);
      };
      number = le4_below w3.apart (slot_place s) (omega arith) ∙ le4_below w2.apart (slot_place s) (omega arith) ∙ ap (le4 m1) (sym e) ∙ le4_wrote number bn w1;
      owner = le4_below w3.apart (slot_place s + 4) (omega arith) ∙ ap (λ (z : ℕ). le4 m2 (z + 4)) (sym e) ∙ le4_wrote word bw w2;
      payload = ap (λ (z : ℕ). bytes m3 (z + 8) (length payload)) (sym e) ∙ bytes_wrote w3;
    }
