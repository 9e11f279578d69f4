-- Which slots are taken, and that one is free as long as there are fewer rows than slots.
use Rattle.basics.proofs.Kit.{◌≡◌, refl, sym, ◌∙◌, Bool, true, false, List, ℕ, ◌+◌, ◌%◌, ◌≤◌, ◌<◌, eqb, ltb, length, ne_eqb, ltb-false}
use Rattle.basics.proofs.Kit.{arith}
use Rattle.basics.specs.Basics.{if'◌then◌else◌, any, is_in}
use Rattle.memory_bytes.specs.Bytes.{column2}
use Rattle.memory_bytes.specs.Columns.{equals, names, slot_limit}
use Rattle.basics.specs.Lists.{tab}
use Rattle.basics.proofs.Tabs.{length_tab}
use Rattle.basics.proofs.Searches.{any_same}
use Rattle.basics.proofs.Froms.{pigeonhole}
use Rattle.basics.proofs.Elements.{eqb_swap}
use Rattle.memory_layout.specs.Places.{refs_at}
use Rattle.memory_layout.specs.Views.{slot_of, ref_of}
use Rattle.memory_layout.specs.Flat.{rows_of}
use Rattle.memory_rows.specs.Cells.{slot_in, slot_at, is_taken}

-- a slot that is not 0 is named by its own number only
same_slot : (c r s : ℕ) → 0 < s → s < c → eqb (r % slot_limit) s ≡ eqb (slot_of c r) s
unfolding slot_of if'◌then◌else◌
same_slot c r s h k = by_test (ltb (r % slot_limit) c) refl
  where
    by_test : (t : Bool) → ltb (r % slot_limit) c ≡ t → eqb (r % slot_limit) s ≡ eqb (if' t then r % slot_limit else 0) s
    by_test true e = refl
    by_test false e = let p : c ≤ r % slot_limit = ltb-false (r % slot_limit) c e in ne_eqb (r % slot_limit) s (λ z. omega arith) ∙ sym (ne_eqb 0 s (λ z. omega arith))

pub named_taken : (m : List ℕ) (c n s : ℕ) → 0 < s → s < c → any (names s) (tab (column2 m (refs_at c)) 0 n) ≡ any (equals s) (tab (slot_in m c) 0 n)
unfolding slot_in
named_taken m c n s h k =
    any_same (names s) (column2 m (refs_at c)) (equals s) (slot_in m c) 0 0 n (λ j l. same_slot c (ref_of m c (0 + j)) s h k)

-- so one slot is free
pub fewer : (m : List ℕ) (k : ℕ) → ((s : ℕ) → s < k → is_taken m s ≡ true) → k ≤ length (rows_of m)
unfolding is_in
fewer m k h =
    let n : ℕ = length (rows_of m) in
    let each : (s : ℕ) → s < k → is_in s (tab (slot_at m) 0 n) ≡ true
    = λ s l. any_same (eqb s) (slot_at m) (equals s) (slot_at m) 0 0 n (λ j b. eqb_swap s (slot_at m (0 + j))) ∙ h s l in
    omega (arith, pigeonhole k (tab (slot_at m) 0 n) each, length_tab (slot_at m) 0 n)
