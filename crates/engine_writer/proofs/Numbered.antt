-- Directory entries and directory blocks: one by one, and a run of them.
use Rattle.basics.proofs.Kit.{◌≡◌, sym, ap, ◌∙◌, ⊎_elim, List, ℕ, ◌+◌, ◌-◌, ◌≤◌, min, length, take, drop, length-drop, take_all, arith}
use Rattle.basics.proofs.Tabs.{lt_or_ge}
use Rattle.block_forms.specs.Limits.{entries_per_block}

-- count entries from first on are those of one directory block
pub record Run (ns : List ℕ) (first count : ℕ) : Type 0 where
  pub few : count ≤ entries_per_block
  pub inside : first + count ≤ length ns
  pub whole : take count (drop first ns) ≡ take entries_per_block (drop first ns)

module _ {ns : List ℕ} {first count : ℕ} where
  -- a block that is not the last
  pub run_full : first + entries_per_block ≤ length ns → count ≡ entries_per_block → Run ns first count
  run_full h e = record { few = omega arith; inside = omega arith; whole = ap (λ (z : ℕ). take z (drop first ns)) e }

  -- the last
  pub run_last : first + count ≡ length ns → count ≤ entries_per_block → Run ns first count
  run_last e h =
      let l : length (drop first ns) ≡ count = simp length-drop (omega arith) in
      record { few = h; inside = omega arith; whole = take_all count (drop first ns) (omega arith) ∙ sym (take_all entries_per_block (drop first ns) (omega arith)) }

-- as many as are left, and no more than a block has room for
pub run_most : {ns : List ℕ} {first count all : ℕ} → first ≤ length ns → count ≡ min (all - first) entries_per_block → all ≡ length ns → Run ns first count
run_most {first = first} {all = all} l h e =
    ⊎_elim (λ x. run_full (omega arith) (omega (arith, h))) (λ x. run_last (omega (arith, h)) (omega (arith, h))) (lt_or_ge entries_per_block (all - first))
