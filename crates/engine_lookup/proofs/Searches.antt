-- What the searches by key find of the rows with a key.
use Rattle.basics.proofs.Kit.{◌≡◌, refl, sym, ap, ◌∙◌, Bool, false, cond, ℕ, suc, ◌+◌, ◌≤◌, zero, ◌-◌, leb, length, ne_eqb, leb-false, arith}
use Rattle.memory_bytes.specs.Columns.{up_to, Covers}
use Rattle.basics.specs.Lists.{tab, last_index}
use Rattle.basics.proofs.Tabs.{length_tab}
use Rattle.basics.proofs.Found.{last_most, last_behind}
use Rattle.basics.proofs.Tabs.{tab_within}
use Rattle.memory_layout.specs.Flat.{Flat, row_in}
use Rattle.memory_rows.specs.Rows.{key_in}
use Rattle.memory_pages.specs.Spots.{key_up_to}

module _ (f : Flat) (k : ℕ) where
  module _ (s e : ℕ) (h : s ≤ e) where
    -- what is found is one of the rows, or the start
    pub last_in : (g : ℕ → Bool) {b : ℕ} → b ≡ s + last_index g (tab (key_in f) s (e - s)) → (s ≤ b) × (b ≤ e)
    last_in g eb = (omega arith, omega (arith, last_most g 0 (tab (key_in f) s (e - s)), length_tab (key_in f) s (e - s)))

    -- behind the last row with a key not above there is none with the key
    pub place_covers : {b : ℕ} → b ≡ s + last_index (up_to k) (tab (key_in f) s (e - s)) → Covers (key_in f) k s e s b
    place_covers {b} eb =
        let i = last_in (up_to k) eb in
        let n : length (tab (key_in f) s (e - s)) ≡ e - s = length_tab (key_in f) s (e - s) in
        record {
          low = omega arith;
          order = omega arith;
          high = omega arith;
          before = λ j x y. absurd (omega arith);
          behind = λ j x y.
              let q : leb (key_in f j) k ≡ false =
              ap (up_to k) (sym (tab_within (key_in f) s (e - s) j 0 (omega arith) (omega arith)))
              ∙ last_behind (up_to k) 0 (tab (key_in f) s (e - s)) (j - s) (omega arith) (omega arith) in
              ne_eqb (key_in f j) k (λ z. omega (arith, leb-false (key_in f j) k q));
        }

  -- a search in the keys is one in the rows
  pub last_keys : (s n : ℕ) → last_index (up_to k) (tab (key_in f) s n) ≡ last_index (key_up_to k) (tab (row_in f) s n)
  unfolding last_index
  last_keys s zero = refl
  last_keys s (suc n) = ap (λ (z : ℕ). elim z [ zero ↦ cond (leb (key_in f s) k) 1 0 | suc j ↦ suc (suc j) ]) (last_keys (suc s) n)
