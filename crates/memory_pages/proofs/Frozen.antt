-- The first frozen page, by the numbers of two bytes that name the pages' blocks.
use Rattle.basics.proofs.Kit.{◌≡◌, refl, ap, ◌∙◌, cond, List, ℕ, suc, ◌+◌, ◌*◌, ◌≤◌, zero, ◌-◌, length, arith}
use Rattle.memory_bytes.specs.Bytes.{column2}
use Rattle.basics.specs.Lists.{tab, first_index}
use Rattle.memory_layout.specs.Places.{blocks_at}
use Rattle.memory_layout.specs.Views.{page_count, entry_at}
use Rattle.memory_layout.specs.Flat.{flat_of, capacity_of, entries_of, Room}
use Rattle.memory_pages.specs.Pages.{frozen_word, frozen_entry}
use Rattle.memory_pages.proofs.Ranges.{ranges}

frozen_run : (m : List ℕ) (c i n : ℕ) → first_index frozen_word (tab (column2 m (blocks_at c)) i n) ≡ first_index frozen_entry (tab (entry_at m c) i n)
unfolding first_index entry_at
frozen_run m c i zero = refl
frozen_run m c i (suc n) = ap (λ (z : ℕ). cond (frozen_word (column2 m (blocks_at c) i)) 0 (suc z)) (frozen_run m c (suc i) n)

pub frozen_entries : (m : List ℕ) {n base : ℕ} → n ≡ page_count m → base ≡ blocks_at (capacity_of m)
    → first_index frozen_word (tab (column2 m base) 0 (n - 0)) ≡ first_index frozen_entry (flat_of m).entries
unfolding entries_of
frozen_entries m {n} {base} e eb =
    let z : n - 0 ≡ page_count m = omega arith in
    ap (λ (k : ℕ). first_index frozen_word (tab (column2 m base) 0 k)) z
    ∙ ap (λ (k : ℕ). first_index frozen_word (tab (column2 m k) 0 (page_count m))) eb ∙ frozen_run m (capacity_of m) 0 (page_count m)

-- the blocks of the pages are inside
pub blocks_inside : {m : List ℕ} {n base : ℕ} → Room m → n ≡ page_count m → base ≡ blocks_at (capacity_of m) → base + n * 2 ≤ length m
blocks_inside {m} r e eb = let k = ranges r in omega arith
