-- The page that has a row, by a count of the pages that start at or before it.
use Rattle.basics.proofs.Kit.{◌≡◌, sym, ap, ◌∙◌, ⊎_elim, List, ℕ, ◌+◌, ◌≤◌, ◌<◌, ◌-◌, arith}
use Rattle.basics.specs.Basics.{how_many}
use Rattle.memory_bytes.specs.Bytes.{column2}
use Rattle.memory_bytes.specs.Columns.{up_to}
use Rattle.basics.specs.Lists.{tab}
use Rattle.basics.proofs.Tabs.{lt_or_ge}
use Rattle.memory_layout.specs.Places.{starts_at}
use Rattle.memory_layout.specs.Views.{page_count}
use Rattle.memory_layout.specs.Flat.{flat_of, capacity_of, Room}
use Rattle.memory_layout.specs.Store.{start_of}
use Rattle.memory_layout.proofs.Laws.{starts, entries_length}
use Rattle.memory_pages.specs.Pages.{OnPages, PageOf}
use Rattle.memory_pages.proofs.Ranges.{start_stored}
use Rattle.memory_pages.proofs.Tables.{cut, count_cut}

-- k pages start at or before row i: at least one, and the last of them has it
pub record Found (m : List ℕ) (a b i k : ℕ) : Type 0 where
  pub least : 1 ≤ k
  pub most : a + k ≤ b
  pub page : PageOf (flat_of m) a b i (a + k - 1)

pub found : {m : List ℕ} → Room m → (a b i k : ℕ) → OnPages (flat_of m) a b i
    → k ≡ how_many (up_to i) (tab (column2 m (starts_at (capacity_of m))) a (b - a)) → Found m a b i k
found {m} room a b i k on e =
    let c : ℕ = capacity_of m in
    let E : ℕ → ℕ = column2 m (starts_at c) in
    let some : a < b = on.some in
    let top : b ≤ page_count m = omega (arith, entries_length m, on.most) in
    let at : (j : ℕ) → j < b → E j ≡ start_of (flat_of m) j =
    λ j h. sym (start_stored m c j (omega arith)) ∙ starts m room j (omega arith) in
    let r = cut E i a (b - a)
    (λ t u v. omega (arith, start_stored m c t (omega arith), start_stored m c (t + 1) (omega arith), room.rises t (omega arith))) in
    let n : k ≡ r.at = e ∙ count_cut E i a (b - a) r.at r.most r.low r.high in
    let most : r.at ≤ b - a = r.most in
    let one : 1 ≤ k = ⊎_elim (λ h. omega arith) (λ h. absurd (omega (arith, r.high a (omega arith) (omega arith), at a some, on.first))) (lt_or_ge 0 r.at) in
    let q : a + k - 1 + 1 ≡ a + k = omega arith in
    record {
      least = one;
      most = omega arith;
      page = record {
        low = omega arith;
        high = omega arith;
        first = omega (arith, r.low (a + k - 1) (omega arith) (omega arith), at (a + k - 1) (omega arith));
        last = ⊎_elim
            (λ h. omega (arith, r.high (a + k) (omega arith) (omega arith), at (a + k) h, ap (start_of (flat_of m)) q))
            (λ h. let z : a + k - 1 + 1 ≡ b = omega arith in omega (arith, on.last, ap (start_of (flat_of m)) z))
            (lt_or_ge (a + k) b);
      };
    }
