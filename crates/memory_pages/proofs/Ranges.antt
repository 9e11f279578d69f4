-- What a memory with room is known to have, as numbers of its bytes, and an entry by its place.
use Rattle.block_forms.specs.Limits.{block_limit}
use Rattle.basics.proofs.Kit.{◌≡◌, refl, ap, ⊎_elim, List, ℕ, suc, ◌+◌, ◌%◌, ◌≤◌, ◌<◌, zero, ◌/◌, ◌-◌, add-zero, eqb, arith}
use Rattle.basics.proofs.Tabs.{lt_or_ge, tab_at}
use Rattle.memory_layout.specs.Views.{head_of, row_count, page_count, table_at, start_at, block_word, entry_at}
use Rattle.memory_layout.specs.Flat.{flat_of, capacity_of, entries_of, entry_in, no_entry, Room}
use Rattle.memory_layout.specs.declared.Entry.{Entry}
use Rattle.memory_layout.proofs.Laws.{Known, known}
pub use Rattle.memory_layout.proofs.Frame.{start_stored, start_behind}

pub ranges : {m : List ℕ} → Room m → Known m
ranges {m} room = known m room

-- ---- an entry by its place

module _ (m : List ℕ) (p : ℕ) (h : p < page_count m) where
  pub entry_at_lem : entry_in (flat_of m) p ≡ entry_at m (capacity_of m) p
  unfolding entries_of
  entry_at_lem = tab_at (entry_at m (capacity_of m)) (page_count m) p no_entry h

  pub entry_table : (entry_in (flat_of m) p).table ≡ table_at m p
  unfolding entry_at
  entry_table = ap (λ (e : Entry). e.table) entry_at_lem

  pub entry_count : (entry_in (flat_of m) p).count ≡ start_at m (capacity_of m) (suc p) - start_at m (capacity_of m) p
  unfolding entry_at
  entry_count = ap (λ (e : Entry). e.count) entry_at_lem

  pub entry_frozen : (entry_in (flat_of m) p).frozen ≡ eqb (block_word m (capacity_of m) p / block_limit % 2) 1
  unfolding entry_at
  entry_frozen = ap (λ (e : Entry). e.frozen) entry_at_lem

  pub entry_block : (entry_in (flat_of m) p).block ≡ block_word m (capacity_of m) p % block_limit
  unfolding entry_at
  entry_block = ap (λ (e : Entry). e.block) entry_at_lem

-- ---- a page's start

-- a step from number to number, many steps
pub rising : (E : ℕ → ℕ) (a k : ℕ) → ((t : ℕ) → a ≤ t → t < a + k → E t ≤ E (t + 1)) → E a ≤ E (a + k)
rising E a zero h = omega (arith, ap E (add-zero a))
rising E a (suc k) h =
    let e : a + suc k ≡ a + k + 1 = omega arith in
    omega (arith, rising E a k (λ t p q. h t p (omega arith)), h (a + k) (omega arith) (omega arith), ap E e)

-- pages do not start before those below them, and none behind the rows
module _ {m : List ℕ} (room : Room m) where
  pub start_step : (p : ℕ) → start_at m (capacity_of m) p ≤ start_at m (capacity_of m) (p + 1)
  start_step p = ⊎_elim (λ h. room.rises p h) (λ h. omega (arith, start_behind m (capacity_of m) p h, start_behind m (capacity_of m) (p + 1) (omega arith))) (lt_or_ge p (page_count m))

  pub starts_rise : (p q : ℕ) → p ≤ q → start_at m (capacity_of m) p ≤ start_at m (capacity_of m) q
  starts_rise p q h =
      let e : p + (q - p) ≡ q = omega arith in
      omega (arith, rising (start_at m (capacity_of m)) p (q - p) (λ t a b. start_step t), ap (start_at m (capacity_of m)) e)

  pub start_most : (p : ℕ) → start_at m (capacity_of m) p ≤ row_count m
  start_most p =
      omega (arith, starts_rise p (p + page_count m) (omega arith), start_behind m (capacity_of m) (p + page_count m) (omega arith))

-- the capacity in the head
pub head_capacity : (m : List ℕ) → (flat_of m).head.capacity ≡ capacity_of m
unfolding head_of
head_capacity m = refl
