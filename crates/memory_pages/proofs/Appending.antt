-- A page and a row behind all others: no row and no other page is moved.
use Rattle.block_forms.specs.Limits.{block_limit}
use Rattle.basics.proofs.Kit.{◌≡◌, sym, ap, ◌∙◌, false, List, [], ◌∷◌, ◌++◌, ℕ, ◌+◌, ◌*◌, ◌≤◌, ◌<◌, add-zero, length, get_or, set, arith, get_or-append_seam}
use Rattle.memory_bytes.specs.Bytes.{bytes2, Wrote}
use Rattle.basics.specs.Lists.{insert_at}
use Rattle.memory_bytes.proofs.Bytes.{le2_cong, le4_cong}
use Rattle.memory_layout.specs.Places.{refs_at, starts_at, blocks_at, head_size}
use Rattle.memory_layout.specs.Views.{page_count, start_at, slot_of}
use Rattle.memory_layout.specs.Flat.{Flat, flat_of, capacity_of, rows_of, no_entry, entry_in, Room, Becomes, with_entries}
use Rattle.memory_layout.specs.declared.Entry.{Entry}
use Rattle.memory_layout.proofs.Laws.{entries_length, rows_length}
use Rattle.memory_rows.specs.Cells.{slot_in, InOrder}
use Rattle.basics.proofs.Parts.{insert_last}
use Rattle.memory_pages.specs.Columns.{Opened}
use Rattle.memory_pages.specs.Pages.{MayAppend, dirty, clean, with_block, word_of, EntriesBecome}
use Rattle.memory_pages.proofs.Ranges.{ranges}
use Rattle.memory_pages.proofs.Entries.{Stands, stands}
use Rattle.memory_pages.proofs.Changes.{then_entries, block_set, page_inserted}
use Rattle.basics.proofs.Parts.{last_set}

-- ---- no row is moved

order_kept : {m m' : List ℕ} → Room m → ((b : ℕ) → b < 32 → get_or m' b 0 ≡ get_or m b 0)
    → ((b : ℕ) → head_size ≤ b → b < starts_at (capacity_of m) → get_or m' b 0 ≡ get_or m b 0) → length (rows_of m') ≡ length (rows_of m) → InOrder m → InOrder m'
unfolding slot_in
order_kept {m} {m'} room low refs same o =
    let c : ℕ = capacity_of m in
    let cap : capacity_of m' ≡ c = le4_cong m m' 4 4 (λ j b. low (4 + j) (omega arith)) in
    record {
      slot = λ i h.
          let a : ℕ = refs_at c + i * 2 in
          let l : i < c = omega (arith, rows_length m, ranges room) in
          ap (λ (k : ℕ). slot_in m' k i) cap ∙ ap (slot_of c) (le2_cong m m' a a (λ j b. refs (a + j) (omega arith) (omega arith))) ∙ o.slot i (omega arith);
    }

-- ---- a page

pub last_stands : {m : List ℕ} {n t b : ℕ} → Room m → n ≡ page_count m → MayAppend (flat_of m) t b → Stands m n t
last_stands {m} room en a =
    let l : length (flat_of m).entries ≡ page_count m = entries_length m in
    stands room (record { table = a.table; most = omega arith; below = λ j h. a.below j (omega arith); above = λ j h k. absurd (omega arith) })

module _ {m m1 : List ℕ} {n t x b : ℕ} (room : Room m) (en : n ≡ page_count m) (s : Stands m n t) (space : page_count m < 2 * capacity_of m) (fits : b < block_limit)
    (ex : x ≡ start_at m (capacity_of m) n) (o : Opened m m1 n t x) where
  opened : Becomes m m1 (with_entries (flat_of m) (insert_at n (dirty t 0) (flat_of m).entries))
  opened = page_inserted room s space (omega arith) ex o

  pub open_room : Room m1
  open_room = opened.room

  pub open_pages : page_count m1 ≡ n + 1
  open_pages = omega (arith, o.ends_from 7 (omega (arith, s.table)) (omega arith))

  module _ {m2 : List ℕ} {a : ℕ} (ea : a ≡ blocks_at (capacity_of m1)) (w : Wrote m1 m2 (a + n * 2) (bytes2 b)) where
    pub page_appended : EntriesBecome m m2 (λ es. es ++ clean t b 0 ∷ [])
    unfolding word_of
    page_appended =
        let es : List Entry = (flat_of m).entries in
        let d : Entry = dirty t 0 in
        let ew : b ≡ word_of b false = sym (add-zero b) in
        let p = block_set false open_room (omega (arith, open_pages)) fits ew ea w in
        let q : Becomes m m2 (with_entries (flat_of m) (set (flat_of m1).entries n (with_block (entry_in (flat_of m1) n) b false))) = then_entries opened p in
        let e1 : (flat_of m1).entries ≡ es ++ d ∷ [] = ap (λ (f : Flat). f.entries) opened.flat ∙ insert_last n d es (en ∙ sym (entries_length m)) in
        let k : n ≡ length es = en ∙ sym (entries_length m) in
        let e2 : set (flat_of m1).entries n (with_block (entry_in (flat_of m1) n) b false) ≡ es ++ clean t b 0 ∷ [] =
        (λ i. set (e1 i) (k i) (with_block (get_or (e1 i) (k i) no_entry) b false))
        ∙ ap (λ (z : Entry). set (es ++ d ∷ []) (length es) (with_block z b false)) (get_or-append_seam es d [] no_entry)
        ∙ last_set es d (clean t b 0) in
        record { size = q.size; room = q.room; flat = q.flat ∙ (λ i. with_entries (flat_of m) (e2 i)) }

    pub page_order : InOrder m → InOrder m2
    page_order i =
        let c1 : capacity_of m1 ≡ capacity_of m = le4_cong m m1 4 4 (λ j b. o.only.below (4 + j) (omega arith)) in
        order_kept room
        (λ b h. w.apart.below b (omega arith) ∙ o.only.below b (omega arith))
        (λ b h k. w.apart.below b (omega arith) ∙ o.only.between b (omega arith) (omega arith))
        (ap (λ (f : Flat). length f.rows) page_appended.flat) i
