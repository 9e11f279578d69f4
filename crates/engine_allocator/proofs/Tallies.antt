-- Counts and searches of blocks, turn by turn, and what they say of the store.
use Rattle.basics.proofs.Kit.{◌≡◌, refl, sym, ap, ◌∙◌, Bool, true, false, not, some, none, Option, List, [], ◌∷◌, ◌++◌, ℕ, suc, ◌+◌, ◌≤◌, ◌<◌, zero, ◌-◌, length, take, drop, arith}
use Rattle.basics.specs.Basics.{how_many, first, from}
use Rattle.image.specs.Stages.{directories_for, capacity_limit}
use Rattle.model.specs.State.{Held, Page}
use Rattle.model.specs.Rules.{is_dirty, is_frozen}
use Rattle.model.specs.Checkpoint.{allocate, is_free, free_count, blocks_needed}
use Rattle.basics.proofs.Elements.{many_length}
use Rattle.memory_layout.specs.Views.{head_of}
use Rattle.memory_layout.specs.Flat.{Flat, flat_of, Room}
use Rattle.memory_layout.specs.Store.{page_of, nest, pages_in, holds_store, store_of}
use Rattle.memory_layout.specs.declared.Entry.{Entry}
use Rattle.memory_layout.proofs.Laws.{Known, known, sizes, filled, holds_room}
use Rattle.memory_layout.proofs.Nest.{counted_length}
use Rattle.memory_layout.proofs.Exchange.{pages_count}
use Rattle.memory_pages.specs.Pages.{frozen_entry, dirty_entry}
use Rattle.engine_pages.specs.Pages.{pages_of}
use Rattle.engine_pages.proofs.Places.{counted}
use Rattle.std.specs.Prelude.{Option as Found, Some, None}
use Rattle.std.specs.Option.{unwrap_or}
use Rattle.engine_allocator.specs.Blocks.{FirstFree}
use Rattle.basics.proofs.Firsts.{first_hit, first_past, first_some, first_skip, from_iteration, from_end}

-- ---- counts

pub free_is : (f : Flat) → free_count (store_of f) ≡ how_many (λ b. not (f.used b)) (from 1 (f.head.blocks - 1))
unfolding free_count is_free store_of
free_is f = refl

-- ---- how many pages

-- where every page has a row, there are at most as many as the capacity
pub pages_few : (m : List ℕ) → holds_store m ≡ true → length (flat_of m).entries ≤ (flat_of m).head.capacity
unfolding head_of
pages_few m h =
    let r : Room m = holds_room m h in
    let k : Known m = known m r in
    omega (arith, counted_length (flat_of m).entries (counted m h), filled m r)

pub pages_most : (m : List ℕ) → holds_store m ≡ true → length (flat_of m).entries ≤ capacity_limit
pages_most m h = omega (arith, pages_few m h, (holds_room m h).range.most)

-- ---- pages by their entries

module _ (f : Page → Bool) (g : Entry → Bool) (same : (e : Entry) (hs : List Held) → f (page_of e hs) ≡ g e) where
  many_nest : (es : List Entry) (hs : List Held) → how_many f (nest es hs) ≡ how_many g es
  unfolding how_many nest
  many_nest [] hs = refl
  many_nest (e ∷ es) hs = rw (same e (take e.count hs), many_nest es (drop e.count hs))

  many_from : (p : ℕ) (es : List Entry) (hs : List Held) → how_many f (drop p (nest es hs)) ≡ how_many g (drop p es)
  unfolding nest how_many
  many_from zero es hs = many_nest es hs
  many_from (suc p) [] hs = refl
  many_from (suc p) (e ∷ es) hs = many_from p es (drop e.count hs)

frozen_entry_lem : (e : Entry) (hs : List Held) → is_frozen (page_of e hs) ≡ frozen_entry e
unfolding is_frozen page_of
frozen_entry_lem e hs = refl

dirty_entry_lem : (e : Entry) (hs : List Held) → is_dirty (page_of e hs) ≡ dirty_entry e
unfolding is_dirty page_of
dirty_entry_lem e hs = refl

pub frozen_many : (f : Flat) (p : ℕ) → how_many is_frozen (drop p (pages_in f)) ≡ how_many frozen_entry (drop p f.entries)
frozen_many f p = many_from is_frozen frozen_entry frozen_entry_lem p f.entries f.rows

pub frozen_few : {m : List ℕ} → Room m → how_many is_frozen (pages_of m) ≤ 2048
frozen_few {m} r = omega (arith, many_length is_frozen (pages_of m), pages_count (flat_of m), sizes r)

module _ (f : Flat) where
  pub needed_is : how_many dirty_entry f.entries + directories_for (length f.entries) ≡ blocks_needed (pages_in f)
  unfolding blocks_needed
  needed_is =
      λ i. sym (many_nest is_dirty dirty_entry dirty_entry_lem f.entries f.rows) i + directories_for (sym (pages_count f) i)

  pub dirty_few : how_many dirty_entry f.entries ≤ length f.entries
  dirty_few = many_length dirty_entry f.entries

-- ---- searches

-- the search from block a on, up to, not including, block e
abbrev pub search : (ℕ → Bool) → ℕ → ℕ → Option ℕ
search used a e = first (λ b. not (used b)) (from a (e - a))

module _ (used : ℕ → Bool) (a e : ℕ) where
  pub free_hit : a < e → used a ≡ false → search used a e ≡ some a
  free_hit h u = ap (first (λ b. not (used b))) (from_iteration a e h) ∙ first_hit _ a _ (ap not u)

  pub free_miss : a < e → used a ≡ true → search used a e ≡ search used (a + 1) e
  free_miss h u = ap (first (λ b. not (used b))) (from_iteration a e h) ∙ first_past _ a _ (ap not u)

  pub free_end : e ≤ a → search used a e ≡ none
  unfolding first
  free_end h = ap (first (λ b. not (used b))) (from_end a e h)

-- the model's search goes over both ranges, from the block after the one last taken on and from block 1 up to it
module _ (f : Flat) {n t : ℕ} (en : n ≡ f.head.blocks) (et : t ≡ f.head.taken) where
  abbrev found : Option ℕ → ℕ
  found o = elim o [ some b ↦ b | none ↦ n - 1 ]

  alloc_is : allocate (store_of f) ≡ found (first (λ b. not (f.used b)) (from (t + 1) (n - (t + 1)) ++ from 1 (t + 1 - 1)))
  unfolding allocate is_free store_of
  alloc_is =
      let e : suc f.head.taken ≡ t + 1 = omega arith in
      let d : f.head.taken ≡ t + 1 - 1 = omega arith in
      λ i. elim (first (λ b. not (f.used b)) (from (e i) (sym en i - e i) ++ from 1 (d i))) [ some b ↦ b | none ↦ sym en i - 1 ]

  pub alloc_up : {b : ℕ} → search f.used (t + 1) n ≡ some b → b ≡ allocate (store_of f)
  alloc_up h = sym (alloc_is ∙ ap found (first_some _ _ _ _ h))

  module _ (h : search f.used (t + 1) n ≡ none) where
    rest_is : allocate (store_of f) ≡ found (search f.used 1 (t + 1))
    rest_is = alloc_is ∙ ap found (first_skip _ _ _ h)

    pub alloc_round : (o : Found ℕ) → FirstFree f.used 1 (t + 1) o → unwrap_or o (n - 1) ≡ allocate (store_of f)
    alloc_round (Some b) g = sym (rest_is ∙ ap found g.0)
    alloc_round None g = sym (rest_is ∙ ap found g)

-- what is found is below the end of its range, and the last block is one
pub round_low : (used : ℕ → Bool) (t n : ℕ) (o : Found ℕ) → FirstFree used 1 (t + 1) o → t < n → unwrap_or o (n - 1) < n
round_low used t n (Some b) g h = omega (arith, g.1)
round_low used t n None g h = omega arith
