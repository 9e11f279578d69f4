-- Begin: the list of all pages, the store that it leaves, and its tests.
use Rattle.block_forms.specs.Limits.{block_limit}
use Rattle.basics.proofs.Kit.{◌≡◌, refl, sym, ap, ◌∙◌, true, false, some, List, [], ◌∷◌, ◌++◌, map, ℕ, ◌+◌, ◌≤◌, ◌<◌, add-one, eqb, length, take, get_or, length-map, take_all, take-suc}
use Rattle.basics.proofs.Kit.{length-take-le, lt-ltb, le-ltb, eq-eqb, ne_eqb, arith}
use Rattle.basics.specs.Basics.{if'◌then◌else◌, all}
use Rattle.basics.proofs.Lists.{map_append}
use Rattle.model.specs.State.{Held, Page, Checkpoint, running, Store}
use Rattle.model.specs.Rules.{freeze}
use Rattle.model.specs.Transactions.{gives, unless, changed}
use Rattle.model.specs.Checkpoint.{with_progress, is_running, free_count, blocks_needed, begun, begin_call}
use Rattle.memory_layout.specs.Flat.{Flat, flat_of, no_entry, entry_in, Room, Replaces, Becomes, with_head, with_named, with_directories}
use Rattle.memory_layout.specs.Store.{page_of, nest, pages_in, has_rows, holds_store, store_of, HoldsNow}
use Rattle.memory_layout.specs.declared.Entry.{Entry}
use Rattle.memory_layout.specs.declared.Head.{Head}
use Rattle.memory_layout.proofs.Laws.{level_is, store_pages, holds_counted, held_again, becomes_then, entries_length}
use Rattle.memory_pages.proofs.Ranges.{entry_block}
use Rattle.engine_pages.specs.Pages.{with_pages, pages_of}
use Rattle.engine_allocator.proofs.Tallies.{pages_few}
use Rattle.call_checkpoint.proofs.Running.{runs_is}
use Rattle.model.specs.State as model

-- ---- the list of all pages

abbrev pub block_in : Entry → ℕ
block_in e = e.block

-- the first p entries are named
pub record Naming (m m' : List ℕ) (p : ℕ) : Type 0 where
  pub inside : p ≤ length (flat_of m).entries
  pub becomes : Becomes m m' (with_named (flat_of m) (map block_in (take p (flat_of m).entries)))

pub naming_start : (m : List ℕ) → Room m → (flat_of m).named ≡ [] → Naming m m 0
naming_start m r e =
    record { inside = omega arith; becomes = record { size = refl; room = r; flat = ap (with_named (flat_of m)) e } }

module _ {m m' : List ℕ} {p : ℕ} (c : Naming m m' p) where
  flat_is : flat_of m' ≡ with_named (flat_of m) (map block_in (take p (flat_of m).entries))
  flat_is = c.becomes.flat

  pub naming_end : length (flat_of m).entries ≤ p → Becomes m m' (with_named (flat_of m) (map block_in (flat_of m).entries))
  naming_end h =
      record {
        size = c.becomes.size;
        room = c.becomes.room;
        flat = flat_is ∙ ap (λ (es : List Entry). with_named (flat_of m) (map block_in es)) (take_all p (flat_of m).entries h);
      }

  module _ (h : p < length (flat_of m).entries) where
    pub naming_in : p < length (flat_of m').entries
    naming_in = omega (arith, h, ap (λ (f : Flat). length f.entries) flat_is)

    pub naming_room : holds_store m ≡ true → length (flat_of m').named < (flat_of m').head.capacity
    naming_room held =
        let es : List Entry = take p (flat_of m).entries in
        let a : length (flat_of m').named ≡ length (map block_in es) = ap (λ (f : Flat). length f.named) flat_is in
        let b : (flat_of m').head.capacity ≡ (flat_of m).head.capacity = ap (λ (f : Flat). f.head.capacity) flat_is in
        omega (arith, a, b, length-map es block_in, length-take-le p (flat_of m).entries c.inside, h, pages_few m held)

    pub naming_low : {b : ℕ} → b ≡ (entry_in (flat_of m') p).block → b < block_limit
    naming_low e = omega (arith, entry_block m' p (omega (arith, entries_length m', naming_in)))

    pub naming_iteration : {b : ℕ} → b ≡ (entry_in (flat_of m') p).block → {m2 : List ℕ} → Becomes m' m2 (with_named (flat_of m') ((flat_of m').named ++ b ∷ []))
        → Naming m m2 (p + 1)
    naming_iteration {b} q u =
        let es : List Entry = (flat_of m).entries in
        let q2 : b ≡ (get_or es p no_entry).block = q ∙ ap (λ (f : Flat). (get_or f.entries p no_entry).block) flat_is in
        let k : take (p + 1) es ≡ take p es ++ get_or es p no_entry ∷ [] = ap (λ (z : ℕ). take z es) (add-one p) ∙ take-suc es p no_entry h in
        record {
          inside = omega (arith, h);
          becomes = record {
            size = u.size ∙ c.becomes.size;
            room = u.room;
            flat =
                u.flat ∙ ap (λ (f : Flat). with_named f (f.named ++ b ∷ [])) flat_is
                ∙ ap (λ (z : ℕ). with_named (flat_of m) (map block_in (take p es) ++ z ∷ [])) q2
                ∙ ap (with_named (flat_of m)) (sym (ap (map block_in) k ∙ map_append block_in (take p es) (get_or es p no_entry ∷ [])));
          };
        }

-- ---- the store that is left

names_are : (es : List Entry) (hs : List Held) → map block_in es ≡ map (λ p. p.block) (nest es hs)
unfolding nest page_of
names_are [] hs = refl
names_are (e ∷ es) hs = ap (λ (z : List ℕ). e.block ∷ z) (names_are es _)

-- where the entries stay, a store is held again
pub held_still : {m m' : List ℕ} {f : Flat} → holds_store m ≡ true → Becomes m m' f → f.entries ≡ (flat_of m).entries → holds_store m' ≡ true
held_still {m} {m'} held b e =
    held_again m' b.room (ap (λ (x : Flat). all has_rows x.entries) b.flat ∙ ap (all has_rows) e ∙ holds_counted m held)

-- a head of the same capacity and blocks may take another's place
pub head_replaces : (m : List ℕ) (h g : Head) → Room m → h ≡ (flat_of m).head → g.capacity ≡ h.capacity → g.blocks ≡ h.blocks → g.taken < g.blocks
    → Replaces (flat_of m).head g
head_replaces m h g r e c b t =
    let eb : h.blocks ≡ (flat_of m).head.blocks = ap (λ (x : Head). x.blocks) e in
    record {
      capacity = c ∙ ap (λ (x : Head). x.capacity) e;
      few = omega (arith, r.range.few);
      many = omega (arith, r.range.many);
      taken = t;
    }

-- the block last taken is below the blocks
pub taken_low : (m : List ℕ) (h : Head) → Room m → h ≡ (flat_of m).head → h.taken < h.blocks
taken_low m h r e = omega (arith, r.range.taken, ap (λ (x : Head). x.blocks) e, ap (λ (x : Head). x.taken) e)

-- the head at begin
abbrev begin_head : Head → Head
begin_head h =
    record { capacity = h.capacity; blocks = h.blocks; level = h.level; next = h.next; running = true; begun = h.next; taken = h.taken }

-- the flat lists before the pages are frozen
abbrev listed : Flat → Flat
listed f = with_head (with_directories (with_named f (map block_in f.entries)) []) (begin_head f.head)

frozen_store : (f : Flat) → with_pages (store_of (listed f)) (map freeze (pages_in (listed f)))
    ≡ with_progress (store_of f) (store_of f).level (map freeze (pages_in f)) (store_of f).used (store_of f).taken (store_of (listed f)).checkpoint
unfolding with_pages changed with_progress store_of
frozen_store f = refl

begun_is : (f : Flat) → f.head.level < 4294967295 → with_pages (store_of (listed f)) (map freeze (pages_in (listed f))) ≡ begun (store_of f)
unfolding store_of
begun_is f h =
    let s : Store = store_of f in
    let ps : List Page = map freeze (pages_in f) in
    frozen_store f
    ∙ ap (λ (c : Checkpoint). with_progress s s.level ps s.used s.taken c) (runs_is (listed f) refl h)
    ∙ ap (λ (es : List ℕ). with_progress s s.level ps s.used s.taken (running f.head.next es [])) (names_are f.entries _)

module _ {m m1 m2 m3 m4 : List ℕ} (held : holds_store m ≡ true)
    (a : Becomes m m1 (with_named (flat_of m) []))
    (b : Becomes m1 m2 (with_named (flat_of m1) (map block_in (flat_of m1).entries)))
    (d : Becomes m2 m3 (with_directories (flat_of m2) []))
    (h : Head) (eh : h ≡ (flat_of m3).head)
    (e : Becomes m3 m4 (with_head (flat_of m3) (begin_head h))) where
  pub begin_flat : Becomes m m4 (listed (flat_of m))
  begin_flat =
      let x2 = becomes_then m m1 m2 _ (λ f. with_named f (map block_in f.entries)) a b in
      let x3 = becomes_then m m2 m3 _ (λ f. with_directories f []) x2 d in
      record {
        size = e.size ∙ x3.size;
        room = e.room;
        flat = e.flat ∙ ap (λ (z : Head). with_head (flat_of m3) (begin_head z)) eh ∙ ap (λ (f : Flat). with_head f (begin_head f.head)) x3.flat;
      }

  pub begin_held : holds_store m4 ≡ true
  begin_held = held_still held begin_flat refl

  pub begin_holds : (flat_of m).head.level < 4294967295 → {m5 : List ℕ} → HoldsNow m4 m5 (with_pages (store_of (flat_of m4)) (map freeze (pages_of m4)))
      → HoldsNow m m5 (begun (store_of (flat_of m)))
  begin_holds low t =
      record {
        size = t.size ∙ begin_flat.size;
        store =
            t.store
            ∙ ap (λ (f : Flat). some (with_pages (store_of f) (map freeze (pages_in f)))) begin_flat.flat
            ∙ ap some (begun_is (flat_of m) low);
      }

-- ---- the tests

module _ (f : Flat) where
  abbrev S : Store
  S = store_of f

  pub begin_17 : is_running (store_of f).checkpoint ≡ true → begin_call (store_of f) ≡ gives (model.refused 17) (store_of f)
  unfolding begin_call unless if'◌then◌else◌
  begin_17 e = rw e

  module _ (h17 : is_running (store_of f).checkpoint ≡ false) where
    pub begin_19 : f.head.level ≡ 4294967295 → begin_call (store_of f) ≡ gives (model.refused 19) (store_of f)
    unfolding begin_call unless if'◌then◌else◌
    begin_19 e = rw (h17, eq-eqb S.level 4294967295 (level_is f ∙ e))

    module _ (h19 : f.head.level ≡ 4294967295 → ⊥) where
      level_low : eqb S.level 4294967295 ≡ false
      level_low = ne_eqb S.level 4294967295 (λ q. h19 (sym (level_is f) ∙ q))

      pub begin_20 : free_count (store_of f) < blocks_needed (pages_in f) → begin_call (store_of f) ≡ gives (model.refused 20) (store_of f)
      unfolding begin_call unless if'◌then◌else◌
      begin_20 l = rw (h17, level_low, lt-ltb (free_count S) (blocks_needed S.pages) (omega (arith, l, ap blocks_needed (store_pages f))))

      pub begin_done : blocks_needed (pages_in f) ≤ free_count (store_of f)
          → begin_call (store_of f) ≡ gives (model.count (blocks_needed (pages_in f) + 1)) (begun (store_of f))
      unfolding begin_call unless if'◌then◌else◌
      begin_done l =
          rw (h17, level_low, le-ltb (free_count S) (blocks_needed S.pages) (omega (arith, l, ap blocks_needed (store_pages f))))
          (ap (λ (ps : List Page). gives (model.count (blocks_needed ps + 1)) (begun S)) (store_pages f))
