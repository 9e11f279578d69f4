-- A row goes on a page, or on a new page.
use Rattle.basics.proofs.Kit.{◌≡◌, refl, sym, ap, ◌∙◌, subst, true, false, List, [], ◌∷◌, ◌++◌, map, ℕ, suc, ◌+◌, ◌*◌, ◌<◌, ◌-◌, length, take, drop, get_or, set, length-set, length-take-le}
use Rattle.basics.proofs.Kit.{get_or-append_seam, set_at, arith}
use Rattle.basics.specs.Basics.{if'◌then◌else◌}
use Rattle.block_forms.specs.Tuple.{Tuple}
use Rattle.model.specs.State.{adding, Held, Page}
use Rattle.model.specs.Rules.{split_once, fresh, without_pending, grown, entering, with_pending, with_tuples}
use Rattle.basics.specs.Lists.{insert_at}
use Rattle.memory_layout.specs.Flat.{Flat, flat_of, row_in, no_row, no_entry, Becomes, with_rows, with_entries}
use Rattle.memory_layout.specs.Views.{head_of}
use Rattle.memory_layout.specs.Store.{nest, total}
use Rattle.memory_layout.specs.declared.Entry.{Entry}
use Rattle.memory_layout.proofs.Laws.{holds_room, filled, becomes_then}
use Rattle.memory_layout.proofs.Nest.{Counted, counted_length}
use Rattle.memory_layout.proofs.Exchange.{start_le, counted_set, counted_exchange, row_inserted, page_added}
use Rattle.basics.proofs.Parts.{length_insert}
use Rattle.memory_rows.specs.Rows.{held_by, pending_is, NewRow, with_row}
use Rattle.memory_rows.specs.declared.Pending.{Pending}
use Rattle.memory_rows.specs.declared.Row.{Row}
use Rattle.memory_pages.specs.Pages.{dirty, with_count, more_rows, EntriesBecome, RowsBecome, set_block}
use Rattle.engine_pages.specs.Pages.{PagesNow, pages_of, page_at, tuples_at, entry_of, first_row, There, swapped}
use Rattle.engine_pages.specs.Changes.{Dirty}
use Rattle.engine_pages.specs.Spots.{tuple_by, placed_on, NewTuple, GrowAt, AddAt}
use Rattle.engine_pages.proofs.Places.{now_to, now_again, now_becomes, counted, full, page_end, first_there, first_page, still_there}
use Rattle.engine_pages.proofs.Rows.{becomes_to, now_dirty}
use Rattle.engine_pages.proofs.Splitting.{dirty_fresh, fresh_page}
use Rattle.engine_pages.proofs.Removing.{page_less}

grown_frozen : (q : Page) (x : Tuple) (j : ℕ) → q.frozen ≡ true
    → placed_on x j q ≡ with_tuples q (insert_at j (record { tuple = x; pending = adding }) q.tuples) ∷ []
unfolding placed_on grown entering if'◌then◌else◌
grown_frozen q x j e = rw e

grown_split : (q : Page) (x : Tuple) (j : ℕ) → q.frozen ≡ false
    → placed_on x j q ≡ map (fresh q.table) (split_once (insert_at j (without_pending x) q.tuples))
unfolding placed_on grown entering without_pending if'◌then◌else◌
grown_split q x j e = rw e

-- a row with nothing pending
held_without_pending : {m : List ℕ} {row : Row} {xs : List ℕ} → NewTuple m row xs → held_by row xs ≡ without_pending (tuple_by row xs)
unfolding without_pending
held_without_pending {m} {row} {xs} n = ap (λ (z : Pending). record { tuple = tuple_by row xs; pending = pending_is z }) n.plain

module _ {m : List ℕ} {p at : ℕ} {row : Row} {xs : List ℕ} (g : GrowAt m p at row xs) where
  pub grow_there : There m p
  grow_there = record { has_store = g.tuple.has_store; inside = g.inside }

  pub grow_new : NewRow m at row xs
  grow_new = record {
    room = holds_room m g.tuple.has_store;
    at = omega (arith, g.most, page_end grow_there);
    more = g.tuple.more;
    owner = g.tuple.owner;
    payload = g.tuple.payload;
  }

  abbrev j : ℕ
  j = at - first_row m p

  abbrev x : Tuple
  x = tuple_by row xs

  abbrev after : Held → Flat
  after h = with_entries (with_rows (flat_of m) (insert_at at h (flat_of m).rows)) (more_rows p (flat_of m).entries)

  abbrev more : Entry
  more = with_count (entry_of m p) ((entry_of m p).count + 1)

  module _ {m1 : List ℕ} (u : Becomes m m1 (after (held_by row xs))) where
    pub more_there : p < length (flat_of m1).entries
    more_there = still_there p u (omega (arith, length-set (flat_of m).entries p more, g.inside))

    pub more_rows_lem : at < length (flat_of m1).rows
    more_rows_lem = omega (arith, ap (λ (y : Flat). length y.rows) u.flat, length_insert at (held_by row xs) (flat_of m).rows grow_new.at, grow_new.at)

    -- a pending add
    pub grew_frozen : (page_at m p).frozen ≡ true → {m2 : List ℕ}
        → Becomes m1 m2 (with_row (flat_of m1) at (with_pending adding (row_in (flat_of m1) at)))
        → PagesNow m m2 (swapped p (placed_on (tuple_by row xs) (at - first_row m p) (page_at m p)) (pages_of m))
    unfolding swapped with_pending
    grew_frozen e {m2} v =
        let rs : List Held = (flat_of m).rows in
        let old : Held = held_by row xs in
        let h : Held = record { tuple = x; pending = adding } in
        let la : length (take at rs) ≡ at = length-take-le at rs grow_new.at in
        let gd : get_or (insert_at at old rs) at no_row ≡ old =
        ap (λ (z : ℕ). get_or (insert_at at old rs) z no_row) (sym la) ∙ get_or-append_seam (take at rs) old (drop at rs) no_row in
        let er : set (insert_at at old rs) at (with_pending adding (get_or (insert_at at old rs) at no_row)) ≡ insert_at at h rs =
        ap (λ (y : Held). set (insert_at at old rs) at (with_pending adding y)) gd ∙ set_at (take at rs) old (drop at rs) h at la in
        let w : Becomes m m2 (after h) =
        subst (λ (z : List Held). Becomes m m2 (with_entries (with_rows (flat_of m) z) (more_rows p (flat_of m).entries))) er
        (becomes_then m m1 m2 _ (λ (y : Flat). with_row y at (with_pending adding (row_in y at))) u v) in
        now_to (now_becomes w (counted_set (flat_of m).entries p more (counted m g.tuple.has_store) (omega arith))
        (row_inserted (flat_of m) (full grow_there) p g.inside at g.least more h g.most refl
        ∙ ap (λ (z : Page). take p (pages_of m) ++ z ∷ drop (suc p) (pages_of m)) (page_less m p _ _)))
        (ap (λ (z : List Page). swapped p z (pages_of m)) (sym (grown_frozen (page_at m p) x j e)))

    module _ {m2 : List ℕ} (v : EntriesBecome m1 m2 (set_block p 0 false)) where
      abbrev new : Page
      new = fresh (page_at m p).table (insert_at (at - first_row m p) (without_pending (tuple_by row xs)) (tuples_at m p))

      came : PagesNow m m2 (swapped p (new ∷ []) (pages_of m))
      came =
          let h : Held = held_by row xs in
          let n : ℕ = (entry_of m p).count + 1 in
          now_to (now_dirty grow_there n (insert_at j h (tuples_at m p)) u v (omega arith)
          (row_inserted (flat_of m) (full grow_there) p g.inside at g.least (dirty (entry_of m p).table n) h g.most refl))
          (ap (λ (z : Held). swapped p (fresh (page_at m p).table (insert_at j z (tuples_at m p)) ∷ []) (pages_of m)) (held_without_pending g.tuple))

      pub grew_there : There m2 p
      grew_there = first_there grow_there new [] came

      grew_page : page_at m2 p ≡ new
      grew_page = first_page grow_there new [] came

      pub grew_dirty : Dirty (page_at m2 p)
      grew_dirty = dirty_fresh (page_at m2 p) _ _ grew_page

      pub grew : (page_at m p).frozen ≡ false → {m3 : List ℕ} → PagesNow m2 m3 (swapped p (map (fresh (page_at m2 p).table) (split_once (tuples_at m2 p))) (pages_of m2))
          → PagesNow m m3 (swapped p (placed_on (tuple_by row xs) (at - first_row m p) (page_at m p)) (pages_of m))
      unfolding fresh
      grew z h =
          now_to (now_again grow_there new _ came h)
          (ap (λ (y : List Page). swapped p y (pages_of m))
          (ap (λ (y : Page). map (fresh y.table) (split_once y.tuples)) grew_page ∙ sym (grown_split (page_at m p) x j z)))

-- ---- a new page of one row

module _ {m : List ℕ} {t p : ℕ} {row : Row} {xs : List ℕ} (g : AddAt m t p row xs) where
  abbrev f : Flat
  f = flat_of m

  add_full : total (flat_of m).entries ≡ length (flat_of m).rows
  add_full = filled m (holds_room m g.tuple.has_store)

  pub add_space : length (flat_of m).entries < 2 * (flat_of m).head.capacity
  add_space = omega (arith, counted_length (flat_of m).entries (counted m g.tuple.has_store), add_full, g.tuple.more)

  module _ {m1 : List ℕ} (u : Becomes m m1 (with_entries (flat_of m) (insert_at p (dirty t 0) (flat_of m).entries))) where
    pub added_there : p < length (flat_of m1).entries
    added_there = still_there p u (omega (arith, length_insert p (dirty t 0) (flat_of m).entries g.between.most, g.between.most))

    pub added_new : {at : ℕ} → at ≡ first_row m p → NewRow m1 at row xs
    unfolding head_of
    added_new e =
        let rows : length (flat_of m1).rows ≡ length (flat_of m).rows = ap (λ (y : Flat). length y.rows) u.flat in
        let cap : (flat_of m1).head.capacity ≡ (flat_of m).head.capacity = ap (λ (y : Flat). y.head.capacity) u.flat in
        record {
          room = u.room;
          at = omega (arith, start_le (flat_of m) add_full p);
          more = omega (arith, g.tuple.more);
          owner = g.tuple.owner;
          payload = g.tuple.payload;
        }

    pub added : {at : ℕ} → at ≡ first_row m p → {m2 : List ℕ}
        → RowsBecome m1 m2 (insert_at at (held_by row xs)) (more_rows p)
        → PagesNow m m2 (take p (pages_of m) ++ fresh t (without_pending (tuple_by row xs) ∷ []) ∷ drop p (pages_of m))
    added {at} ea {m2} v =
        let es : List Entry = (flat_of m).entries in
        let h : Held = held_by row xs in
        let pz : p + 0 ≡ p = omega arith in
        let lp : length (take p es) ≡ p = length-take-le p es g.between.most in
        let gd : get_or (insert_at p (dirty t 0) es) p no_entry ≡ dirty t 0 =
        ap (λ (z : ℕ). get_or (insert_at p (dirty t 0) es) z no_entry) (sym lp) ∙ get_or-append_seam (take p es) (dirty t 0) (drop p es) no_entry in
        let eE : more_rows p (insert_at p (dirty t 0) es) ≡ insert_at p (dirty t 1) es =
        ap (λ (y : Entry). set (insert_at p (dirty t 0) es) p (with_count y (y.count + 1))) gd ∙ set_at (take p es) (dirty t 0) (drop p es) (dirty t 1) p lp in
        now_becomes (becomes_to (with_rows (flat_of m) (insert_at at h (flat_of m).rows))
        (becomes_then m m1 m2 _ (λ (y : Flat). with_entries (with_rows y (insert_at at h y.rows)) (more_rows p y.entries)) u v) eE)
        (subst (λ (z : ℕ). Counted (take p es ++ dirty t 1 ∷ drop z es)) pz (counted_exchange es (dirty t 1 ∷ []) p 0 (counted m g.tuple.has_store) (omega arith, tt)))
        (ap (λ (z : ℕ). nest (insert_at p (dirty t 1) es) (insert_at z h (flat_of m).rows)) ea
        ∙ page_added (flat_of m) add_full p (dirty t 1) h refl
        ∙ ap (λ (z : Page). take p (pages_of m) ++ z ∷ drop p (pages_of m)) (fresh_page t 1 (h ∷ []) ∙ ap (λ (z : Held). fresh t (z ∷ [])) (held_without_pending g.tuple)))
