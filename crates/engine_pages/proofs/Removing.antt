-- A removal, on a frozen page and on another.
use Rattle.basics.proofs.Kit.{◌≡◌, refl, sym, ap, ◌∙◌, Bool, true, false, List, [], ◌∷◌, ◌++◌, ℕ, suc, ◌<◌, ◌-◌, length, take, drop, get_or, set, length-set}
use Rattle.basics.proofs.Kit.{get_or-set_same, arith}
use Rattle.basics.specs.Basics.{if'◌then◌else◌}
use Rattle.model.specs.State.{removing, Held, Page}
use Rattle.model.specs.Rules.{is_adding, remove_now, with_pending, with_tuples, fresh, settle}
use Rattle.model.specs.Places.{edit_at, pend_remove_at, remove_row_on, remove_row}
use Rattle.model.proofs.Flat.{taken_last, taken_away, taken_noted, edit_none}
use Rattle.basics.specs.Lists.{remove_at}
use Rattle.memory_layout.specs.Flat.{Flat, flat_of, entry_in, row_in, no_row, no_entry, Room, Becomes}
use Rattle.memory_rows.specs.Rows.{with_row}
use Rattle.memory_layout.specs.Store.{page_of, page_in}
use Rattle.memory_layout.specs.declared.Entry.{Entry}
use Rattle.memory_layout.proofs.Exchange.{counted_set, row_removed, row_dropped}
use Rattle.basics.proofs.Parts.{length_remove}
use Rattle.basics.proofs.Numbers.{less_than}
use Rattle.memory_pages.specs.Pages.{dirty, with_count, fewer_rows, MayLose, EntriesBecome, RowsBecome, set_block}
use Rattle.engine_pages.specs.Pages.{PagesNow, pages_of, page_at, tuples_at, entry_of, first_row, There, RowOn, swapped}
use Rattle.engine_pages.specs.Changes.{Tries, settled_at, settled_by}
use Rattle.engine_pages.proofs.Places.{now_to, now_then, now_stay, now_becomes, counted, full, room, many}
use Rattle.engine_pages.proofs.Places.{has_row, swap_same, row_in_lem, row_inside, tuple_is, first_there, first_page, still_there}
use Rattle.engine_pages.proofs.Around.{on_swap, on_same}
use Rattle.engine_pages.proofs.Rows.{at_row_lem, row_now, now_dirty, now_dropped}
use Rattle.engine_pages.proofs.Committing.{with_same}
use Rattle.engine_pages.proofs.Joining.{tries_done, settled_none, settled_by_lem}

-- ---- entries

pub page_less : (m : List ℕ) (p n : ℕ) (hs : List Held) → page_of (with_count (entry_of m p) n) hs ≡ with_tuples (page_at m p) hs
unfolding page_in page_of with_tuples
page_less m p n hs = refl

-- ---- on the memory

module _ {m : List ℕ} {p i : ℕ} (g : RowOn m p i) where
  abbrev j : ℕ
  j = i - first_row m p

  abbrev hs : List Held
  hs = tuples_at m p

  abbrev t : ℕ
  t = (page_at m p).table

  a : There m p
  a = g.there

  adding_is : {b : Bool} → b ≡ is_adding (row_in (flat_of m) i).pending → is_adding (get_or (tuples_at m p) (i - first_row m p) no_row).pending ≡ b
  adding_is e = ap (λ (z : Held). is_adding z.pending) (tuple_is g) ∙ sym e

  pub may_lose : Room m × MayLose (flat_of m) p i
  may_lose = (room a, record { place = a.inside; rows = has_row a; row = (row_in_lem g).1 })

  -- ---- a frozen page

  abbrev noted : List Page
  noted = swapped p (with_tuples (page_at m p) (pend_remove_at (i - first_row m p) (tuples_at m p)) ∷ []) (pages_of m)

  later : (left : List Held) → pend_remove_at (i - first_row m p) (tuples_at m p) ≡ left → {m' : List ℕ}
      → PagesNow m m' (swapped p (with_tuples (page_at m p) left ∷ []) (pages_of m)) → PagesNow m m' noted
  later left e u = now_to u (ap (λ (z : List Held). swapped p (with_tuples (page_at m p) z ∷ []) (pages_of m)) (sym e))

  pub later_noted : {b : Bool} → b ≡ is_adding (row_in (flat_of m) i).pending → b ≡ false → {m' : List ℕ}
      → Becomes m m' (with_row (flat_of m) i (with_pending removing (row_in (flat_of m) i))) → PagesNow m m' noted
  later_noted eb h u =
      let x : Held = with_pending removing (row_in (flat_of m) i) in
      later (set hs j x) (taken_noted j hs no_row (row_inside g) x (adding_is eb ∙ h) (ap (with_pending removing) (sym (tuple_is g)))) (row_now g x u)

  module _ {b : Bool} (eb : b ≡ is_adding (row_in (flat_of m) i).pending) (h : b ≡ true) {n : ℕ} (en : n ≡ (entry_of m p).count) where
    pub later_last : n ≡ 1 → PagesNow m m noted
    later_last l =
        later hs (taken_last j hs no_row (row_inside g) (adding_is eb ∙ h) (many a ∙ sym en ∙ l))
        (now_to (now_stay m a.has_store) (sym (ap (λ (z : Page). swapped p (z ∷ []) (pages_of m)) (with_same (page_at m p)) ∙ swap_same a)))

    pub later_away : (n ≡ 1 → ⊥) → {m' : List ℕ} → RowsBecome m m' (remove_at i) (fewer_rows p)
        → PagesNow m m' noted
    unfolding swapped
    later_away l u =
        let k : 1 < (entry_of m p).count = less_than (has_row a) (λ z. l (en ∙ sym z)) in
        let e : Entry = with_count (entry_of m p) ((entry_of m p).count - 1) in
        later (remove_at j hs) (taken_away j hs no_row (row_inside g) (adding_is eb ∙ h) (omega (arith, many a)))
        (now_becomes u (counted_set (flat_of m).entries p e (counted m a.has_store) (omega arith))
        (row_removed (flat_of m) (full a) p a.inside i g.least g.most e (omega arith)
        ∙ ap (λ (z : Page). take p (pages_of m) ++ z ∷ drop (suc p) (pages_of m)) (page_less m p _ _)))

  -- ---- another page

  abbrev left : List Held
  left = remove_at (i - first_row m p) (tuples_at m p)

  abbrev new : Page
  new = fresh (page_at m p).table (remove_at (i - first_row m p) (tuples_at m p))

  left_long : length (remove_at (i - first_row m p) (tuples_at m p)) ≡ (entry_of m p).count - 1
  left_long = length_remove j hs (row_inside g) ∙ ap (λ (z : ℕ). z - 1) (many a)

  module _ {m1 : List ℕ} (u : RowsBecome m m1 (remove_at i) (fewer_rows p)) where
    abbrev less : Entry
    less = with_count (entry_of m p) ((entry_of m p).count - 1)

    pub less_there : p < length (flat_of m1).entries
    less_there = still_there p u (omega (arith, length-set (flat_of m).entries p less, a.inside))

    entry_then : entry_of m1 p ≡ less
    entry_then = ap (λ (y : Flat). entry_in y p) u.flat ∙ get_or-set_same (flat_of m).entries p less no_entry a.inside

    pub less_empty : (entry_of m p).count ≡ 1 → (entry_of m1 p).count ≡ 0
    less_empty l = ap (λ (y : Entry). y.count) entry_then ∙ omega arith

    -- the only row: the page goes
    pub now_none : (entry_of m p).count ≡ 1 → {m2 : List ℕ} → EntriesBecome m1 m2 (remove_at p)
        → PagesNow m m2 (settled_by p (new ∷ []) new (pages_of m))
    unfolding swapped
    now_none l v =
        now_to (now_dropped a ((entry_of m p).count - 1) u v (row_dropped (flat_of m) (full a) p a.inside i g.least g.most l))
        (settled_none a t left (new ∷ []) (left_long ∙ omega arith))

    module _ (l : 1 < (entry_of m p).count) {m2 : List ℕ} (v : EntriesBecome m1 m2 (set_block p 0 false)) where
      came : PagesNow m m2 (swapped p (fresh (page_at m p).table (remove_at (i - first_row m p) (tuples_at m p)) ∷ []) (pages_of m))
      came =
          let n : ℕ = (entry_of m p).count - 1 in
          now_dirty a n left u v (omega arith) (row_removed (flat_of m) (full a) p a.inside i g.least g.most (dirty (entry_of m p).table n) (omega arith))

      pub now_there : There m2 p
      now_there = first_there a new [] came

      pub now_joined : {m3 : List ℕ} (r : Bool) → Tries m2 m3 r (settled_at p (pages_of m2)) (λ rest. swapped p rest (pages_of m2))
          → PagesNow m m3 (settled_by p (new ∷ []) new (pages_of m))
      now_joined r w =
          now_to (now_then came (tries_done now_there r w))
          (ap (λ (z : Page). settled_at p (pages_of m2) (z ∷ [])) (first_page a new [] came)
          ∙ settled_by_lem a t left (new ∷ []) (omega (arith, left_long)) came)

  -- ---- the rule

  pub removed_later : (page_at m p).frozen ≡ true → noted ≡ remove_row i (pages_of m)
  unfolding remove_row remove_row_on if'◌then◌else◌
  removed_later e =
      sym (at_row_lem g remove_row_on ∙ on_swap a (remove_row_on j) (with_tuples (page_at m p) (pend_remove_at j hs) ∷ []) (λ prev qs. rw e refl))

  pub removed_now : (page_at m p).frozen ≡ false → settled_by p (new ∷ []) new (pages_of m) ≡ remove_row i (pages_of m)
  unfolding remove_row remove_row_on settled_by if'◌then◌else◌ remove_now
  removed_now e =
      let x : edit_at remove_now j hs ≡ remove_at j hs = edit_none remove_now no_row hs j (row_inside g) refl in
      sym (at_row_lem g remove_row_on ∙ on_same a (remove_row_on j) (λ prev r qs. settle (new ∷ []) prev new qs) (λ prev qs. rw (e, x) refl))
