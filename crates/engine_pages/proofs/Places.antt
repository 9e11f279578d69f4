-- Pages by place: what stands where after pages were exchanged, and one change after another.
use Rattle.block_forms.specs.Limits.{block_limit}
use Rattle.basics.proofs.Kit.{◌≡◌, refl, sym, ap, ◌∙◌, true, some, List, [], ◌∷◌, ◌++◌, append_assoc, append-nil, ℕ, suc, ◌+◌, ◌*◌, ◌≤◌, ◌<◌, ◌-◌, length, take, drop, get_or}
use Rattle.basics.proofs.Kit.{length-append, take-append-drop, take_at, drop_at, length-take-le, arith}
use Rattle.model.specs.State.{Held, Page, Store}
use Rattle.model.specs.Transactions.{changed}
use Rattle.memory_layout.specs.Flat.{Flat, flat_of, row_in, no_row, Room, Becomes, with_rows, with_entries}
use Rattle.memory_layout.specs.Store.{nest, page_of, page_in, total, holds_store, store_of, HoldsNow}
use Rattle.memory_layout.specs.declared.Entry.{Entry}
use Rattle.memory_layout.specs.Views.{head_of}
use Rattle.memory_pages.proofs.Ranges.{entry_block}
use Rattle.memory_layout.proofs.Laws.{Known, known, entries_length, filled, Sound, in_some, in_sound, holds_room, holds_counted, becomes_store}
use Rattle.memory_layout.proofs.Nest.{Counted, all_counted, counted_all, counted_at}
use Rattle.memory_layout.proofs.Exchange.{pages_count, page_at_lem, page_long, start_next, start_in, tuple_at, counted_more}
use Rattle.engine_pages.specs.Pages.{with_pages, PagesNow, pages_of, page_at, tuples_at, entry_of, first_row, There, RowOn, swapped}
use Rattle.memory_layout.specs.Elements.{rows_from, RowRange}
use Rattle.basics.proofs.Parts.{cons_head}

-- ---- one change after another

module _ {m m' : List ℕ} {ps : List Page} (t : PagesNow m m' ps) where
  sound : Sound m' (with_pages (store_of (flat_of m)) ps)
  sound = in_sound m' (with_pages (store_of (flat_of m)) ps) t.store

  pub now_held : holds_store m' ≡ true
  now_held = sound.has_store

  pub now_pages : pages_of m' ≡ ps
  unfolding with_pages changed store_of
  now_pages = ap (λ (s : Store). s.pages) sound.means

  pub now_then : {m2 : List ℕ} {qs : List Page} → PagesNow m' m2 qs → PagesNow m m2 qs
  unfolding with_pages changed
  now_then {m2} {qs} u = record { size = u.size ∙ t.size; store = u.store ∙ ap (λ (s : Store). some (with_pages s qs)) sound.means }

  pub now_to : {qs : List Page} → ps ≡ qs → PagesNow m m' qs
  now_to e = record { size = t.size; store = t.store ∙ ap (λ (z : List Page). some (with_pages (store_of (flat_of m)) z)) e }

pub now_stay : (m : List ℕ) → holds_store m ≡ true → PagesNow m m (pages_of m)
unfolding with_pages changed store_of
now_stay m h = record { size = refl; store = in_some m h }

pub counted : (m : List ℕ) → holds_store m ≡ true → Counted (flat_of m).entries
counted m h = all_counted (flat_of m).entries (holds_counted m h)

-- as the contracts say it
pub holds_now : {m m' : List ℕ} {ps : List Page} → PagesNow m m' ps → HoldsNow m m' (with_pages (store_of (flat_of m)) ps)
holds_now t = record { size = t.size; store = t.store }

-- other rows and entries are other pages
pub now_becomes : {m m' : List ℕ} {R : List Held} {E : List Entry} → Becomes m m' (with_entries (with_rows (flat_of m) R) E) → Counted E
    → {ps : List Page} → nest E R ≡ ps → PagesNow m m' ps
unfolding with_pages changed store_of
now_becomes {m} {m'} {R} {E} b c e =
    record { size = b.size; store = becomes_store b (counted_all E c) ∙ ap (λ (z : List Page). some (with_pages (store_of (flat_of m)) z)) e }

-- ---- what is known of a page

-- what stands after a change of rows
pub still_there : {m m1 : List ℕ} {f : Flat} (p : ℕ) → Becomes m m1 f → p < length f.entries → p < length (flat_of m1).entries
still_there p b h = omega (arith, ap (λ (x : Flat). length x.entries) b.flat)

module _ {m : List ℕ} {p : ℕ} (a : There m p) where
  pub room : Room m
  room = holds_room m a.has_store

  pub full : total (flat_of m).entries ≡ length (flat_of m).rows
  full = filled m room

  pub page_in_lem : Room m × (p < length (flat_of m).entries)
  page_in_lem = (room, a.inside)

  pub start_there : Room m × (p ≤ length (flat_of m).entries)
  start_there = (room, omega (arith, a.inside))

  pub next_there : Room m × (p + 1 ≤ length (flat_of m).entries)
  next_there = (room, omega (arith, a.inside))

  pub before_long : length (take p (pages_of m)) ≡ p
  before_long = length-take-le p (pages_of m) (omega (arith, pages_count (flat_of m), a.inside))

  pub from_page : drop p (pages_of m) ≡ page_at m p ∷ drop (suc p) (pages_of m)
  from_page = page_at_lem (flat_of m) p a.inside

  pub many : length (tuples_at m p) ≡ (entry_of m p).count
  many = page_long (flat_of m) full p a.inside

  pub page_end : first_row m p + (entry_of m p).count ≤ length (flat_of m).rows
  page_end = start_in (flat_of m) full p a.inside

  pub ends_at : first_row m (p + 1) ≡ first_row m p + (entry_of m p).count
  ends_at = start_next (flat_of m) p a.inside

  pub has_row : 1 ≤ (entry_of m p).count
  has_row = counted_at (flat_of m).entries p _ (counted m a.has_store) a.inside

  -- its tuples are its rows
  pub tuples_are : {s e : ℕ} → s ≡ first_row m p → e ≡ first_row m (p + 1) → rows_from m s e ≡ tuples_at m p
  unfolding page_in page_of
  tuples_are {s} {e} es ee =
      let n : e - s ≡ (entry_of m p).count = omega (arith, ends_at) in
      ap (λ (z : ℕ). take z (drop s (flat_of m).rows)) n ∙ ap (λ (z : ℕ). take (entry_of m p).count (drop z (flat_of m).rows)) es

  pub page_span : {s e : ℕ} → s ≡ first_row m p → e ≡ first_row m (p + 1) → RowRange m s e
  page_span es ee = record { room = room; order = omega (arith, ends_at); inside = omega (arith, ends_at, page_end) }

  -- a page with two rows leaves room for one page more
  pub few : 1 < (entry_of m p).count → length (flat_of m).entries < length (flat_of m).rows
  few h = omega (arith, full, counted_more (flat_of m).entries p (counted m a.has_store) a.inside h)

  -- and the memory has room for one more
  pub spacious : length (flat_of m).entries < length (flat_of m).rows → length (flat_of m).entries < 2 * (flat_of m).head.capacity
  unfolding head_of
  spacious h = let k : Known m = known m room in omega arith

  pub block_small : (entry_of m p).block < block_limit
  block_small = omega (arith, entry_block m p (omega (arith, a.inside, entries_length m)))

  pub page_table_lem : (page_at m p).table ≡ (entry_of m p).table
  unfolding page_in page_of
  page_table_lem = refl

  pub page_frozen : (page_at m p).frozen ≡ (entry_of m p).frozen
  unfolding page_in page_of
  page_frozen = refl

-- ---- what is known of a row

module _ {m : List ℕ} {p i : ℕ} (g : RowOn m p i) where
  pub row_in_lem : Room m × (i < length (flat_of m).rows)
  row_in_lem = (room g.there, omega (arith, g.most, page_end g.there))

  pub row_inside : i - first_row m p < length (tuples_at m p)
  row_inside = omega (arith, many g.there, g.least, g.most)

  pub tuple_is : get_or (tuples_at m p) (i - first_row m p) no_row ≡ row_in (flat_of m) i
  tuple_is =
      let z : first_row m p + (i - first_row m p) ≡ i = omega (arith, g.least) in
      tuple_at (flat_of m) (full g.there) p (i - first_row m p) no_row (omega (arith, g.least, g.most)) ∙ ap (row_in (flat_of m)) z

-- where the pages are xs, q and more, q stands behind xs
module _ (m : List ℕ) (h : holds_store m ≡ true) (xs : List Page) (q : Page) (ys : List Page) (e : pages_of m ≡ xs ++ q ∷ ys) (p : ℕ) (ep : p ≡ length xs) where
  pub there_here : There m p
  there_here =
      let l : length (pages_of m) ≡ length xs + suc (length ys) = ap length e ∙ length-append xs (q ∷ ys) in
      record { has_store = h; inside = omega (arith, pages_count (flat_of m)) }

  pub page_here : page_at m p ≡ q
  page_here =
      let d : drop p (pages_of m) ≡ q ∷ ys = ap (drop p) e ∙ drop_at xs (q ∷ ys) p (sym ep) in
      cons_head (page_at m p) q _ _ (sym (from_page there_here) ∙ d)

-- ---- exchanged pages

pub swap_at : (p : ℕ) (xs : List Page) (q : Page) (ys rs : List Page) → length xs ≡ p → swapped p rs (xs ++ q ∷ ys) ≡ xs ++ (rs ++ ys)
unfolding swapped
swap_at p xs q ys rs l =
    let k : length (xs ++ q ∷ []) ≡ suc p = length-append xs (q ∷ []) ∙ omega arith in
    (λ i. take_at xs (q ∷ ys) p l i ++ (rs ++ (ap (drop (suc p)) (sym (append_assoc xs (q ∷ []) ys)) ∙ drop_at (xs ++ q ∷ []) ys (suc p) k) i))

module _ {m : List ℕ} {p : ℕ} (a : There m p) where
  -- what is exchanged again
  pub swap_first : (q : Page) (qs rs : List Page) → swapped p rs (swapped p (q ∷ qs) (pages_of m)) ≡ swapped p (rs ++ qs) (pages_of m)
  unfolding swapped
  swap_first q qs rs =
      let ps : List Page = pages_of m in
      swap_at p (take p ps) q (qs ++ drop (suc p) ps) rs (before_long a) ∙ ap (λ (z : List Page). take p ps ++ z) (sym (append_assoc rs qs (drop (suc p) ps)))

  pub swap_second : (q r : Page) (rs : List Page) → swapped (p + 1) rs (swapped p (q ∷ r ∷ []) (pages_of m)) ≡ swapped p (q ∷ rs) (pages_of m)
  unfolding swapped
  swap_second q r rs =
      let ps : List Page = pages_of m in
      let x : List Page = take p ps in
      let y : List Page = drop (suc p) ps in
      let l : length (x ++ q ∷ []) ≡ p + 1 = length-append x (q ∷ []) ∙ omega (arith, before_long a) in
      ap (swapped (p + 1) rs) (sym (append_assoc x (q ∷ []) (r ∷ y))) ∙ swap_at (p + 1) (x ++ q ∷ []) r y rs l ∙ append_assoc x (q ∷ []) (rs ++ y)

  pub swap_same : swapped p (page_at m p ∷ []) (pages_of m) ≡ pages_of m
  unfolding swapped
  swap_same = ap (λ (z : List Page). take p (pages_of m) ++ z) (sym (from_page a)) ∙ take-append-drop p (pages_of m)

  module _ {m' : List ℕ} (q : Page) (qs : List Page) (t : PagesNow m m' (swapped p (q ∷ qs) (pages_of m))) where
    first_pages : pages_of m' ≡ take p (pages_of m) ++ q ∷ (qs ++ drop (suc p) (pages_of m))
    unfolding swapped
    first_pages = now_pages t

    pub first_there : There m' p
    first_there = there_here m' (now_held t) (take p (pages_of m)) q (qs ++ drop (suc p) (pages_of m)) first_pages p (sym (before_long a))

    pub first_page : page_at m' p ≡ q
    first_page = page_here m' (now_held t) (take p (pages_of m)) q (qs ++ drop (suc p) (pages_of m)) first_pages p (sym (before_long a))

  module _ {m' : List ℕ} (q r : Page) (qs : List Page) (t : PagesNow m m' (swapped p (q ∷ r ∷ qs) (pages_of m))) where
    second_pages : pages_of m' ≡ (take p (pages_of m) ++ q ∷ []) ++ r ∷ (qs ++ drop (suc p) (pages_of m))
    unfolding swapped
    second_pages = now_pages t ∙ sym (append_assoc (take p (pages_of m)) (q ∷ []) (r ∷ (qs ++ drop (suc p) (pages_of m))))

    second_long : p + 1 ≡ length (take p (pages_of m) ++ q ∷ [])
    second_long = sym (length-append (take p (pages_of m)) (q ∷ []) ∙ omega (arith, before_long a))

    pub second_there : There m' (p + 1)
    second_there = there_here m' (now_held t) (take p (pages_of m) ++ q ∷ []) r (qs ++ drop (suc p) (pages_of m)) second_pages (p + 1) second_long

    pub second_page : page_at m' (p + 1) ≡ r
    second_page = page_here m' (now_held t) (take p (pages_of m) ++ q ∷ []) r (qs ++ drop (suc p) (pages_of m)) second_pages (p + 1) second_long

-- a page changed and then exchanged
pub now_again : {m m1 m2 : List ℕ} {p : ℕ} (a : There m p) (q : Page) (qs : List Page) → PagesNow m m1 (swapped p (q ∷ []) (pages_of m)) → PagesNow m1 m2 (swapped p qs (pages_of m1))
    → PagesNow m m2 (swapped p qs (pages_of m))
now_again {m} {m1} {m2} {p} a q qs t u =
    now_to (now_then t u) (ap (swapped p qs) (now_pages t) ∙ swap_first a q [] qs ∙ ap (λ (z : List Page). swapped p z (pages_of m)) (append-nil qs))
