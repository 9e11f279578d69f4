-- A row of a page changed, put in or taken out: what it does to the pages; and the row's place in the model's list of all tuples.
use Rattle.basics.proofs.Kit.{◌≡◌, refl, sym, ap, ◌∙◌, ap₂, Bool, false, none, Option, List, [], ◌∷◌, ◌++◌, map, ℕ, suc, ◌-◌, length, take, drop, set}
use Rattle.basics.proofs.Kit.{subst, ◌<◌, get_or, set-set, get_or-set_same, take-append-drop, length-drop, length-map, length-take-le, set-get_or, arith}
use Rattle.basics.specs.Basics.{sum}
use Rattle.basics.proofs.Lists.{map_append}
use Rattle.basics.proofs.Parts.{remove_set}
use Rattle.basics.specs.Lists.{remove_at}
use Rattle.model.specs.State.{Held, Page}
use Rattle.model.specs.Rules.{fresh, with_tuples}
use Rattle.model.specs.Places.{at_row, on_page, tagged}
use Rattle.model.proofs.Flat.{row_by_page}
use Rattle.memory_layout.specs.Flat.{Flat, flat_of, no_entry, Becomes, with_rows, with_entries}
use Rattle.memory_rows.specs.Rows.{with_row}
use Rattle.memory_layout.specs.Store.{nest, page_of, page_in, total, start_of}
use Rattle.memory_layout.specs.declared.Entry.{Entry}
use Rattle.memory_layout.proofs.Laws.{becomes_then}
use Rattle.memory_layout.proofs.Nest.{take_nest}
use Rattle.memory_layout.proofs.Exchange.{start_le, counted_set, counted_exchange, row_changed, entry_set}
use Rattle.memory_pages.specs.Pages.{dirty, with_block, with_count, EntriesBecome, set_block}
use Rattle.engine_pages.specs.Pages.{PagesNow, pages_of, page_at, tuples_at, entry_of, first_row, There, RowOn, swapped}
use Rattle.engine_pages.proofs.Places.{now_becomes, counted, full, has_row, from_page, row_inside}

-- ---- all tuples, by place

abbrev pub tag : ℕ → Held → ℕ × Held
tag t h = (t, h)

map_page : (t : ℕ) (hs : List Held) → map (λ (x : ℕ × Held). x.1) (map (tag t) hs) ≡ hs
map_page t [] = refl
map_page t (h ∷ hs) = ap (λ z. h ∷ z) (map_page t hs)

-- without their tables, the tuples of pages are the rows
pub nest_rows : (es : List Entry) (hs : List Held) → total es ≡ length hs → map (λ (x : ℕ × Held). x.1) (tagged (nest es hs)) ≡ hs
unfolding tagged nest total sum page_of
nest_rows [] [] e = refl
nest_rows [] (h ∷ hs) e = absurd (omega arith)
nest_rows (e ∷ es) hs t =
    let c = e.count in
    map_append (λ (x : ℕ × Held). x.1) (map (tag e.table) (take c hs)) (tagged (nest es (drop c hs)))
    ∙ ap₂ (λ a b. a ++ b) (map_page e.table (take c hs)) (nest_rows es (drop c hs) (omega (arith, length-drop c hs)))
    ∙ take-append-drop c hs

tagged_nest : (es : List Entry) (ts : List Held) → length ts ≡ total es → length (tagged (nest es ts)) ≡ total es
tagged_nest es ts h = sym (length-map (tagged (nest es ts)) (λ (x : ℕ × Held). x.1)) ∙ ap length (nest_rows es ts (sym h)) ∙ h

module _ {m : List ℕ} {p i : ℕ} (g : RowOn m p i) where
  tagged_start : length (tagged (take p (pages_of m))) ≡ first_row m p
  tagged_start =
      let f : Flat = flat_of m in
      let s : ℕ = start_of f p in
      ap (λ (z : List Page). length (tagged z)) (take_nest p f.entries f.rows)
      ∙ tagged_nest (take p f.entries) (take s f.rows) (length-take-le s f.rows (start_le f (full g.there) p))

  -- what is done at a row is done on its page
  pub at_row_lem : (F : ℕ → Option Page → Page → List Page → List Page) → at_row F i none (pages_of m) ≡ on_page (F (i - first_row m p)) p none (pages_of m)
  at_row_lem F =
      row_by_page F (pages_of m) i p (i - first_row m p) (page_at m p)
      (record { page = from_page g.there; place = omega (arith, tagged_start, g.least); inside = row_inside g }) none

-- ---- the entry changed

module _ {m m' : List ℕ} {p : ℕ} (a : There m p) where
  pub page_now : (b : ℕ) (z : Bool) → EntriesBecome m m' (set_block p b z)
      → PagesNow m m' (swapped p (page_of (with_block (entry_of m p) b z) (tuples_at m p) ∷ []) (pages_of m))
  unfolding swapped
  page_now b z u =
      let e : Entry = with_block (entry_of m p) b z in
      now_becomes u (counted_set (flat_of m).entries p e (counted m a.has_store) (has_row a)) (entry_set (flat_of m) (full a) p a.inside e refl)

-- ---- a row changed

pub page_with : (m : List ℕ) (p : ℕ) (hs : List Held) → page_of (entry_of m p) hs ≡ with_tuples (page_at m p) hs
unfolding page_in page_of with_tuples
page_with m p hs = refl

pub page_fresh : (m : List ℕ) (p n : ℕ) (hs : List Held) → page_of (dirty (entry_of m p).table n) hs ≡ fresh (page_at m p).table hs
unfolding page_in page_of fresh
page_fresh m p n hs = refl

-- the same entries, written otherwise
pub becomes_to : {m m' : List ℕ} (f : Flat) {E F : List Entry} → Becomes m m' (with_entries f E) → E ≡ F → Becomes m m' (with_entries f F)
becomes_to {m} {m'} f b e = subst (λ (z : List Entry). Becomes m m' (with_entries f z)) e b

-- the page has other rows and another count, then goes
pub now_dropped : {m m1 m2 : List ℕ} {p : ℕ} {R : List Held} → There m p → (n : ℕ)
    → Becomes m m1 (with_entries (with_rows (flat_of m) R) (set (flat_of m).entries p (with_count (entry_of m p) n))) → EntriesBecome m1 m2 (remove_at p)
    → {ps : List Page} → nest (remove_at p (flat_of m).entries) R ≡ ps → PagesNow m m2 ps
now_dropped {m} {m1} {m2} {p} {R} a n u v e =
    now_becomes
    (becomes_to (with_rows (flat_of m) R) (becomes_then m m1 m2 _ (λ (y : Flat). with_entries y (remove_at p y.entries)) u v)
    (remove_set (flat_of m).entries p (with_count (entry_of m p) n)))
    (counted_exchange (flat_of m).entries [] p 1 (counted m a.has_store) tt) e

-- the page has other rows and another count, then no block
pub now_dirty : {m m1 m2 : List ℕ} {p : ℕ} {R : List Held} → There m p → (n : ℕ) (hs : List Held)
    → Becomes m m1 (with_entries (with_rows (flat_of m) R) (set (flat_of m).entries p (with_count (entry_of m p) n)))
    → EntriesBecome m1 m2 (set_block p 0 false) → 0 < n
    → nest (set (flat_of m).entries p (dirty (entry_of m p).table n)) R ≡ take p (pages_of m) ++ page_of (dirty (entry_of m p).table n) hs ∷ drop (suc p) (pages_of m)
    → PagesNow m m2 (swapped p (fresh (page_at m p).table hs ∷ []) (pages_of m))
unfolding swapped
now_dirty {m} {m1} {m2} {p} {R} a n hs u v h e =
    let es : List Entry = (flat_of m).entries in
    let c : Entry = with_count (entry_of m p) n in
    let d : Entry = dirty (entry_of m p).table n in
    let q : set (set es p c) p (with_block (get_or (set es p c) p no_entry) 0 false) ≡ set es p d =
    set-set es p c _ ∙ ap (λ (y : Entry). set es p (with_block y 0 false)) (get_or-set_same es p c no_entry a.inside) in
    now_becomes
    (becomes_to (with_rows (flat_of m) R) (becomes_then m m1 m2 _ (λ (y : Flat). with_entries y (set_block p 0 false y.entries)) u v) q)
    (counted_set es p d (counted m a.has_store) h)
    (e ∙ ap (λ (z : Page). take p (pages_of m) ++ z ∷ drop (suc p) (pages_of m)) (page_fresh m p n hs))

module _ {m : List ℕ} {p i : ℕ} (g : RowOn m p i) (x : Held) {m1 : List ℕ} (u : Becomes m m1 (with_row (flat_of m) i x)) where
  abbrev f : Flat
  f = flat_of m

  pub row_now : PagesNow m m1 (swapped p (with_tuples (page_at m p) (set (tuples_at m p) (i - first_row m p) x) ∷ []) (pages_of m))
  unfolding swapped
  row_now =
      let a : There m p = g.there in
      now_becomes u (counted m a.has_store)
      (ap (λ (z : List Entry). nest z (set (flat_of m).rows i x)) (sym (set-get_or (flat_of m).entries p no_entry))
      ∙ row_changed (flat_of m) (full a) p a.inside i g.least g.most (entry_of m p) x refl
      ∙ ap (λ (z : Page). take p (pages_of m) ++ z ∷ drop (suc p) (pages_of m)) (page_with m p _))

  -- and the page is dirty
  pub row_dirty : {m2 : List ℕ} → EntriesBecome m1 m2 (set_block p 0 false)
      → PagesNow m m2 (swapped p (fresh (page_at m p).table (set (tuples_at m p) (i - first_row m p) x) ∷ []) (pages_of m))
  unfolding swapped
  row_dirty {m2} v =
      let a : There m p = g.there in
      let e : Entry = with_block (entry_of m p) 0 false in
      now_becomes (becomes_then m m1 m2 _ (λ (y : Flat). with_entries y (set_block p 0 false y.entries)) u v)
      (counted_set (flat_of m).entries p e (counted m a.has_store) (has_row a))
      (row_changed (flat_of m) (full a) p a.inside i g.least g.most e x refl
      ∙ ap (λ (z : Page). take p (pages_of m) ++ z ∷ drop (suc p) (pages_of m)) (page_fresh m p _ _))
