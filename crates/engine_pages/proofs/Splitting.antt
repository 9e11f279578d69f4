-- A page that is split in two, and one that fits a block and stays.
use Rattle.basics.proofs.Kit.{◌≡◌, refl, sym, ap, ◌∙◌, subst, Bool, true, false, List, [], ◌∷◌, map, ℕ, zero, suc, ◌+◌, ◌≤◌, ◌<◌, ◌-◌, length, take, drop, leb, leb-false, arith}
use Rattle.basics.specs.Basics.{if'◌then◌else◌, sum}
use Rattle.basics.proofs.Facts.{AllOf}
use Rattle.block_forms.specs.Limits.{record_space}
use Rattle.model.specs.State.{Held, Page}
use Rattle.model.specs.Rules.{held_size, half, fits, split_once, split_deep, split_all, fresh}
use Rattle.model.proofs.Splits.{Small, half_between}
use Rattle.memory_layout.specs.Flat.{flat_of}
use Rattle.memory_layout.specs.Store.{page_of}
use Rattle.memory_layout.proofs.Exchange.{page_split, counted_exchange}
use Rattle.memory_pages.specs.Pages.{dirty, split_entry, EntriesBecome}
use Rattle.engine_pages.specs.Pages.{PagesNow, pages_of, page_at, tuples_at, entry_of, first_row, There, swapped}
use Rattle.memory_layout.specs.Elements.{rows_from}
use Rattle.engine_pages.specs.Changes.{Dirty, TooLarge, Halved}
use Rattle.engine_pages.proofs.Places.{now_to, now_stay, now_becomes, counted, full, swap_same, many, tuples_are, page_table_lem}
use Rattle.engine_sizes.specs.Parts.{IsFirstPart}
use Rattle.engine_sizes.specs.declared.FirstPart.{FirstPart}
use Rattle.engine_sizes.proofs.Sizes.{rows_small}

pub deep_fits : (d : ℕ) (hs : List Held) → fits hs ≡ true → split_deep d hs ≡ hs ∷ []
unfolding split_deep
deep_fits zero hs e = refl
deep_fits (suc d) hs e = rw (e, split_deep) refl

once_whole : (hs : List Held) → fits hs ≡ true → split_once hs ≡ hs ∷ []
unfolding split_once if'◌then◌else◌
once_whole hs h = rw h

all_whole : (hs : List Held) → fits hs ≡ true → split_all hs ≡ hs ∷ []
unfolding split_all
all_whole hs e = deep_fits (length hs) hs e

pub once_parts : (t : ℕ) (hs : List Held) → fits hs ≡ false → map (fresh t) (split_once hs) ≡ fresh t (take (half hs) hs) ∷ fresh t (drop (half hs) hs) ∷ []
unfolding split_once if'◌then◌else◌
once_parts t hs h = rw h

pub dirty_fresh : (q : Page) (t : ℕ) (hs : List Held) → q ≡ fresh t hs → Dirty q
unfolding fresh
dirty_fresh q t hs e = subst Dirty (sym e) refl

-- a page of an entry without block
pub fresh_page : (t n : ℕ) (hs : List Held) → page_of (dirty t n) hs ≡ fresh t hs
unfolding page_of fresh
fresh_page t n hs = refl

pub big : (hs : List Held) → fits hs ≡ false → record_space < sum held_size hs
unfolding fits
big hs e = leb-false (sum held_size hs) record_space e

-- no tuple of a page is large
pub tuples_small : {m : List ℕ} {p : ℕ} → There m p → AllOf Small (tuples_at m p)
tuples_small {m} {p} a = subst (AllOf Small) (tuples_are a refl refl) (rows_small m (first_row m p) (first_row m (p + 1)))

-- both parts of a page that is too large have a tuple
pub both_parts : {m : List ℕ} {p : ℕ} → TooLarge m p → (0 < half (tuples_at m p)) × (half (tuples_at m p) < length (tuples_at m p))
both_parts {m} {p} b = half_between (tuples_at m p) (tuples_small b.there) (big (tuples_at m p) b.large)

-- its size by its rows
pub page_sum : {m : List ℕ} {p s e w : ℕ} → There m p → s ≡ first_row m p → e ≡ first_row m (p + 1) → w ≡ sum held_size (rows_from m s e) → w ≡ sum held_size (tuples_at m p)
page_sum a es ee ew = ew ∙ ap (sum held_size) (tuples_are a es ee)

-- whether its tuples fit a block, by their size
pub fits_by : {m : List ℕ} {p w : ℕ} {b : Bool} → There m p → w ≡ sum held_size (tuples_at m p) → b ≡ leb w record_space → fits (tuples_at m p) ≡ b
unfolding fits
fits_by a ew eb = sym (eb ∙ ap (λ (z : ℕ). leb z record_space) ew)

-- a dirty page that was tested: it is too large, or it stays
module _ {m : List ℕ} {p : ℕ} (a : There m p) (d : Dirty (page_at m p)) {b : Bool} (tested : fits (tuples_at m p) ≡ b) where
  pub too_large : b ≡ false → TooLarge m p
  too_large e = record { there = a; dirty = d; large = tested ∙ e }

  stays : b ≡ true → {hss : List (List Held)} → (fits (tuples_at m p) ≡ true → hss ≡ tuples_at m p ∷ []) → PagesNow m m (swapped p (map (fresh (page_at m p).table) hss) (pages_of m))
  stays e f =
      now_to (now_stay m a.has_store)
      (sym (ap (λ (z : List Page). swapped p z (pages_of m)) (ap (map (fresh (page_at m p).table)) (f (tested ∙ e)) ∙ ap (λ (z : Page). z ∷ []) (sym d)) ∙ swap_same a))

  pub stays_once : b ≡ true → PagesNow m m (swapped p (map (fresh (page_at m p).table) (split_once (tuples_at m p))) (pages_of m))
  stays_once e = stays e (once_whole (tuples_at m p))

  pub stays_all : b ≡ true → PagesNow m m (swapped p (map (fresh (page_at m p).table) (split_all (tuples_at m p))) (pages_of m))
  stays_all e = stays e (all_whole (tuples_at m p))

module _ {m : List ℕ} {p : ℕ} (b : TooLarge m p) {s e : ℕ} (es : s ≡ first_row m p) (ee : e ≡ first_row m (p + 1)) {r : FirstPart} (f : IsFirstPart r (rows_from m s e)) where
  abbrev k : ℕ
  k = r.count

  abbrev a : There m p
  a = b.there

  half_is : r.count ≡ half (tuples_at m p)
  half_is = f.count ∙ ap half (tuples_are a es ee)

  pub between : (1 ≤ r.count) × (r.count < (entry_of m p).count)
  between = (omega (arith, half_is, (both_parts b).0), omega (arith, half_is, many a, (both_parts b).1))

  pub halved : {m' : List ℕ} → EntriesBecome m m' (split_entry p r.count) → Halved m m' p r.size
  unfolding swapped page_of fresh
  halved u =
      let t : ℕ = (entry_of m p).table in
      let c : ℕ = (entry_of m p).count in
      let l = between.0 in
      let l1 = between.1 in
      record {
        pages = now_becomes u (counted_exchange (flat_of m).entries (dirty t k ∷ dirty t (c - k) ∷ []) p 1 (counted m a.has_store) (l, (omega arith, tt)))
            (page_split (flat_of m) (full a) p a.inside (dirty t k) (dirty t (c - k)) (omega arith)
            ∙ ap (λ (z : List Page). swapped p z (pages_of m))
            ((λ i. fresh (sym (page_table_lem a) i) (take (half_is i) (tuples_at m p)) ∷ fresh (sym (page_table_lem a) i) (drop (half_is i) (tuples_at m p)) ∷ [])
            ∙ sym (once_parts (page_at m p).table (tuples_at m p) b.large)));
        first = f.size ∙ ap (λ (z : List Held). sum held_size (take (half z) z)) (tuples_are a es ee);
      }
