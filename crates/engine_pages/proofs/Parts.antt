-- A page split, and its parts again.
use Rattle.basics.proofs.Kit.{◌≡◌, refl, sym, ap, ◌∙◌, false, List, [], ◌∷◌, ◌++◌, map, ℕ, suc, ◌+◌, ◌≤◌, ◌<◌, zero, ◌-◌, length, take, drop, length-drop, length-take-le}
use Rattle.basics.proofs.Kit.{arith}
use Rattle.basics.specs.Basics.{sum}
use Rattle.basics.proofs.Facts.{AllOf, by}
use Rattle.basics.proofs.Lists.{map_append, sum_parts}
use Rattle.block_forms.specs.Limits.{record_space}
use Rattle.model.specs.State.{Held, Page}
use Rattle.model.specs.Rules.{held_size, fits, half, split_deep, split_all, fresh}
use Rattle.model.proofs.Splits.{Small, half_between}
use Rattle.basics.proofs.Elements.{all_take, all_drop}
use Rattle.engine_pages.specs.Pages.{PagesNow, pages_of, page_at, tuples_at, entry_of, There, swapped}
use Rattle.engine_pages.specs.Changes.{TooLarge, Halved, OfSize}
use Rattle.engine_pages.proofs.Places.{now_to, now_then, now_pages, swap_first, swap_second, first_there, first_page, second_there, second_page, many}
use Rattle.engine_pages.proofs.Splitting.{deep_fits, once_parts, dirty_fresh, big, tuples_small, both_parts}

-- ---- how deep is enough

deep_parts : (d : ℕ) (hs : List Held) → fits hs ≡ false → split_deep (suc d) hs ≡ split_deep d (take (half hs) hs) ++ split_deep d (drop (half hs) hs)
unfolding split_deep
deep_parts d hs e = rw (e, split_deep) refl

big_some : (hs : List Held) → record_space < sum held_size hs → 0 < length hs
unfolding sum
big_some [] l = absurd (omega arith)
big_some (h ∷ hs) l = omega arith

-- any depth that reaches the number of tuples gives the same parts
deep_same : (d e : ℕ) (hs : List Held) → length hs ≤ d → length hs ≤ e → AllOf Small hs → split_deep d hs ≡ split_deep e hs
deep_same zero e hs ld le s = by (fits hs) (λ t. deep_fits zero hs t ∙ sym (deep_fits e hs t)) (λ t. absurd (omega (arith, big_some hs (big hs t))))
deep_same (suc d) zero hs ld le s = by (fits hs) (λ t. deep_fits (suc d) hs t ∙ sym (deep_fits zero hs t)) (λ t. absurd (omega (arith, big_some hs (big hs t))))
deep_same (suc d) (suc e) hs ld le s =
    by (fits hs) (λ t. deep_fits (suc d) hs t ∙ sym (deep_fits (suc e) hs t))
    (λ t. let b = half_between hs s (big hs t) in
    let b0 = b.0 in
    let b1 = b.1 in
    let k : ℕ = half hs in
    let lt : length (take k hs) ≡ k = length-take-le k hs (omega arith) in
    let lr : length (drop k hs) ≡ length hs - k = length-drop k hs in
    deep_parts d hs t
    ∙ (λ i. deep_same d e (take k hs) (omega arith) (omega arith) (all_take Small k hs s) i ++ deep_same d e (drop k hs) (omega arith) (omega arith) (all_drop Small k hs s) i)
    ∙ sym (deep_parts e hs t))

-- each part is split as a whole
pub all_parts : (hs : List Held) → fits hs ≡ false → AllOf Small hs → split_all hs ≡ split_all (take (half hs) hs) ++ split_all (drop (half hs) hs)
unfolding split_all
all_parts hs t s =
    let b = half_between hs s (big hs t) in
    let b0 = b.0 in
    let b1 = b.1 in
    let k : ℕ = half hs in
    let n : ℕ = length hs - 1 in
    let en : length hs ≡ suc n = omega arith in
    let lt : length (take k hs) ≡ k = length-take-le k hs (omega arith) in
    let lr : length (drop k hs) ≡ length hs - k = length-drop k hs in
    ap (λ (z : ℕ). split_deep z hs) en ∙ deep_parts n hs t
    ∙ (λ i. deep_same n (length (take k hs)) (take k hs) (omega arith) (omega arith) (all_take Small k hs s) i
    ++ deep_same n (length (drop k hs)) (drop k hs) (omega arith) (omega arith) (all_drop Small k hs s) i)

-- ---- on the memory

module _ {m m1 : List ℕ} {p : ℕ} (b : TooLarge m p) {r : ℕ} (h : Halved m m1 p r) where
  abbrev t : ℕ
  t = (page_at m p).table

  abbrev hs : List Held
  hs = tuples_at m p

  abbrev k : ℕ
  k = half (tuples_at m p)

  abbrev first : Page
  first = fresh t (take k hs)

  abbrev second : Page
  second = fresh t (drop k hs)

  two : PagesNow m m1 (swapped p (first ∷ second ∷ []) (pages_of m))
  two = now_to h.pages (ap (λ (x : List Page). swapped p x (pages_of m)) (once_parts t hs b.large))

  second_at : There m1 (p + 1)
  second_at = second_there b.there first second [] two

  second_is : page_at m1 (p + 1) ≡ second
  second_is = second_page b.there first second [] two

  -- the first part is not larger than the whole
  pub first_most : r ≤ sum held_size (tuples_at m p)
  first_most = omega (arith, h.first, sum_parts held_size k hs)

  -- the later part has what is left of the size
  pub second_sized : {w v : ℕ} → w ≡ sum held_size (tuples_at m p) → v ≡ w - r → OfSize m1 (p + 1) v
  unfolding fresh
  second_sized ew ev =
      let e : sum held_size (tuples_at m1 (p + 1)) ≡ sum held_size (drop k hs) = ap (λ (z : Page). sum held_size z.tuples) second_is in
      record { there = second_at; dirty = dirty_fresh (page_at m1 (p + 1)) _ _ second_is; is = omega (arith, h.first, sum_parts held_size k hs) }

  -- and is shorter
  pub second_less : (entry_of m1 (p + 1)).count < (entry_of m p).count
  unfolding fresh
  second_less =
      let e : length (tuples_at m1 (p + 1)) ≡ length (drop k hs) = ap (λ (z : Page). length z.tuples) second_is in
      omega (arith, many second_at, many b.there, length-drop k hs, (both_parts b).0, (both_parts b).1)

  module _ {m2 : List ℕ} (u : PagesNow m1 m2 (swapped (p + 1) (map (fresh (page_at m1 (p + 1)).table) (split_all (tuples_at m1 (p + 1)))) (pages_of m1))) where
    abbrev later : List Page
    later = map (fresh t) (split_all (drop k hs))

    then : PagesNow m m2 (swapped p (first ∷ later) (pages_of m))
    unfolding fresh
    then =
        now_to (now_then two u)
        (ap (λ (z : Page). swapped (p + 1) (map (fresh z.table) (split_all z.tuples)) (pages_of m1)) second_is
        ∙ ap (swapped (p + 1) later) (now_pages two) ∙ swap_second b.there first second later)

    first_at : There m2 p
    first_at = first_there b.there first later then

    first_is : page_at m2 p ≡ first
    first_is = first_page b.there first later then

    pub first_sized : {v : ℕ} → v ≡ r → OfSize m2 p v
    unfolding fresh
    first_sized ev = record {
      there = first_at;
      dirty = dirty_fresh (page_at m2 p) _ _ first_is;
      is = ev ∙ h.first ∙ sym (ap (λ (z : Page). sum held_size z.tuples) first_is);
    }

    pub first_less : (entry_of m2 p).count < (entry_of m p).count
    unfolding fresh
    first_less =
        let e : length (tuples_at m2 p) ≡ length (take k hs) = ap (λ (z : Page). length z.tuples) first_is in
        omega (arith, many first_at, many b.there, length-take-le k hs (omega (arith, (both_parts b).1)), (both_parts b).1)

    pub split_parts : {m3 : List ℕ} → PagesNow m2 m3 (swapped p (map (fresh (page_at m2 p).table) (split_all (tuples_at m2 p))) (pages_of m2))
        → PagesNow m m3 (swapped p (map (fresh (page_at m p).table) (split_all (tuples_at m p))) (pages_of m))
    unfolding fresh
    split_parts v =
        let f : List Page = map (fresh t) (split_all (take k hs)) in
        now_to (now_then then v)
        (ap (λ (z : Page). swapped p (map (fresh z.table) (split_all z.tuples)) (pages_of m2)) first_is
        ∙ ap (swapped p f) (now_pages then) ∙ swap_first b.there first later f
        ∙ ap (λ (x : List Page). swapped p x (pages_of m))
        (sym (map_append (fresh t) (split_all (take k hs)) (split_all (drop k hs))) ∙ ap (map (fresh t)) (sym (all_parts hs b.large (tuples_small b.there)))))
