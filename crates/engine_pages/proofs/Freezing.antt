-- Freezing, page by page.
use Rattle.basics.proofs.Kit.{◌≡◌, sym, ap, ◌∙◌, true, List, [], ◌∷◌, ◌++◌, append_assoc, append-nil, map, ℕ, suc, ◌+◌, ◌≤◌, ◌<◌, add-one, eqb, length, take, drop}
use Rattle.basics.proofs.Kit.{drop_of_length-le, length-map, take_all, arith}
use Rattle.basics.proofs.Lists.{map_append}
use Rattle.model.specs.State.{Page}
use Rattle.model.specs.Rules.{is_dirty, freeze}
use Rattle.memory_layout.specs.Flat.{flat_of}
use Rattle.memory_layout.specs.Store.{page_of, page_in, holds_store}
use Rattle.memory_layout.proofs.Exchange.{pages_count}
use Rattle.memory_pages.specs.Pages.{EntriesBecome, set_block}
use Rattle.engine_pages.specs.Pages.{PagesNow, pages_of, page_at, tuples_at, entry_of, There, swapped}
use Rattle.engine_pages.proofs.Places.{now_to, now_stay, now_then, now_pages, now_held, from_page, before_long, there_here, page_here, swap_at}
use Rattle.basics.proofs.Parts.{take_snoc}
use Rattle.engine_pages.proofs.Rows.{page_now}

-- the page is frozen where its block is 0
pub frozen_now : {m m' : List ℕ} {p : ℕ} → There m p → (b : ℕ) → b ≡ (entry_of m p).block
    → EntriesBecome m m' (set_block p b (eqb b 0)) → PagesNow m m' (swapped p (freeze (page_at m p) ∷ []) (pages_of m))
unfolding page_of page_in freeze is_dirty
frozen_now {m} {m'} {p} a b eb u =
    now_to (page_now a b (eqb b 0) u)
    (ap (λ (z : ℕ). swapped p (record { table = (entry_of m p).table; block = z; frozen = eqb z 0; tuples = tuples_at m p } ∷ []) (pages_of m)) eb)

-- the first p pages are frozen
abbrev pub FreezeInv : List ℕ → List ℕ → ℕ → Type 0
FreezeInv m m1 p = (p ≤ length (flat_of m).entries) × PagesNow m m1 (map freeze (take p (pages_of m)) ++ drop p (pages_of m))

pub freeze_start : (m : List ℕ) → holds_store m ≡ true → FreezeInv m m 0
freeze_start m h = (omega arith, now_stay m h)

module _ {m m1 : List ℕ} (p : ℕ) (h : holds_store m ≡ true) (lt : p < length (flat_of m).entries) (inv : FreezeInv m m1 p) where
  abbrev ps : List Page
  ps = pages_of m

  abbrev xs : List Page
  xs = map freeze (take p (pages_of m))

  abbrev ys : List Page
  ys = drop (suc p) (pages_of m)

  a : There m p
  a = record { has_store = h; inside = lt }

  xs_long : length (map freeze (take p (pages_of m))) ≡ p
  xs_long = length-map (take p ps) freeze ∙ before_long a

  pages_now : pages_of m1 ≡ map freeze (take p (pages_of m)) ++ page_at m p ∷ drop (suc p) (pages_of m)
  pages_now = now_pages inv.1 ∙ ap (λ (z : List Page). xs ++ z) (from_page a)

  pub freeze_there : There m1 p
  freeze_there = there_here m1 (now_held inv.1) xs (page_at m p) ys pages_now p (sym xs_long)

  same_page : page_at m1 p ≡ page_at m p
  same_page = page_here m1 (now_held inv.1) xs (page_at m p) ys pages_now p (sym xs_long)

  one_more : map freeze (take p (pages_of m)) ++ freeze (page_at m p) ∷ drop (suc p) (pages_of m) ≡ map freeze (take (p + 1) (pages_of m)) ++ drop (p + 1) (pages_of m)
  one_more =
      sym (append_assoc xs (freeze (page_at m p) ∷ []) ys)
      ∙ ap (λ (z : List Page). z ++ ys) (sym (map_append freeze (take p ps) (page_at m p ∷ [])) ∙ ap (map freeze) (sym (take_snoc ps p (page_at m p) (from_page a))))
      ∙ ap (λ (z : ℕ). map freeze (take z ps) ++ drop z ps) (sym (add-one p))

  pub freeze_next : {m2 : List ℕ} → PagesNow m1 m2 (swapped p (freeze (page_at m1 p) ∷ []) (pages_of m1)) → FreezeInv m m2 (p + 1)
  freeze_next t = (
    omega arith,
    now_to (now_then inv.1 t)
        (ap (λ (z : Page). swapped p (freeze z ∷ []) (pages_of m1)) same_page
        ∙ ap (swapped p (freeze (page_at m p) ∷ [])) pages_now
        ∙ swap_at p xs (page_at m p) ys (freeze (page_at m p) ∷ []) xs_long
        ∙ one_more),
  )

pub freeze_end : {m m1 : List ℕ} (p : ℕ) → FreezeInv m m1 p → length (flat_of m).entries ≤ p → PagesNow m m1 (map freeze (pages_of m))
freeze_end {m} {m1} p inv l =
    let k : length (pages_of m) ≤ p = omega (arith, pages_count (flat_of m)) in
    now_to inv.1
    (ap (λ (z : List Page). map freeze z ++ drop p (pages_of m)) (take_all p (pages_of m) k)
    ∙ ap (λ (z : List Page). map freeze (pages_of m) ++ z) (drop_of_length-le (pages_of m) {i = p} k)
    ∙ append-nil (map freeze (pages_of m)))
