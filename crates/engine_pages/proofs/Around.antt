-- The model's walk to the first page that passes a test, by place; pages joined there.
use Rattle.basics.proofs.Kit.{◌≡◌, refl, sym, ap, ◌∙◌, subst, Bool, true, false, some, none, Option, List, [], ◌∷◌, ◌++◌, append-nil, ℕ, suc, ◌+◌, ◌≤◌, ◌<◌, zero, add-one, length}
use Rattle.basics.proofs.Kit.{take, drop, drop_of_length-le, drop-nil, arith}
use Rattle.basics.specs.Basics.{if'◌then◌else◌, is_empty}
use Rattle.basics.proofs.Facts.{by}
use Rattle.basics.specs.Lists.{first_index}
use Rattle.model.specs.State.{Page}
use Rattle.model.specs.Rules.{around, list_of, joins, joined, settle_next, settle_full, settle}
use Rattle.memory_layout.specs.Flat.{flat_of}
use Rattle.memory_layout.proofs.Exchange.{pages_count}
use Rattle.model.specs.Places.{on_page}
use Rattle.engine_pages.specs.Pages.{pages_of, page_at, There, swapped}
use Rattle.engine_pages.specs.Changes.{settled_at, settled_next}
use Rattle.engine_pages.proofs.Places.{from_page, swap_same}
use Rattle.basics.proofs.Parts.{cons_head}
use Rattle.basics.proofs.Firsts.{index_hit, index_pass, none_cons}

-- ---- f on page p

module _ (f : Option Page → Page → List Page → List Page) where
  -- what f leaves before and after page q alone
  pub on_local : (Y : List Page → List Page) (p : ℕ) (q : Page) (ps : List Page) → ((prev : Option Page) (qs : List Page) → f prev q qs ≡ list_of prev ++ Y qs)
      → drop p ps ≡ q ∷ drop (suc p) ps → (prev : Option Page) → on_page f p prev ps ≡ list_of prev ++ (take p ps ++ Y (drop (suc p) ps))
  unfolding on_page list_of
  on_local Y p q [] h e prev = absurd (none_cons q _ (sym (drop-nil p) ∙ e))
  on_local Y zero q (r ∷ rs) h e prev = ap (λ (z : Page). f prev z rs) (cons_head r q _ _ e) ∙ h prev rs
  on_local Y (suc p) q (r ∷ rs) h e prev = ap (λ (z : List Page). list_of prev ++ z) (on_local Y p q rs h e (some r))

  -- another rule on another page does the same
  pub on_changed : (g : Option Page → Page → List Page → List Page) (p : ℕ) (q r : Page) (ps : List Page)
      → ((prev : Option Page) (qs : List Page) → f prev q qs ≡ g prev r qs) → drop p ps ≡ q ∷ drop (suc p) ps
      → (prev : Option Page) → on_page f p prev ps ≡ on_page g p prev (take p ps ++ r ∷ drop (suc p) ps)
  unfolding on_page
  on_changed g p q r [] h e prev = absurd (none_cons q _ (sym (drop-nil p) ∙ e))
  on_changed g zero q r (s ∷ ss) h e prev = ap (λ (z : Page). f prev z ss) (cons_head s q _ _ e) ∙ h prev ss
  on_changed g (suc p) q r (s ∷ ss) h e prev = ap (λ (z : List Page). list_of prev ++ z) (on_changed g p q r ss h e (some s))

  on_first : (q : Page) (ps : List Page) → ps ≡ q ∷ drop 1 ps → on_page f 0 none ps ≡ f none q (drop 1 ps)
  unfolding on_page
  on_first q [] e = absurd (none_cons q _ e)
  on_first q (r ∷ rs) e = ap (λ (z : Page). f none z rs) (cons_head r q _ _ e)

  on_second : (p : ℕ) (o q : Page) (ps : List Page) → drop p ps ≡ o ∷ drop (suc p) ps → drop (suc p) ps ≡ q ∷ drop (suc (suc p)) ps
      → (prev : Option Page) → on_page f (suc p) prev ps ≡ list_of prev ++ (take p ps ++ f (some o) q (drop (suc (suc p)) ps))
  unfolding on_page list_of
  on_second p o q [] e1 e2 prev = absurd (none_cons o _ (sym (drop-nil p) ∙ e1))
  on_second zero o q (r ∷ []) e1 e2 prev = absurd (none_cons q _ e2)
  on_second zero o q (r ∷ s ∷ ss) e1 e2 prev =
      ap (λ (z : List Page). list_of prev ++ z)
      (ap (λ (z : Page). f (some z) s ss) (cons_head r o _ _ e1) ∙ ap (λ (z : Page). f (some o) z ss) (cons_head s q _ _ e2))
  on_second (suc p) o q (r ∷ rs) e1 e2 prev = ap (λ (z : List Page). list_of prev ++ z) (on_second p o q rs e1 e2 (some r))

  -- ---- the first page that passes

  around_hit : (hit : Page → Bool) (prev : Option Page) (p : Page) (ps : List Page) → hit p ≡ true → around hit f prev (p ∷ ps) ≡ f prev p ps
  unfolding around
  around_hit hit prev p ps e = rw (e, around)

  around_pass : (hit : Page → Bool) (prev : Option Page) (p : Page) (ps : List Page) → hit p ≡ false → around hit f prev (p ∷ ps) ≡ list_of prev ++ around hit f (some p) ps
  unfolding around
  around_pass hit prev p ps e = rw (e, around)

  pub around_first : (hit : Page → Bool) (ps : List Page) → first_index hit ps < length ps → (prev : Option Page) → around hit f prev ps ≡ on_page f (first_index hit ps) prev ps
  unfolding on_page
  around_first hit [] l prev = absurd (omega arith)
  around_first hit (r ∷ rs) l prev =
      by (hit r)
      (λ e. around_hit hit prev r rs e ∙ sym (ap (λ z. on_page f z prev (r ∷ rs)) (index_hit hit r rs e)))
      (λ e. around_pass hit prev r rs e ∙ ap (λ (z : List Page). list_of prev ++ z) (around_first hit rs (omega (arith, index_pass hit r rs e)) (some r))
      ∙ sym (ap (λ z. on_page f z prev (r ∷ rs)) (index_pass hit r rs e)))

-- ---- on a page of the memory

module _ {m : List ℕ} {p : ℕ} (a : There m p) where
  pub on_swap : (f : Option Page → Page → List Page → List Page) (xs : List Page) → ((prev : Option Page) (qs : List Page) → f prev (page_at m p) qs ≡ list_of prev ++ (xs ++ qs))
      → on_page f p none (pages_of m) ≡ swapped p xs (pages_of m)
  unfolding swapped list_of
  on_swap f xs h = on_local f (λ qs. xs ++ qs) p (page_at m p) (pages_of m) h (from_page a) none

  pub on_same : (f g : Option Page → Page → List Page → List Page) → ((prev : Option Page) (qs : List Page) → f prev (page_at m p) qs ≡ g prev (page_at m p) qs)
      → on_page f p none (pages_of m) ≡ on_page g p none (pages_of m)
  unfolding swapped
  on_same f g h = on_changed f g p (page_at m p) (page_at m p) (pages_of m) h (from_page a) none ∙ ap (on_page g p none) (swap_same a)

  next_is : (rest : List Page) → settled_next p (pages_of m) rest ≡ take p (pages_of m) ++ settle_next rest (page_at m p) (drop (suc p) (pages_of m))
  unfolding settled_next list_of
  next_is rest = on_local _ (settle_next rest (page_at m p)) p (page_at m p) (pages_of m) (λ prev qs. refl) (from_page a) none

  -- there is no successor
  pub next_none : length (flat_of m).entries ≤ p + 1 → (rest : List Page) → settled_next p (pages_of m) rest ≡ swapped p rest (pages_of m)
  unfolding swapped settle_next
  next_none h rest =
      let e : drop (suc p) (pages_of m) ≡ [] = drop_of_length-le (pages_of m) {i = suc p} (omega (arith, pages_count (flat_of m))) in
      next_is rest ∙ ap (λ (z : List Page). take p (pages_of m) ++ settle_next rest (page_at m p) z) e
      ∙ ap (λ (z : List Page). take p (pages_of m) ++ z) (sym (append-nil rest) ∙ ap (λ (z : List Page). rest ++ z) (sym e))

  module _ (b : There m (p + 1)) where
    second : drop (suc p) (pages_of m) ≡ page_at m (p + 1) ∷ drop (suc (suc p)) (pages_of m)
    second = subst (λ (z : ℕ). drop z (pages_of m) ≡ page_at m (p + 1) ∷ drop (suc z) (pages_of m)) (add-one p) (from_page b)

    step : (rest : List Page) → settled_next p (pages_of m) rest
        ≡ take p (pages_of m) ++ (if' joins (page_at m p) (page_at m (p + 1)) then joined (page_at m p) (page_at m (p + 1)) ∷ drop (suc (suc p)) (pages_of m)
        else rest ++ page_at m (p + 1) ∷ drop (suc (suc p)) (pages_of m))
    unfolding settle_next
    step rest = next_is rest ∙ ap (λ (z : List Page). take p (pages_of m) ++ settle_next rest (page_at m p) z) second

    pub next_joins : joins (page_at m p) (page_at m (p + 1)) ≡ true → (rest : List Page)
        → settled_next p (pages_of m) rest ≡ take p (pages_of m) ++ joined (page_at m p) (page_at m (p + 1)) ∷ drop (p + 2) (pages_of m)
    unfolding if'◌then◌else◌
    next_joins h rest =
        let z2 : suc (suc p) ≡ p + 2 = omega arith in
        step rest ∙ ap (λ (z : Bool). take p (pages_of m) ++ (if' z then joined (page_at m p) (page_at m (p + 1)) ∷ drop (suc (suc p)) (pages_of m)
        else rest ++ page_at m (p + 1) ∷ drop (suc (suc p)) (pages_of m))) h
        ∙ ap (λ (z : ℕ). take p (pages_of m) ++ joined (page_at m p) (page_at m (p + 1)) ∷ drop z (pages_of m)) z2

    pub next_apart : joins (page_at m p) (page_at m (p + 1)) ≡ false → (rest : List Page) → settled_next p (pages_of m) rest ≡ swapped p rest (pages_of m)
    unfolding if'◌then◌else◌ swapped
    next_apart h rest =
        step rest ∙ ap (λ (z : Bool). take p (pages_of m) ++ (if' z then joined (page_at m p) (page_at m (p + 1)) ∷ drop (suc (suc p)) (pages_of m)
        else rest ++ page_at m (p + 1) ∷ drop (suc (suc p)) (pages_of m))) h
        ∙ ap (λ (z : List Page). take p (pages_of m) ++ (rest ++ z)) (sym second)

    both : (f : Option Page → Page → List Page → List Page) → on_page f (suc p) none (pages_of m)
        ≡ take p (pages_of m) ++ f (some (page_at m p)) (page_at m (p + 1)) (drop (suc (suc p)) (pages_of m))
    unfolding list_of
    both f = on_second f p (page_at m p) (page_at m (p + 1)) (pages_of m) (from_page a) second none

    pub before_joins : joins (page_at m p) (page_at m (p + 1)) ≡ true → (rest : List Page)
        → settled_at (suc p) (pages_of m) rest ≡ take p (pages_of m) ++ joined (page_at m p) (page_at m (p + 1)) ∷ drop (p + 2) (pages_of m)
    unfolding settled_at settle_full if'◌then◌else◌
    before_joins h rest =
        let z2 : suc (suc p) ≡ p + 2 = omega arith in
        both (settle_full rest) ∙ ap (λ (z : Bool). take p (pages_of m) ++ (if' z then joined (page_at m p) (page_at m (p + 1)) ∷ drop (suc (suc p)) (pages_of m)
        else page_at m p ∷ settle_next rest (page_at m (p + 1)) (drop (suc (suc p)) (pages_of m)))) h
        ∙ ap (λ (z : ℕ). take p (pages_of m) ++ joined (page_at m p) (page_at m (p + 1)) ∷ drop z (pages_of m)) z2

    pub before_apart : joins (page_at m p) (page_at m (p + 1)) ≡ false → (rest : List Page)
        → settled_at (suc p) (pages_of m) rest ≡ settled_next (suc p) (pages_of m) rest
    unfolding settled_at settled_next settle_full list_of if'◌then◌else◌
    before_apart h rest =
        both (settle_full rest) ∙ ap (λ (z : Bool). take p (pages_of m) ++ (if' z then joined (page_at m p) (page_at m (p + 1)) ∷ drop (suc (suc p)) (pages_of m)
        else page_at m p ∷ settle_next rest (page_at m (p + 1)) (drop (suc (suc p)) (pages_of m)))) h
        ∙ sym (both (λ prev q qs. list_of prev ++ settle_next rest q qs))

-- the first page has no predecessor
pub before_none : {m : List ℕ} → There m 0 → (rest : List Page) → settled_at 0 (pages_of m) rest ≡ settled_next 0 (pages_of m) rest
unfolding settled_at settled_next settle_full list_of
before_none {m} a rest =
    on_first (settle_full rest) (page_at m 0) (pages_of m) (from_page a)
    ∙ sym (on_first (λ prev q qs. list_of prev ++ settle_next rest q qs) (page_at m 0) (pages_of m) (from_page a))

-- a page that is not empty is joined or stays
pub settle_full_lem : (rest : List Page) (prev : Option Page) (p : Page) (ps : List Page) → is_empty p.tuples ≡ false → settle rest prev p ps ≡ settle_full rest prev p ps
unfolding settle if'◌then◌else◌
settle_full_lem rest prev p ps e = rw e

pub settle_empty : (rest : List Page) (prev : Option Page) (p : Page) (ps : List Page) → is_empty p.tuples ≡ true → settle rest prev p ps ≡ list_of prev ++ ps
unfolding settle if'◌then◌else◌
settle_empty rest prev p ps e = rw e
