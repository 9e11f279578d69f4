-- Whether two pages may be joined, and what joining a changed page does.
use Rattle.basics.proofs.Kit.{◌≡◌, refl, sym, ap, ◌∙◌, subst, Bool, true, false, none, List, [], ◌∷◌, ◌++◌, ℕ, suc, ◌+◌, ◌<◌, ◌-◌, leb, length, take, drop, drop-drop, take-add, eq-eqb}
use Rattle.basics.proofs.Kit.{ne_eqb, arith}
use Rattle.basics.specs.Basics.{sum, is_empty}
use Rattle.basics.proofs.Facts.{by, lie}
use Rattle.block_forms.specs.Limits.{join_sum}
use Rattle.model.specs.State.{Held, Page}
use Rattle.model.specs.Rules.{held_size, joins, joined, fresh, settle, settle_full}
use Rattle.model.specs.Places.{on_page}
use Rattle.model.proofs.RuleCases.{joinable}
use Rattle.basics.proofs.Elements.{nonempty, sum_append, length_zero}
use Rattle.memory_layout.specs.Flat.{flat_of, Room}
use Rattle.memory_layout.proofs.Exchange.{counted_exchange, pages_joined}
use Rattle.memory_pages.specs.Pages.{dirty, join_entries, MayJoin, EntriesBecome}
use Rattle.engine_pages.specs.Pages.{PagesNow, pages_of, page_at, tuples_at, entry_of, first_row, There, swapped}
use Rattle.memory_layout.specs.Elements.{rows_from, RowRange}
use Rattle.engine_pages.specs.Changes.{Tries, settled_at, settled_next, settled_by}
use Rattle.engine_pages.proofs.Places.{now_becomes, counted, full, has_row, now_to, now_stay, now_pages, swap_same}
use Rattle.engine_pages.proofs.Places.{from_page, ends_at, page_end, room, tuples_are, page_table_lem, page_frozen}
use Rattle.basics.proofs.Numbers.{pos_of}
use Rattle.engine_pages.proofs.Rows.{page_fresh}
use Rattle.engine_pages.proofs.Around.{on_swap, on_changed, settle_full_lem, settle_empty, before_none, before_joins, before_apart}

module _ (p q : Page) where
  pub joins_frozen : p.frozen ≡ true → joins p q ≡ false
  unfolding joins
  joins_frozen e = rw e

  module _ (e : p.frozen ≡ false) where
    pub joins_next : q.frozen ≡ true → joins p q ≡ false
    unfolding joins
    joins_next d = rw (e, d)

    module _ (d : q.frozen ≡ false) where
      pub joins_other : (p.table ≡ q.table → ⊥) → joins p q ≡ false
      unfolding joins
      joins_other ne = rw (e, d, ne_eqb p.table q.table ne)

      pub joins_sizes : p.table ≡ q.table → joins p q ≡ leb (sum held_size p.tuples + sum held_size q.tuples) join_sum
      unfolding joins
      joins_sizes t = rw (e, d, eq-eqb p.table q.table t)

module _ {m : List ℕ} {p : ℕ} (a : There m p) (lt : p + 1 < length (flat_of m).entries) where
  pub next_at : There m (p + 1)
  next_at = record { has_store = a.has_store; inside = lt }

  z2 : p + 1 + 1 ≡ p + 2
  z2 = omega arith

  -- both pages are one run of rows
  pub both_span : {s e : ℕ} → s ≡ first_row m p → e ≡ first_row m (p + 2) → RowRange m s e
  both_span es ee =
      let k = ap (first_row m) z2 in
      record { room = room a; order = omega (arith, ends_at a, ends_at next_at); inside = omega (arith, ends_at next_at, page_end next_at) }

  pub both_sizes : {s e : ℕ} → s ≡ first_row m p → e ≡ first_row m (p + 2) → sum held_size (rows_from m s e) ≡ sum held_size (tuples_at m p) + sum held_size (tuples_at m (p + 1))
  both_sizes {s} {e} es ee =
      let rs : List Held = (flat_of m).rows in
      let x : ℕ = (entry_of m p).count in
      let y : ℕ = (entry_of m (p + 1)).count in
      let f1 : ℕ = first_row m (p + 1) in
      let k = ap (first_row m) z2 in
      let n1 : f1 ≡ first_row m p + x = ends_at a in
      let n2 : first_row m (p + 1 + 1) ≡ f1 + y = ends_at next_at in
      let n : e - s ≡ x + y = omega arith in
      let u : rows_from m s f1 ≡ tuples_at m p = tuples_are a es refl in
      let v : rows_from m f1 (first_row m (p + 1 + 1)) ≡ tuples_at m (p + 1) = tuples_are next_at refl refl in
      let nu : f1 - s ≡ x = omega arith in
      let nv : first_row m (p + 1 + 1) - f1 ≡ y = omega arith in
      let sx : s + x ≡ f1 = omega arith in
      ap (λ (z : ℕ). sum held_size (take z (drop s rs))) n
      ∙ ap (sum held_size) (take-add x y (drop s rs) ∙ ap (λ (z : List Held). take x (drop s rs) ++ take y z) (drop-drop x s rs ∙ ap (λ (z : ℕ). drop z rs) sx))
      ∙ sum_append held_size (take x (drop s rs)) (take y (drop f1 rs))
      ∙ (λ i. sum held_size ((ap (λ (z : ℕ). take z (drop s rs)) (sym nu) ∙ u) i) + sum held_size ((ap (λ (z : ℕ). take z (drop f1 rs)) (sym nv) ∙ v) i))

  -- ---- by what was read

  module _ {d : Bool} (ed : d ≡ (entry_of m p).frozen) where
    pub apart_frozen : d ≡ true → false ≡ joins (page_at m p) (page_at m (p + 1))
    apart_frozen h = sym (joins_frozen (page_at m p) (page_at m (p + 1)) (page_frozen a ∙ sym ed ∙ h))

    module _ (hd : d ≡ false) {e : Bool} (ee : e ≡ (entry_of m (p + 1)).frozen) where
      pub apart_next : e ≡ true → false ≡ joins (page_at m p) (page_at m (p + 1))
      apart_next h = sym (joins_next (page_at m p) (page_at m (p + 1)) (page_frozen a ∙ sym ed ∙ hd) (page_frozen next_at ∙ sym ee ∙ h))

      module _ (he : e ≡ false) {t u : ℕ} (et : t ≡ (entry_of m p).table) (eu : u ≡ (entry_of m (p + 1)).table) where
        pub apart_tables : (t ≡ u → ⊥) → false ≡ joins (page_at m p) (page_at m (p + 1))
        apart_tables h =
            sym (joins_other (page_at m p) (page_at m (p + 1)) (page_frozen a ∙ sym ed ∙ hd) (page_frozen next_at ∙ sym ee ∙ he)
            (λ z. h (et ∙ sym (page_table_lem a) ∙ z ∙ page_table_lem next_at ∙ sym eu)))

        pub by_sizes : t ≡ u → {s z : ℕ} → s ≡ first_row m p → z ≡ first_row m (p + 2) → {r : Bool} → r ≡ leb (sum held_size (rows_from m s z)) join_sum
            → r ≡ joins (page_at m p) (page_at m (p + 1))
        by_sizes h es ez er =
            er ∙ ap (λ (k : ℕ). leb k join_sum) (both_sizes es ez)
            ∙ sym (joins_sizes (page_at m p) (page_at m (p + 1)) (page_frozen a ∙ sym ed ∙ hd) (page_frozen next_at ∙ sym ee ∙ he)
            (page_table_lem a ∙ sym et ∙ h ∙ eu ∙ sym (page_table_lem next_at)))

-- ---- two pages made one

module _ {m : List ℕ} {p : ℕ} (a : There m p) (lt : p + 1 < length (flat_of m).entries) (j : joins (page_at m p) (page_at m (p + 1)) ≡ true) where
  pub may_join : Room m × MayJoin (flat_of m) p
  may_join = (room a, record { place = lt; table = sym (page_table_lem (next_at a lt)) ∙ sym (joinable _ _ j).table ∙ page_table_lem a })

  pub joined_now : {m' : List ℕ} → EntriesBecome m m' (join_entries p)
      → PagesNow m m' (take p (pages_of m) ++ joined (page_at m p) (page_at m (p + 1)) ∷ drop (p + 2) (pages_of m))
  unfolding joined
  joined_now b =
      let t : ℕ = (entry_of m p).table in
      let c : ℕ = (entry_of m p).count + (entry_of m (p + 1)).count in
      now_becomes b (counted_exchange (flat_of m).entries (dirty t c ∷ []) p 2 (counted m a.has_store) (omega (arith, has_row a), tt))
      (pages_joined (flat_of m) (full a) p (dirty t c) lt refl
      ∙ ap (λ (z : Page). take p (pages_of m) ++ z ∷ drop (p + 2) (pages_of m)) (page_fresh m p c _))

-- ---- a changed page settles

-- joined or not, with itself as the rest
pub tries_done : {m m' : List ℕ} {p : ℕ} → There m p → (r : Bool) → Tries m m' r (settled_at p (pages_of m)) (λ rest. swapped p rest (pages_of m))
    → PagesNow m m' (settled_at p (pages_of m) (page_at m p ∷ []))
tries_done {m} {m'} {p} a r t =
    by r (λ e. t.done e (page_at m p ∷ []))
    (λ e. let d = t.not_done e in
    subst (λ (z : List ℕ). PagesNow m z (settled_at p (pages_of m) (page_at m p ∷ []))) (sym d.0)
    (now_to (now_stay m a.has_store) (sym (d.1 (page_at m p ∷ []) ∙ swap_same a))))

module _ {m : List ℕ} {p : ℕ} (a : There m p) (t : ℕ) (hs : List Held) (rest : List Page) where
  -- nothing is left
  pub settled_none : length hs ≡ 0 → swapped p [] (pages_of m) ≡ settled_by p rest (fresh t hs) (pages_of m)
  unfolding settled_by fresh is_empty
  settled_none e = sym (on_swap a _ [] (λ prev qs. settle_empty rest prev (fresh t hs) qs (ap is_empty (length_zero hs e))))

  -- the changed page stands, and is joined as it may be
  pub settled_by_lem : 0 < length hs → {m1 : List ℕ} → PagesNow m m1 (swapped p (fresh t hs ∷ []) (pages_of m)) → settled_at p (pages_of m1) rest ≡ settled_by p rest (fresh t hs) (pages_of m)
  unfolding settled_at settled_by swapped fresh
  settled_by_lem l {m1} u =
      ap (on_page (settle_full rest) p none) (now_pages u)
      ∙ sym (on_changed (λ o r qs. settle rest o (fresh t hs) qs) (settle_full rest) p (page_at m p) (fresh t hs) (pages_of m)
      (λ prev qs. settle_full_lem rest prev (fresh t hs) qs (nonempty hs l)) (from_page a) none)

-- ---- tried or not

pub tried : {m m' : List ℕ} {F G : List Page → List Page} → ((rest : List Page) → PagesNow m m' (F rest)) → Tries m m' true F G
tried h = record { done = λ e. h; not_done = λ e. lie (sym e) }

pub not_tried : {m : List ℕ} {F G : List Page → List Page} → ((rest : List Page) → F rest ≡ G rest) → Tries m m false F G
not_tried h = record { done = λ e. lie e; not_done = λ e. (refl, h) }

-- the successor is tried after the predecessor
pub tried_both : {m m1 m2 : List ℕ} (p : ℕ) (q r : Bool) → q ≡ false → Tries m m1 q (settled_at p (pages_of m)) (settled_next p (pages_of m))
    → Tries m1 m2 r (settled_next p (pages_of m1)) (λ rest. swapped p rest (pages_of m1)) → Tries m m2 r (settled_at p (pages_of m)) (λ rest. swapped p rest (pages_of m))
tried_both {m} {m1} {m2} p q r e t u =
    let d = t.not_done e in
    let v : Tries m m2 r (settled_next p (pages_of m)) (λ rest. swapped p rest (pages_of m)) =
    subst (λ (z : List ℕ). Tries z m2 r (settled_next p (pages_of z)) (λ rest. swapped p rest (pages_of z))) d.0 u in
    record {
      done = λ e rest. now_to (v.done e rest) (sym (d.1 rest));
      not_done = λ e. ((v.not_done e).0, λ rest. d.1 rest ∙ (v.not_done e).1 rest);
    }

pub first_apart : {m : List ℕ} {p : ℕ} → There m p → p ≡ 0 → (rest : List Page) → settled_at p (pages_of m) rest ≡ settled_next p (pages_of m) rest
first_apart {m} {p} a e rest =
    let b : There m 0 = subst (There m) e a in
    ap (λ (z : ℕ). settled_at z (pages_of m) rest) e ∙ before_none b rest ∙ ap (λ (z : ℕ). settled_next z (pages_of m) rest) (sym e)

module _ {m : List ℕ} {p : ℕ} (a : There m p) (ne : p ≡ 0 → ⊥) where
  suc_is : suc (p - 1) ≡ p
  suc_is = omega (arith, pos_of p ne)

  pub prev_at : There m (p - 1)
  prev_at = record { has_store = a.has_store; inside = omega (arith, a.inside, pos_of p ne) }

  pub prev_inside : p - 1 + 1 < length (flat_of m).entries
  prev_inside = omega (arith, a.inside, pos_of p ne)

  pub prev_joins : joins (page_at m (p - 1)) (page_at m (p - 1 + 1)) ≡ true → (rest : List Page)
      → take (p - 1) (pages_of m) ++ joined (page_at m (p - 1)) (page_at m (p - 1 + 1)) ∷ drop (p - 1 + 2) (pages_of m) ≡ settled_at p (pages_of m) rest
  prev_joins h rest =
      sym (before_joins prev_at (next_at prev_at prev_inside) h rest) ∙ ap (λ (z : ℕ). settled_at z (pages_of m) rest) suc_is

  pub prev_apart : joins (page_at m (p - 1)) (page_at m (p - 1 + 1)) ≡ false → (rest : List Page) → settled_at p (pages_of m) rest ≡ settled_next p (pages_of m) rest
  prev_apart h rest =
      ap (λ (z : ℕ). settled_at z (pages_of m) rest) (sym suc_is)
      ∙ before_apart prev_at (next_at prev_at prev_inside) h rest
      ∙ ap (λ (z : ℕ). settled_next z (pages_of m) rest) suc_is
