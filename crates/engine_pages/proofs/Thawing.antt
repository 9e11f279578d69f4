-- Thawing the first frozen page: the model's rule by place.
use Rattle.basics.proofs.Kit.{◌≡◌, refl, sym, ap, ◌∙◌, subst, Bool, true, false, none, Option, List, [], ◌∷◌, ◌++◌, map, ℕ, arith}
use Rattle.basics.specs.Basics.{if'◌then◌else◌, any, sum}
use Rattle.model.specs.State.{Held, Page}
use Rattle.model.specs.Rules.{held_size, is_frozen, fresh, list_of, split_all, settle, thaw_on, thaw}
use Rattle.model.specs.Places.{on_page}
use Rattle.memory_layout.specs.Flat.{flat_of}
use Rattle.memory_layout.specs.Store.{page_of, page_in}
use Rattle.memory_layout.proofs.Exchange.{pages_count}
use Rattle.memory_pages.specs.Pages.{with_block, EntriesBecome, set_block}
use Rattle.engine_pages.specs.Pages.{PagesNow, pages_of, page_at, tuples_at, entry_of, There, swapped}
use Rattle.engine_pages.specs.Changes.{OfSize, Tries, settled_at, settled_by}
use Rattle.engine_pages.specs.Pending.{has_pending, applied_all, Applied, FirstFrozen}
use Rattle.basics.proofs.Numbers.{pos_of}
use Rattle.engine_pages.proofs.Places.{now_to, now_then, first_there, first_page}
use Rattle.engine_pages.proofs.Around.{on_swap, on_same, around_first}
use Rattle.engine_pages.proofs.Rows.{page_now}
use Rattle.engine_pages.proofs.Splitting.{dirty_fresh}
use Rattle.engine_pages.proofs.Joining.{settled_none, settled_by_lem}
use Rattle.engine_pages.proofs.Applying.{applied_live}

-- ---- what the rule does to a page with nothing pending, and to another

thaw_clean : (b : ℕ) (prev : Option Page) (q : Page) (qs : List Page) → any has_pending q.tuples ≡ false
    → thaw_on b prev q qs ≡ list_of prev ++ record { table = q.table; block = b; frozen = false; tuples = q.tuples } ∷ qs
unfolding thaw_on if'◌then◌else◌
thaw_clean b prev q qs e = rw e refl

thaw_changed : (b : ℕ) (prev : Option Page) (q : Page) (qs : List Page) → any has_pending q.tuples ≡ true
    → thaw_on b prev q qs ≡ settle (map (fresh q.table) (split_all (applied_all q.tuples))) prev (fresh q.table (applied_all q.tuples)) qs
unfolding thaw_on if'◌then◌else◌
thaw_changed b prev q qs e =
    rw e (ap (λ (hs : List Held). settle (map (fresh q.table) (split_all hs)) prev (fresh q.table hs) qs) (sym (applied_live q.tuples)))

module _ {m : List ℕ} {p : ℕ} (first : FirstFrozen m p) (b : ℕ) where
  abbrev a : There m p
  a = first.there

  -- the first frozen page is the one that the rule thaws
  by_place : on_page (thaw_on b) p none (pages_of m) ≡ thaw b (pages_of m)
  unfolding thaw
  by_place =
      ap (λ (z : ℕ). on_page (thaw_on b) z none (pages_of m)) first.first
      ∙ sym (around_first (thaw_on b) is_frozen (pages_of m) (omega (arith, first.first, a.inside, pages_count (flat_of m))) none)

  clean_page : page_of (with_block (entry_of m p) b false) (tuples_at m p) ≡ record { table = (page_at m p).table; block = b; frozen = false; tuples = tuples_at m p }
  unfolding page_of page_in
  clean_page = refl

  -- nothing was pending
  pub thawed_clean : any has_pending (tuples_at m p) ≡ false → {m' : List ℕ}
      → EntriesBecome m m' (set_block p b false) → PagesNow m m' (thaw b (pages_of m))
  thawed_clean w u =
      let q : Page = record { table = (page_at m p).table; block = b; frozen = false; tuples = tuples_at m p } in
      now_to (page_now a b false u)
      (ap (λ (z : Page). swapped p (z ∷ []) (pages_of m)) clean_page
      ∙ sym (on_swap a (thaw_on b) (q ∷ []) (λ prev qs. thaw_clean b prev (page_at m p) qs w)) ∙ by_place)

  abbrev hs : List Held
  hs = applied_all (tuples_at m p)

  abbrev t : ℕ
  t = (page_at m p).table

  abbrev rest : List Page
  rest = map (fresh (page_at m p).table) (split_all (applied_all (tuples_at m p)))

  module _ (w : any has_pending (tuples_at m p) ≡ true) {m1 : List ℕ} {r : ℕ} (o : Applied m m1 p r) where
    settled_is : settled_by p rest (fresh t hs) (pages_of m) ≡ thaw b (pages_of m)
    unfolding settled_by
    settled_is = sym (on_same a (thaw_on b) (λ prev q qs. settle rest prev (fresh t hs) qs) (λ prev qs. thaw_changed b prev (page_at m p) qs w)) ∙ by_place

    -- nothing is left
    pub thawed_none : r ≡ 0 → PagesNow m m1 (thaw b (pages_of m))
    thawed_none z = now_to (o.none_left z) (settled_none a t hs rest (sym o.count ∙ z) ∙ settled_is)

    module _ (nz : r ≡ 0 → ⊥) where
      came : PagesNow m m1 (swapped p (fresh t hs ∷ []) (pages_of m))
      came = o.some_left nz

      pub left_at : There m1 p
      left_at = first_there a (fresh t hs) [] came

      left_page : page_at m1 p ≡ fresh t hs
      left_page = first_page a (fresh t hs) [] came

      settles : settled_at p (pages_of m1) rest ≡ thaw b (pages_of m)
      settles = settled_by_lem a t hs rest (omega (arith, o.count, pos_of r nz)) came ∙ settled_is

      module _ {m2 : List ℕ} {d : Bool} (tr : Tries m1 m2 d (settled_at p (pages_of m1)) (λ z. swapped p z (pages_of m1))) where
        pub thawed_joined : d ≡ true → PagesNow m m2 (thaw b (pages_of m))
        thawed_joined e = now_to (now_then came (tr.done e rest)) settles

        module _ (e : d ≡ false) where
          same : m2 ≡ m1
          same = (tr.not_done e).0

          pub apart_at : There m2 p
          apart_at = subst (λ (z : List ℕ). There z p) (sym same) left_at

          pub apart_sized : {w : ℕ} → w ≡ sum held_size (tuples_at m2 p) → OfSize m2 p w
          apart_sized ew = record { there = apart_at; dirty = dirty_fresh (page_at m2 p) t hs (ap (λ (z : List ℕ). page_at z p) same ∙ left_page); is = ew }

          pub thawed_split : {m3 : List ℕ} → PagesNow m2 m3 (swapped p (map (fresh (page_at m2 p).table) (split_all (tuples_at m2 p))) (pages_of m2)) → PagesNow m m3 (thaw b (pages_of m))
          unfolding fresh
          thawed_split {m3} v =
              let u : PagesNow m1 m3 (swapped p (map (fresh (page_at m1 p).table) (split_all (tuples_at m1 p))) (pages_of m1)) =
              subst (λ (z : List ℕ). PagesNow z m3 (swapped p (map (fresh (page_at z p).table) (split_all (tuples_at z p))) (pages_of z))) same v in
              now_to (now_then came u)
              (ap (λ (z : Page). swapped p (map (fresh z.table) (split_all z.tuples)) (pages_of m1)) left_page ∙ sym ((tr.not_done e).1 rest) ∙ settles)
