-- A commit, on a frozen page and on another.
use Rattle.basics.proofs.Kit.{◌≡◌, refl, sym, ap, ◌∙◌, true, false, List, [], ◌∷◌, ℕ, ◌-◌, set, set-get_or}
use Rattle.basics.specs.Basics.{if'◌then◌else◌}
use Rattle.model.specs.State.{committing, Held, Page}
use Rattle.model.specs.Rules.{is_adding, is_removing, commit_now, pend_commit, with_pending, with_tuples, fresh}
use Rattle.model.specs.Places.{edit_at, committed_at, commit_row_on, commit_row}
use Rattle.model.proofs.Flat.{edit_one}
use Rattle.memory_layout.specs.Flat.{flat_of, row_in, no_row, Becomes}
use Rattle.memory_rows.specs.Rows.{committed_row, with_row}
use Rattle.memory_pages.specs.Pages.{EntriesBecome, set_block}
use Rattle.engine_pages.specs.Pages.{PagesNow, pages_of, page_at, tuples_at, first_row, RowOn, swapped}
use Rattle.engine_pages.proofs.Places.{now_to, now_stay, swap_same, tuple_is}
use Rattle.engine_pages.proofs.Around.{on_swap}
use Rattle.engine_pages.proofs.Rows.{at_row_lem, row_now, row_dirty}

committed_frozen : (j : ℕ) (q : Page) → q.frozen ≡ true → committed_at j q ≡ with_tuples q (edit_at pend_commit j q.tuples)
unfolding committed_at if'◌then◌else◌
committed_frozen j q e = rw e

committed_now : (j : ℕ) (q : Page) → q.frozen ≡ false → committed_at j q ≡ fresh q.table (edit_at commit_now j q.tuples)
unfolding committed_at if'◌then◌else◌
committed_now j q e = rw e

kept_is : (h : Held) → commit_now h ≡ committed_row h ∷ []
unfolding commit_now committed_row
kept_is h = refl

later_adding : (h : Held) → is_adding h.pending ≡ true → pend_commit h ≡ committed_row h ∷ []
unfolding pend_commit if'◌then◌else◌ commit_now committed_row
later_adding h e = rw e

later_removing : (h : Held) → is_adding h.pending ≡ false → is_removing h.pending ≡ true → pend_commit h ≡ h ∷ []
unfolding pend_commit if'◌then◌else◌
later_removing h a e = rw (a, e)

later_noted : (h : Held) → is_adding h.pending ≡ false → is_removing h.pending ≡ false → pend_commit h ≡ with_pending committing h ∷ []
unfolding pend_commit if'◌then◌else◌
later_noted h a e = rw (a, e)

pub with_same : (q : Page) → with_tuples q q.tuples ≡ q
unfolding with_tuples
with_same q = refl

module _ {m : List ℕ} {p i : ℕ} (g : RowOn m p i) where
  abbrev j : ℕ
  j = i - first_row m p

  abbrev hs : List Held
  hs = tuples_at m p

  abbrev h : Held
  h = row_in (flat_of m) i

  -- the tuple of the row becomes x
  edited : (k : Held → List Held) (x : Held) → k (row_in (flat_of m) i) ≡ x ∷ [] → edit_at k (i - first_row m p) (tuples_at m p) ≡ set (tuples_at m p) (i - first_row m p) x
  edited k x e = edit_one k no_row x hs j (ap k (tuple_is g) ∙ e)

  -- the rule by place
  pub commit_is : swapped p (committed_at (i - first_row m p) (page_at m p) ∷ []) (pages_of m) ≡ commit_row i (pages_of m)
  unfolding commit_row commit_row_on
  commit_is = sym (at_row_lem g commit_row_on ∙ on_swap g.there (commit_row_on j) (committed_at j (page_at m p) ∷ []) (λ prev qs. refl))

  module _ (fz : (page_at m p).frozen ≡ true) where
    noted : (x : Held) → pend_commit (row_in (flat_of m) i) ≡ x ∷ [] → {m' : List ℕ}
        → PagesNow m m' (swapped p (with_tuples (page_at m p) (set (tuples_at m p) (i - first_row m p) x) ∷ []) (pages_of m))
        → PagesNow m m' (swapped p (committed_at (i - first_row m p) (page_at m p) ∷ []) (pages_of m))
    noted x e t =
        now_to t (ap (λ (z : Page). swapped p (z ∷ []) (pages_of m))
        (ap (with_tuples (page_at m p)) (sym (edited pend_commit x e)) ∙ sym (committed_frozen j (page_at m p) fz)))

    pub commit_left : is_adding (row_in (flat_of m) i).pending ≡ false → is_removing (row_in (flat_of m) i).pending ≡ true
        → PagesNow m m (swapped p (committed_at (i - first_row m p) (page_at m p) ∷ []) (pages_of m))
    commit_left ea er =
        noted h (later_removing h ea er)
        (now_to (now_stay m g.there.has_store) (sym (ap (λ (z : List Held). swapped p (with_tuples (page_at m p) z ∷ []) (pages_of m))
        (ap (set hs j) (sym (tuple_is g)) ∙ set-get_or hs j no_row) ∙ ap (λ (z : Page). swapped p (z ∷ []) (pages_of m)) (with_same (page_at m p)) ∙ swap_same g.there)))

    pub commit_adding : is_adding (row_in (flat_of m) i).pending ≡ true → {m' : List ℕ}
        → Becomes m m' (with_row (flat_of m) i (committed_row (row_in (flat_of m) i)))
        → PagesNow m m' (swapped p (committed_at (i - first_row m p) (page_at m p) ∷ []) (pages_of m))
    commit_adding ea u = noted (committed_row h) (later_adding h ea) (row_now g (committed_row h) u)

    pub commit_noted : is_adding (row_in (flat_of m) i).pending ≡ false → is_removing (row_in (flat_of m) i).pending ≡ false → {m' : List ℕ}
        → Becomes m m' (with_row (flat_of m) i (with_pending committing (row_in (flat_of m) i)))
        → PagesNow m m' (swapped p (committed_at (i - first_row m p) (page_at m p) ∷ []) (pages_of m))
    commit_noted ea er u = noted (with_pending committing h) (later_noted h ea er) (row_now g (with_pending committing h) u)

  pub commit_now_lem : (page_at m p).frozen ≡ false → {m1 m2 : List ℕ} → Becomes m m1 (with_row (flat_of m) i (committed_row (row_in (flat_of m) i)))
      → EntriesBecome m1 m2 (set_block p 0 false)
      → PagesNow m m2 (swapped p (committed_at (i - first_row m p) (page_at m p) ∷ []) (pages_of m))
  commit_now_lem fz u v =
      now_to (row_dirty g (committed_row h) u v) (ap (λ (z : Page). swapped p (z ∷ []) (pages_of m))
      (ap (fresh (page_at m p).table) (sym (edited commit_now (committed_row h) (kept_is h))) ∙ sym (committed_now j (page_at m p) fz)))
