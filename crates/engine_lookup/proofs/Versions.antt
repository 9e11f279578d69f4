-- The rows noted one after another show the versions of a key among them.
use Rattle.basics.proofs.Kit.{◌≡◌, refl, sym, ap, ◌∙◌, true, false, ◌&&◌, not, List, [], ◌∷◌, ◌++◌, append_assoc, append-nil, ℕ, suc, ◌+◌, ◌≤◌, ◌<◌, zero, eqb, length, eq-eqb, arith}
use Rattle.std.specs.Prelude.{Option as Found, Some, None}
use Rattle.std.specs.Option.{option_or}
use Rattle.basics.specs.Basics.{if'◌then◌else◌, any, first, last, keep}
use Rattle.basics.proofs.Facts.{by}
use Rattle.basics.proofs.Firsts.{first_some}
use Rattle.block_forms.specs.Tuple.{Tuple, Owner, committed, tentative, is_tentative}
use Rattle.image_rows.specs.Rows.{Row, rows_of, is_by, is_own, is_at}
use Rattle.model.specs.State.{Held}
use Rattle.model.specs.Rules.{is_removing, applied, live}
use Rattle.model.specs.Sight.{is_foreign, is_committed}
use Rattle.model.proofs.Rows.{applied_is}
use Rattle.basics.proofs.Elements.{keep_cons, keep_past}
use Rattle.basics.specs.Lists.{tab}
use Rattle.basics.proofs.Lasts.{any_last_no, any_last_yes, last_new, last_old, first_old, first_new}
use Rattle.memory_layout.specs.Flat.{Flat, row_in}
use Rattle.engine_lookup.specs.Lookup.{version, seen_at, Inside, Shows, blank, note_committed, note_tentative, note_owner, note, notes}
use Rattle.engine_lookup.specs.declared.Visibility.{Visibility}
use Rattle.engine_lookup.proofs.Iterations.{along, notes_on, notes_here}

-- ---- one version more

module _ (f : Flat) (t tx i : ℕ) (o : Owner) (eo : (applied (row_in f i)).owner ≡ o) where
  own_is : is_own tx (version f t i) ≡ is_by tx o
  unfolding is_own version
  own_is = ap (is_by tx) eo

  committed_is : is_committed (version f t i) ≡ not (is_tentative o)
  unfolding version
  committed_is = ap (λ (z : Owner). not (is_tentative z)) eo

  foreign_is : is_foreign tx (version f t i) ≡ (is_tentative o && not (is_by tx o))
  unfolding is_foreign version
  foreign_is = ap (λ (z : Owner). is_tentative z && not (is_by tx z)) eo

committed_row : (f : Flat) (t i : ℕ) (h : Found ℕ) (vs : List Row) → is_committed (version f t i) ≡ true → seen_at f t h ≡ first is_committed vs
    → seen_at f t (option_or h (Some i)) ≡ first is_committed (vs ++ version f t i ∷ [])
unfolding seen_at
committed_row f t i None vs e q = sym (first_new is_committed (version f t i) e vs (sym q))
committed_row f t i (Some h) vs e q = sym (first_some is_committed vs (version f t i ∷ []) (version f t h) (sym q))

committed_inside : (f : Flat) (i : ℕ) (h : Found ℕ) → i < length f.rows → Inside f h → Inside f (option_or h (Some i))
unfolding Inside
committed_inside f i None a b = a
committed_inside f i (Some h) a b = b

shows_one : (f : Flat) (t tx i : ℕ) (o : Owner) (vs : List Row) (l : Visibility) → (applied (row_in f i)).owner ≡ o → i < length f.rows → Shows f t tx vs l
    → Shows f t tx (vs ++ version f t i ∷ []) (note_owner tx i o l)
unfolding note_owner note_committed note_tentative is_tentative is_by seen_at Inside
shows_one f t tx i committed vs l eo h s =
    let x : Row = version f t i in
    record {
      others = s.others ∙ sym (any_last_no (is_foreign tx) x (foreign_is f t tx i committed eo) vs);
      last_own = s.last_own ∙ sym (last_old (is_own tx) x (own_is f t tx i committed eo) vs);
      first_committed = committed_row f t i l.committed vs (committed_is f t tx i committed eo) s.first_committed;
      own_in = s.own_in;
      committed_in = committed_inside f i l.committed h s.committed_in;
    }
shows_one f t tx i (tentative u w) vs l eo h s =
    let x : Row = version f t i in
    let st : first is_committed vs ≡ first is_committed (vs ++ x ∷ []) = sym (first_old is_committed x (committed_is f t tx i (tentative u w) eo) vs) in
    by (eqb u tx)
    (λ e. rw e (record {
      others = s.others ∙ sym (any_last_no (is_foreign tx) x (foreign_is f t tx i (tentative u w) eo ∙ ap not e) vs);
      last_own = sym (last_new (is_own tx) x (own_is f t tx i (tentative u w) eo ∙ e) vs);
      first_committed = s.first_committed ∙ st;
      own_in = h;
      committed_in = s.committed_in;
    }))
    (λ e. rw e (record {
      others = sym (any_last_yes (is_foreign tx) x (foreign_is f t tx i (tentative u w) eo ∙ ap not e) vs);
      last_own = s.last_own ∙ sym (last_old (is_own tx) x (own_is f t tx i (tentative u w) eo ∙ e) vs);
      first_committed = s.first_committed ∙ st;
      own_in = s.own_in;
      committed_in = s.committed_in;
    }))

-- ---- along rows

-- the versions of a key among tuples of table t
abbrev pub versions_on : ℕ → ℕ → List Held → List Row
versions_on t k hs = keep (is_at t k) (rows_of t (live hs))

module _ (t k : ℕ) (h : Held) (hs : List Held) where
  past_removed : is_removing h.pending ≡ true → versions_on t k (h ∷ hs) ≡ versions_on t k hs
  unfolding live if'◌then◌else◌
  past_removed e = rw e

  live_row : is_removing h.pending ≡ false → rows_of t (live (h ∷ hs)) ≡ (t, applied h) ∷ rows_of t (live hs)
  unfolding live rows_of if'◌then◌else◌
  live_row e = rw e

  at_is : is_at t k (t, applied h) ≡ eqb h.tuple.key k
  unfolding is_at
  at_is = rw (eq-eqb t t refl, ap (λ (x : Tuple). x.key) (applied_is h))

  past_other : eqb h.tuple.key k ≡ false → versions_on t k (h ∷ hs) ≡ versions_on t k hs
  past_other e =
      by (is_removing h.pending) past_removed
      (λ r. ap (keep (is_at t k)) (live_row r) ∙ keep_past (is_at t k) (t, applied h) _ (at_is ∙ e))

  one_more : is_removing h.pending ≡ false → eqb h.tuple.key k ≡ true → versions_on t k (h ∷ hs) ≡ (t, applied h) ∷ versions_on t k hs
  one_more r e = ap (keep (is_at t k)) (live_row r) ∙ keep_cons (is_at t k) (t, applied h) _ (at_is ∙ e)

module _ (tx i : ℕ) (h : Held) (l : Visibility) where
  note_removed : is_removing h.pending ≡ true → note tx i h l ≡ l
  unfolding note if'◌then◌else◌
  note_removed e = rw e

  note_live : is_removing h.pending ≡ false → note tx i h l ≡ note_owner tx i (applied h).owner l
  unfolding note if'◌then◌else◌
  note_live e = rw e

shows_same : (f : Flat) (t tx : ℕ) (vs ws : List Row) (l r : Visibility) → ws ≡ vs → r ≡ l → Shows f t tx vs l → Shows f t tx ws r
shows_same f t tx vs ws l r e q s = rw (e, q) s

version_is : (f : Flat) (t i : ℕ) → version f t i ≡ (t, applied (row_in f i))
unfolding version
version_is f t i = refl

pub shows_run : (f : Flat) (t tx k n i : ℕ) (vs : List Row) (l : Visibility) → i + n ≤ length f.rows → Shows f t tx vs l
    → Shows f t tx (vs ++ versions_on t k (tab (row_in f) i n)) (along f tx k i n l)
unfolding notes live rows_of keep
shows_run f t tx k zero i vs l b s = shows_same f t tx vs _ l l (append-nil vs) refl s
shows_run f t tx k (suc n) i vs l b s =
    let h : Held = row_in f i in
    let hs : List Held = tab (row_in f) (suc i) n in
    let on : versions_on t k (h ∷ hs) ≡ versions_on t k hs → notes tx k i (h ∷ hs) l ≡ notes tx k (suc i) hs l
    → Shows f t tx (vs ++ versions_on t k (h ∷ hs)) (notes tx k i (h ∷ hs) l) =
    λ q r. shows_same f t tx _ _ _ _ (ap (λ (z : List Row). vs ++ z) q) r (shows_run f t tx k n (suc i) vs l (omega arith) s) in
    by (eqb h.tuple.key k)
    (λ e. by (is_removing h.pending)
    (λ r. on (past_removed t k h hs r) (notes_here tx k i h hs l e ∙ ap (notes tx k (suc i) hs) (note_removed tx i h l r)))
    (λ r. let x : Row = version f t i in
    let l1 : Visibility = note_owner tx i (applied h).owner l in
    let s1 : Shows f t tx (vs ++ x ∷ []) l1 = shows_one f t tx i (applied h).owner vs l refl (omega arith) s in
    shows_same f t tx _ _ _ _
    (ap (λ (z : List Row). vs ++ z) (one_more t k h hs r e ∙ ap (λ (z : Row). z ∷ versions_on t k hs) (sym (version_is f t i))) ∙ sym (append_assoc vs (x ∷ []) (versions_on t k hs)))
    (notes_here tx k i h hs l e ∙ ap (notes tx k (suc i) hs) (note_live tx i h l r))
    (shows_run f t tx k n (suc i) (vs ++ x ∷ []) l1 (omega arith) s1)))
    (λ e. on (past_other t k h hs e) (notes_on tx k i h hs l e))

-- nothing looked at, nothing seen
shows_none : (f : Flat) (t tx : ℕ) → Shows f t tx [] blank
unfolding any last first seen_at Inside
shows_none f t tx = record { others = refl; last_own = refl; first_committed = refl; own_in = tt; committed_in = tt }

pub shows_rows : (f : Flat) (t tx k n i : ℕ) → i + n ≤ length f.rows
    → Shows f t tx (versions_on t k (tab (row_in f) i n)) (along f tx k i n blank)
shows_rows f t tx k n i h = shows_run f t tx k n i [] blank h (shows_none f t tx)
