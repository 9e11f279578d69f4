-- What is seen, by what there is of a key.
use Rattle.basics.proofs.Kit.{◌≡◌, refl, sym, ap, ◌∙◌, Bool, true, false, some, none, List, ℕ, ◌<◌, length}
use Rattle.std.specs.Prelude.{Option as Found, Some, None}
use Rattle.basics.specs.Basics.{if'◌then◌else◌, first, last}
use Rattle.basics.proofs.Facts.{by}
use Rattle.block_forms.specs.Tuple.{Tuple}
use Rattle.image_rows.specs.Rows.{Row, is_own}
use Rattle.model.specs.Sight.{is_committed, versions, seen_of, seen}
use Rattle.model.proofs.Rows.{applied_is}
use Rattle.memory_layout.specs.Flat.{Flat, row_in}
use Rattle.memory_layout.specs.Store.{pages_in, store_of}
use Rattle.engine_lookup.specs.Lookup.{version, Shows, seen_at, Inside, picked_at, picked, Sees}
use Rattle.engine_lookup.specs.declared.Visibility.{Visibility}

version_mark : (f : Flat) (t i : ℕ) → (version f t i).1.mark ≡ (row_in f i).tuple.mark
unfolding version
version_mark f t i = ap (λ (x : Tuple). x.mark) (applied_is (row_in f i))

module _ (tx : ℕ) (vs : List Row) where
  seen_own : (x : Row) → last (is_own tx) vs ≡ some x → seen_of tx vs ≡ (if' x.1.mark then none else some x)
  unfolding seen_of
  seen_own x e = rw (e, seen_of)

  seen_committed : last (is_own tx) vs ≡ none → seen_of tx vs ≡ first is_committed vs
  unfolding seen_of
  seen_committed e = rw (e, seen_of)

seen_if : (f : Flat) (t i : ℕ) (b : Bool) → seen_at f t (if' b then None else Some i) ≡ (if' b then none else some (version f t i))
unfolding seen_at if'◌then◌else◌
seen_if f t i true = refl
seen_if f t i false = refl

picked_at_lem : (f : Flat) (t tx : ℕ) (o h : Found ℕ) (vs : List Row) → seen_at f t o ≡ last (is_own tx) vs → seen_at f t h ≡ first is_committed vs
    → seen_at f t (picked_at f o h) ≡ seen_of tx vs
unfolding picked_at seen_at
picked_at_lem f t tx None h vs n s = s ∙ sym (seen_committed tx vs (sym n))
picked_at_lem f t tx (Some i) h vs n s =
    seen_if f t i (row_in f i).tuple.mark ∙ ap (λ (b : Bool). if' b then none else some (version f t i)) (sym (version_mark f t i)) ∙ sym (seen_own tx vs (version f t i) (sym n))

-- what is picked is what is seen
pub picked_seen : (f : Flat) (t tx : ℕ) (vs : List Row) (l : Visibility) → Shows f t tx vs l → seen_at f t (picked f l) ≡ seen_of tx vs
unfolding picked
picked_seen f t tx vs l s = picked_at_lem f t tx l.own l.committed vs s.last_own s.first_committed

picked_in : (f : Flat) (o h : Found ℕ) → Inside f o → Inside f h → Inside f (picked_at f o h)
unfolding Inside picked_at if'◌then◌else◌
picked_in f None h a b = b
picked_in f (Some i) h a b = by (row_in f i).tuple.mark (λ e. rw e tt) (λ e. rw e a)

pub picked_inside : (f : Flat) (t tx : ℕ) (vs : List Row) (l : Visibility) → Shows f t tx vs l → Inside f (picked f l)
unfolding picked
picked_inside f t tx vs l s = picked_in f l.own l.committed s.own_in s.committed_in

-- a row found is there
pub own_inside : (f : Flat) (o : Found ℕ) (i : ℕ) → o ≡ Some i → Inside f o → i < length f.rows
unfolding Inside
own_inside f o i e h = rw e at h

-- ---- the code's choice

module _ (f : Flat) (l : Visibility) where
  pub pick_committed : l.own ≡ None → l.committed ≡ picked f l
  unfolding picked picked_at
  pick_committed e = sym (ap (λ (z : Found ℕ). picked_at f z l.committed) e)

  module _ (i : ℕ) (e : l.own ≡ Some i) (b : Bool) (eb : b ≡ (row_in f i).tuple.mark) where
    picked_own : picked f l ≡ (if' b then None else Some i)
    unfolding picked picked_at
    picked_own = ap (λ (o : Found ℕ). picked_at f o l.committed) e ∙ ap (λ (v : Bool). if' v then None else Some i) (sym eb)

    pub pick_marked : b ≡ true → None ≡ picked f l
    unfolding if'◌then◌else◌
    pick_marked h = sym (picked_own ∙ rw h)

    pub pick_own : b ≡ false → Some i ≡ picked f l
    unfolding if'◌then◌else◌
    pick_own h = sym (picked_own ∙ rw h)

-- the version that is seen of any versions, from what there is of them
pub picked_sees : {f : Flat} {t tx : ℕ} {vs : List Row} {l : Visibility} {r : Found ℕ} → Shows f t tx vs l → r ≡ picked f l → Sees f t r (seen_of tx vs)
picked_sees {f} {t} {tx} {vs} {l} s e =
    record { means = ap (seen_at f t) e ∙ picked_seen f t tx vs l s; inside = rw e (picked_inside f t tx vs l s) }

-- the same of the versions of a key
pub visibility_sees : (f : Flat) (t tx k : ℕ) (l : Visibility) (r : Found ℕ) → Shows f t tx (versions t k (pages_in f)) l → r ≡ picked f l → Sees f t r (seen tx t k (store_of f))
unfolding seen store_of
visibility_sees f t tx k l r s e = picked_sees s e
