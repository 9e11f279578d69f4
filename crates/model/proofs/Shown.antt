-- What a frozen page shows: pending operations do not change it, and where nothing is pending it is the page.
use Rattle.basics.proofs.Kit.{◌≡◌, refl, sym, subst, true, false, some, List, [], ◌∷◌, map, ℕ, suc, ◌<◌, zero, leb, length, arith}
use Rattle.basics.specs.Basics.{if'◌then◌else◌, is_empty, any}
use Rattle.basics.proofs.Facts.{by, never, by-option, lie}
use Rattle.basics.proofs.Elements.{some_eq}
use Rattle.block_forms.specs.Tuple.{Tuple}
use Rattle.model.specs.State.{Held, Page, adding, Pending, nothing, committing, removing}
use Rattle.model.specs.Rules.{shown, after, is_adding, entering, pend_remove, with_pending, commit_now, pend_commit, as_committed, is_removing, is_pending, edit_at, pend_remove_at}

-- the tuples alone
abbrev pub bare : List Held → List Tuple
bare hs = map (λ h. h.tuple) hs

pub after_shown : (x : Held) (ys zs : List Held) → is_adding x.pending ≡ true → after x ys ≡ some zs → shown zs ≡ shown ys
unfolding after shown if'◌then◌else◌
after_shown x [] zs a e = never e
after_shown x (y ∷ ys) zs a e =
    by-option (after x ys)
    (λ n. by (leb y.tuple.key x.tuple.key)
    (λ t. let k : y ∷ x ∷ ys ≡ zs = some_eq (rw (n, t) at e) in rw (← k, a))
    (λ t. never (rw (n, t) at e)))
    (λ ws n. let k : y ∷ ws ≡ zs = some_eq (rw (n, after) at e) in rw (← k, after_shown x ys ws a n))

pub entering_adding : (p : Page) (x : Tuple) → p.frozen ≡ true → is_adding (entering p x).pending ≡ true
unfolding entering if'◌then◌else◌ is_adding
entering_adding p x h = rw h

shown_pend_remove : (j : ℕ) (ts : List Held) → shown (edit_at pend_remove j ts) ≡ shown ts
unfolding edit_at pend_remove shown if'◌then◌else◌ with_pending is_adding
shown_pend_remove j [] = refl
shown_pend_remove zero (x ∷ xs) = by (is_adding x.pending) (λ k. rw k) (λ k. rw k)
shown_pend_remove (suc j) (x ∷ xs) = by (is_adding x.pending) (λ k. rw (k, shown_pend_remove j xs)) (λ k. rw (k, shown_pend_remove j xs))

pub shown_pend_commit : (j : ℕ) (ts : List Held) → shown (edit_at pend_commit j ts) ≡ shown ts
unfolding edit_at pend_commit commit_now shown if'◌then◌else◌ with_pending is_adding as_committed
shown_pend_commit j [] = refl
shown_pend_commit zero (x ∷ xs) =
    by (is_adding x.pending) (λ k. rw (k, k)) (λ k. by (is_removing x.pending) (λ m. rw (k, m, k)) (λ m. rw (k, m)))
shown_pend_commit (suc j) (x ∷ xs) = by (is_adding x.pending) (λ k. rw (k, shown_pend_commit j xs)) (λ k. rw (k, shown_pend_commit j xs))

pub shown_taken_at : (j : ℕ) (ts : List Held) → shown (pend_remove_at j ts) ≡ shown ts
unfolding pend_remove_at if'◌then◌else◌
shown_taken_at j ts = by (is_empty (edit_at pend_remove j ts)) (λ h. rw h) (λ h. rw h (shown_pend_remove j ts))

-- a page that shows a tuple keeps one
pub taken_at_is : (j : ℕ) (ts : List Held) → 0 < length (shown ts) → pend_remove_at j ts ≡ edit_at pend_remove j ts
unfolding pend_remove_at if'◌then◌else◌
taken_at_is j ts h =
    by (is_empty (edit_at pend_remove j ts))
    (λ k. absurd (shows (edit_at pend_remove j ts) k (subst (λ z. 0 < length z) (sym (shown_pend_remove j ts)) h))) (λ k. rw k)
  where
    shows : (hs : List Held) → is_empty hs ≡ true → 0 < length (shown hs) → ⊥
    shows [] k l = unfold shown in omega arith
    shows (x ∷ xs) k l = lie (unfold is_empty in k)

-- nothing pending: the image is the page
pub shown_without_pending : (ts : List Held) → any (λ x. is_pending x.pending) ts ≡ false → shown ts ≡ bare ts
unfolding shown any if'◌then◌else◌ is_adding is_pending
shown_without_pending [] e = refl
shown_without_pending (x ∷ xs) e = go x.pending refl (shown_without_pending xs)
  where
    go : (o : Pending) → x.pending ≡ o → (any (λ x. is_pending x.pending) xs ≡ false → shown xs ≡ bare xs) → shown (x ∷ xs) ≡ bare (x ∷ xs)
    go nothing h r = rw (h, r (rw (h, any) at e)) refl
    go adding h r = lie (sym (rw (h, any) at e))
    go committing h r = lie (sym (rw (h, any) at e))
    go removing h r = lie (sym (rw (h, any) at e))
