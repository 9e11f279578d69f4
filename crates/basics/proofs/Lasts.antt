-- Tests and searches of a list with one element more at its end, and of what is kept of a list.
use Rattle.basics.proofs.Kit.{◌≡◌, refl, sym, Bool, true, false, some, none, List, [], ◌∷◌, ◌++◌, ◌&&◌, not, ap, ap₂, Option, ◌∙◌, ◌||◌}
use Rattle.basics.specs.Basics.{if'◌then◌else◌, any, first, last, keep, AllOf}
use Rattle.basics.proofs.Facts.{by, by-option}
use Rattle.basics.proofs.Elements.{and_yes, and_no, keep_cons, keep_past, last_skip, or_right}
use Rattle.basics.proofs.Searches.{any_append, any_one, or_none}
use Rattle.basics.proofs.Firsts.{first_hit, first_past, first_some, first_skip}

module _ {A : Type 0} (f : A → Bool) (x : A) where
  pub any_last_no : f x ≡ false → (xs : List A) → any f (xs ++ x ∷ []) ≡ any f xs
  any_last_no e xs = any_append f xs (x ∷ []) ∙ ap (λ (b : Bool). any f xs || b) (any_one f x ∙ e) ∙ or_none (any f xs)

  pub any_last_yes : f x ≡ true → (xs : List A) → any f (xs ++ x ∷ []) ≡ true
  any_last_yes e xs = any_append f xs (x ∷ []) ∙ or_right (any f xs) _ (any_one f x ∙ e)

  pub last_new : f x ≡ true → (xs : List A) → last f (xs ++ x ∷ []) ≡ some x
  unfolding last if'◌then◌else◌
  last_new e [] = rw e
  last_new e (y ∷ xs) = rw (last_new e xs)

  pub last_old : f x ≡ false → (xs : List A) → last f (xs ++ x ∷ []) ≡ last f xs
  unfolding last if'◌then◌else◌
  last_old e [] = rw e
  last_old e (y ∷ xs) = rw (last_old e xs)

  pub first_old : f x ≡ false → (xs : List A) → first f (xs ++ x ∷ []) ≡ first f xs
  unfolding first
  first_old e xs = by-option (first f xs) (λ n. first_skip f xs (x ∷ []) n ∙ first_past f x [] e ∙ sym n) (λ z n. first_some f xs (x ∷ []) z n ∙ sym n)

  pub first_new : f x ≡ true → (xs : List A) → first f xs ≡ none → first f (xs ++ x ∷ []) ≡ some x
  first_new e xs n = first_skip f xs (x ∷ []) n ∙ first_hit f x [] e

-- ---- searches of what is kept of a list

-- all that is looked for is left out
pub last_gone : {A : Type 0} (f : A → Bool) (xs : List A) → last f (keep (λ x. not (f x)) xs) ≡ none
last_gone f [] = unfold last keep in refl
last_gone f (x ∷ xs) =
    let g : _ → Bool = λ y. not (f y) in
    by (f x)
    (λ h. ap (last f) (keep_past g x xs (ap not h)) ∙ last_gone f xs)
    (λ h. ap (last f) (keep_cons g x xs (ap not h)) ∙ last_skip f x (keep g xs) h ∙ last_gone f xs)

-- what is looked for is not among those left out
pub last_keep : {A : Type 0} (f g : A → Bool) (xs : List A) → AllOf (λ r. g r ≡ false → f r ≡ false) xs → last f (keep g xs) ≡ last f xs
unfolding last keep if'◌then◌else◌
last_keep f g [] a = refl
last_keep f g (x ∷ xs) a =
    let ih = last_keep f g xs a.1 in
    by (g x) (λ h. rw (h, ih))
    (λ h. by-option (last f xs) (λ n. rw (h, n, a.0 h) (ih ∙ n)) (λ y n. rw (h, n, last) (ih ∙ n)))

pub first_keep : {A : Type 0} (f g : A → Bool) (xs : List A) → AllOf (λ r. g r ≡ false → f r ≡ false) xs → first f (keep g xs) ≡ first f xs
unfolding first keep if'◌then◌else◌
first_keep f g [] a = refl
first_keep f g (x ∷ xs) a =
    let ih = first_keep f g xs a.1 in
    by (g x) (λ h. by (f x) (λ k. rw (h, k, first)) (λ k. rw (h, k, first) ih)) (λ h. rw (h, a.0 h, first) ih)

pub keep_keep : {A : Type 0} (f g : A → Bool) (xs : List A) → AllOf (λ r. g r ≡ false → f r ≡ false) xs → keep f (keep g xs) ≡ keep f xs
unfolding keep if'◌then◌else◌
keep_keep f g [] a = refl
keep_keep f g (x ∷ xs) a = let ih = keep_keep f g xs a.1 in by (g x) (λ h. rw (h, ih)) (λ h. rw (h, a.0 h) ih)

-- the first of two, if there is one
or_other : {A : Type 0} → Option A → Option A → Option A
or_other (some y) o = some y
or_other none o = o

last_cons : {A : Type 0} (f : A → Bool) (x : A) (xs : List A) → last f (x ∷ xs) ≡ or_other (last f xs) (if' f x then some x else none)
unfolding last or_other
last_cons f x xs = by-option (last f xs) (λ n. rw (n, last)) (λ y n. rw (n, last))

other_none : {A : Type 0} (o : Option A) → or_other o none ≡ o
unfolding or_other
other_none none = refl
other_none (some y) = refl

-- a search among those that pass a first test
pub last_both : {A : Type 0} (f g : A → Bool) (xs : List A) → last (λ r. f r && g r) xs ≡ last f (keep g xs)
unfolding if'◌then◌else◌
last_both f g [] = unfold last keep in refl
last_both f g (x ∷ xs) =
    let ih = last_both f g xs in
    let pick : Bool → Option _ = λ b. if' b then some x else none in
    by (g x)
    (λ h. last_cons (λ r. f r && g r) x xs ∙ ap₂ or_other ih (ap pick (ap (λ z. f x && z) h ∙ and_yes (f x))) ∙ sym (last_cons f x (keep g xs))
    ∙ ap (last f) (sym (keep_cons g x xs h)))
    (λ h. last_cons (λ r. f r && g r) x xs ∙ ap₂ or_other ih (ap pick (ap (λ z. f x && z) h ∙ and_no (f x))) ∙ other_none (last f (keep g xs))
    ∙ ap (last f) (sym (keep_past g x xs h)))
