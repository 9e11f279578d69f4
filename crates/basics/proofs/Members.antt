-- Members of a list of numbers, and lists in which each number stands once, by index.
use Rattle.basics.proofs.Kit.{◌≡◌, refl, sym, ap, ◌∙◌, Bool, true, false, not, ◌||◌, List, [], ◌∷◌, ℕ, suc, ◌<◌, zero, eqb, length, get_or, eq-eqb, ne_eqb, eqb-true, not-true, arith}
use Rattle.basics.specs.Basics.{AllOf, any, is_in, distinct, how_many, keep, if'◌then◌else◌}
use Rattle.basics.proofs.Facts.{by, lie, and_true}
use Rattle.basics.proofs.Elements.{any_cons, eqb_swap, in_here, in_past, any_many, eqb_self, many_append, all_in, in_all, eqb_sym, not_in, in_append, in_one, in_keep, not_in_all}
use Rattle.basics.proofs.Iterations.{any_end, any_not, any_yes}
use Rattle.basics.proofs.Kit.{◌++◌, append-nil, append_assoc, subst, ap₂, ◌≤◌, leb-true, leb-false, ltb, ltb-true, ltb-false, eqb-false}
use Rattle.basics.proofs.Elements.{all_two, keep_length, or_right}

pub in_none : (x : ℕ) (s : List ℕ) → ((k : ℕ) → k < length s → x ≡ get_or s k 0 → ⊥) → is_in x s ≡ false
unfolding is_in
in_none x [] w = any_end (eqb x) refl
in_none x (y ∷ s) w = any_not (eqb x) refl (ne_eqb x y (w 0 (omega arith))) ∙ in_none x s (λ k h. w (suc k) (omega arith))

pub in_at : (s : List ℕ) (k : ℕ) → k < length s → is_in (get_or s k 0) s ≡ true
unfolding is_in
in_at [] k h = absurd (omega arith)
in_at (y ∷ s) zero h = any_yes (eqb y) refl (eq-eqb y y refl)
in_at (y ∷ s) (suc k) h =
    by (eqb (get_or s k 0) y)
    (λ t. any_yes (eqb (get_or s k 0)) refl t)
    (λ t. any_not (eqb (get_or s k 0)) refl t ∙ in_at s k (omega arith))

pub distinct_in : (s : List ℕ) → ((j k : ℕ) → j < k → k < length s → get_or s j 0 ≡ get_or s k 0 → ⊥) → distinct s ≡ true
unfolding distinct
distinct_in [] w = refl
distinct_in (x ∷ s) w =
    rw (in_none x s (λ k h. w 0 (suc k) (omega arith) (omega arith))) (distinct_in s (λ j k l h. w (suc j) (suc k) (omega arith) (omega arith)))

pub distinct_out : (s : List ℕ) → distinct s ≡ true → (j k : ℕ) → j < k → k < length s → get_or s j 0 ≡ get_or s k 0 → ⊥
unfolding distinct
distinct_out [] e j k l h q = omega arith
distinct_out (x ∷ s) e j zero l h q = omega arith
distinct_out (x ∷ s) e zero (suc k) l h q =
    lie (sym (not-true _ (and_true (not (is_in x s)) (distinct s) e).0) ∙ ap (λ y. is_in y s) q ∙ in_at s k (omega arith))
distinct_out (x ∷ s) e (suc j) (suc k) l h q = distinct_out s (and_true (not (is_in x s)) (distinct s) e).1 j k (omega arith) (omega arith) q

pub in_cons : (t u : ℕ) (ts : List ℕ) → is_in t (u ∷ ts) ≡ (eqb u t || is_in t ts)
unfolding is_in
in_cons t u ts = any_cons (eqb t) u ts ∙ ap (λ (b : Bool). b || any (eqb t) ts) (eqb_swap t u)

-- a number that is in the list already
pub or_in : (t u : ℕ) (ts : List ℕ) → is_in u ts ≡ true → is_in t ts ≡ (eqb u t || is_in t ts)
or_in t u ts h = by (eqb u t) (λ e. rw (e, ← eqb-true u t e) h) (λ e. rw e)

pub zero_not_in : (ds : List ℕ) → AllOf (λ d. 0 < d) ds → is_in 0 ds ≡ false
unfolding is_in any
zero_not_in [] p = refl
zero_not_in (d ∷ ds) p = by (eqb 0 d) (λ h. let z = eqb-true 0 d h in let q = p.0 in absurd (omega arith)) (λ h. rw (h, any) (zero_not_in ds p.1))

-- x passes the test and b does not
pub test_other : (f : ℕ → Bool) (x b : ℕ) → f x ≡ true → f b ≡ false → eqb b x ≡ false
test_other f x b p q = by (eqb b x) (λ h. lie (sym q ∙ ap f (eqb-true b x h) ∙ p)) (λ h. h)

-- a number that fails a test is not among numbers that pass it, 0 aside
pub fails_not_in : (used : ℕ → Bool) (b : ℕ) (es : List ℕ) → 0 < b → used b ≡ false → AllOf (λ e. 0 < e → used e ≡ true) es → is_in b es ≡ false
unfolding is_in any
fails_not_in used b [] p h a = refl
fails_not_in used b (e ∷ es) p h a =
    by (eqb b e) (λ k. let q = eqb-true b e k in lie (sym h ∙ ap used q ∙ a.0 (subst (λ z. 0 < z) q p))) (λ k. rw (k, any) (fails_not_in used b es p h a.1))

pub one_many : (b i : ℕ) → how_many (eqb b) (i ∷ []) ≡ (if' eqb b i then 1 else 0)
unfolding how_many
one_many b i = refl

pub not_in_many : (b : ℕ) (es : List ℕ) → is_in b es ≡ false → how_many (eqb b) es ≡ 0
unfolding is_in
not_in_many b es h = let l = leb-false 1 (how_many (eqb b) es) (sym (any_many (eqb b) es) ∙ h) in omega arith

pub in_many : (b : ℕ) (es : List ℕ) → is_in b es ≡ true → 0 < how_many (eqb b) es
unfolding is_in
in_many b es h = leb-true 1 (how_many (eqb b) es) (sym (any_many (eqb b) es) ∙ h)

-- in a list without repeats a number stands once or not at all
pub once_many : (x : ℕ) (xs : List ℕ) → distinct xs ≡ true → how_many (eqb x) xs ≡ (if' is_in x xs then 1 else 0)
unfolding distinct how_many if'◌then◌else◌
once_many x [] d = unfold is_in any in refl
once_many x (y ∷ ys) d =
    let q = and_true (not (is_in y ys)) (distinct ys) d in
    by (eqb x y)
    (λ e. rw (e, in_here x y ys e) (ap suc (not_in_many x ys (ap (λ z. is_in z ys) (eqb-true x y e) ∙ not-true (is_in y ys) q.0))))
    (λ e. rw (e, in_past x y ys e) (once_many x ys q.1))

-- a block that is named once
pub once_distinct : (es : List ℕ) → AllOf (λ e. 0 < e) es → ((b : ℕ) → 0 < b → how_many (eqb b) es ≤ 1) → distinct es ≡ true
unfolding distinct
once_distinct [] p o = refl
once_distinct (e ∷ es) p o = rw (alone, once_distinct es p.1 (λ b h. let l = fewer b in omega (arith, o b h)))
  where
    fewer : (b : ℕ) → how_many (eqb b) es ≤ how_many (eqb b) (e ∷ es)
    fewer b = unfold how_many if'◌then◌else◌ in by (eqb b e) (λ k. rw k (omega arith)) (λ k. rw k (omega arith))

    more : how_many (eqb e) (e ∷ es) ≡ suc (how_many (eqb e) es)
    more = unfold how_many if'◌then◌else◌ in rw (eqb_self e)

    alone : is_in e es ≡ false
    alone = by (is_in e es) (λ h. let l = in_many e es h in absurd (omega (arith, o e p.0, more))) (λ h. h)

pub once_left : (es ds : List ℕ) → ((b : ℕ) → 0 < b → how_many (eqb b) (es ++ ds) ≤ 1) → (b : ℕ) → 0 < b → how_many (eqb b) es ≤ 1
once_left es ds o b h = omega (arith, o b h, many_append (eqb b) es ds)

pub once_right : (es ds : List ℕ) → ((b : ℕ) → 0 < b → how_many (eqb b) (es ++ ds) ≤ 1) → (b : ℕ) → 0 < b → how_many (eqb b) ds ≤ 1
once_right es ds o b h = omega (arith, o b h, many_append (eqb b) es ds)

pub once_off : (es ds : List ℕ) → AllOf (λ e. 0 < e) es → ((b : ℕ) → 0 < b → how_many (eqb b) (es ++ ds) ≤ 1) → AllOf (λ e. is_in e ds ≡ false) es
once_off es ds p o =
    all_in _ es (λ e h. by (is_in e ds)
    (λ k. absurd (omega (arith, in_many e es h, in_many e ds k, o e (in_all (λ e. 0 < e) e es h p), many_append (eqb e) es ds))) (λ k. k))

pub distinct_snoc : (x : ℕ) (os : List ℕ) → is_in x os ≡ false → distinct os ≡ true → distinct (os ++ x ∷ []) ≡ true
unfolding distinct
distinct_snoc x [] h d = unfold is_in any in refl
distinct_snoc x (o ∷ os) h d =
    let n = not_in x o os h in
    let k = and_true (not (is_in o os)) (distinct os) d in
    rw (in_append o os, not-true (is_in o os) k.0, in_one o x (eqb_sym x o n.0), distinct_snoc x os n.1 k.1)

pub distinct_keep : (f : ℕ → Bool) (os : List ℕ) → distinct os ≡ true → distinct (keep f os) ≡ true
unfolding distinct keep if'◌then◌else◌
distinct_keep f [] d = refl
distinct_keep f (o ∷ os) d =
    let k = and_true (not (is_in o os)) (distinct os) d in
    by (f o) (λ h. rw (h, in_keep o f os, not-true (is_in o os) k.0, distinct_keep f os k.1)) (λ h. rw h (distinct_keep f os k.1))

pub distinct_first : (y : ℕ) (ys : List ℕ) → distinct (y ∷ ys) ≡ true → (not (is_in y ys) ≡ true) × (distinct ys ≡ true)
unfolding distinct
distinct_first y ys h = and_true (not (is_in y ys)) (distinct ys) h

pub distinct_more : (y : ℕ) (ys : List ℕ) → is_in y ys ≡ false → distinct ys ≡ true → distinct (y ∷ ys) ≡ true
unfolding distinct
distinct_more y ys n d = rw (n, d)

-- what stands behind a list without repeats is not in it
pub distinct_mid : (xs : List ℕ) (y : ℕ) (ys : List ℕ) → distinct (xs ++ y ∷ ys) ≡ true → is_in y xs ≡ false
unfolding distinct
distinct_mid [] y ys h = unfold is_in any in refl
distinct_mid (x ∷ xs) y ys h =
    let p = and_true (not (is_in x (xs ++ y ∷ ys))) (distinct (xs ++ y ∷ ys)) h in
    let there : eqb y x ≡ true → is_in x (xs ++ y ∷ ys) ≡ true = λ k.
    in_append x xs (y ∷ ys) ∙ ap (λ b. is_in x xs || b) (in_here x y ys (ap (eqb x) (eqb-true y x k) ∙ eqb_self x)) ∙ or_right (is_in x xs) true refl in
    let e : eqb y x ≡ false = by (eqb y x) (λ k. lie (sym (not-true _ p.0) ∙ there k)) (λ k. k) in
    in_past y x xs e ∙ distinct_mid xs y ys p.1

-- a member is not what is no member
pub member_apart : (u y : ℕ) (ys : List ℕ) → is_in u ys ≡ true → is_in y ys ≡ false → eqb u y ≡ false
member_apart u y ys i o = by (eqb u y) (λ e. lie (sym o ∙ ap (λ v. is_in v ys) (sym (eqb-true u y e)) ∙ i)) (λ e. e)

-- two lists, each without repetition, that share no member
pub distinct_both : (xs ys : List ℕ) → distinct xs ≡ true → distinct ys ≡ true → AllOf (λ y. is_in y xs ≡ false) ys → distinct (xs ++ ys) ≡ true
distinct_both xs [] p q n = ap distinct (append-nil xs) ∙ p
distinct_both xs (y ∷ ys) p q n =
    let k = distinct_first y ys q in
    let e : xs ++ y ∷ ys ≡ (xs ++ y ∷ []) ++ ys = sym (append_assoc xs (y ∷ []) ys) in
    ap distinct e
    ∙ distinct_both (xs ++ y ∷ []) ys (distinct_snoc y xs n.0 p) k.1
    (all_two (λ z. is_in z ys ≡ true) (λ z. is_in z xs ≡ false) _ (λ z i o. in_append z xs (y ∷ []) ∙ ap₂ (λ a b. a || b) o (last z i (not-true _ k.0))) ys
    (all_in (λ z. is_in z ys ≡ true) ys (λ z i. i)) n.1)
  where
    last : (z : ℕ) → is_in z ys ≡ true → is_in y ys ≡ false → is_in z (y ∷ []) ≡ false
    last z i o = in_past z y [] (member_apart z y ys i o) ∙ (unfold is_in any in refl)

pub many_distinct : (b : ℕ) (es : List ℕ) → distinct es ≡ true → how_many (eqb b) es ≤ 1
many_distinct b es d = let o = once_many b es d in unfold if'◌then◌else◌ in by (is_in b es) (λ h. omega (arith, rw h at o)) (λ h. omega (arith, rw h at o))

-- all but x
abbrev but : ℕ → List ℕ → List ℕ
but x xs = keep (λ y. not (eqb y x)) xs

pub in_but : (x y : ℕ) (xs : List ℕ) → eqb y x ≡ false → is_in y xs ≡ true → is_in y (but x xs) ≡ true
in_but x y xs h i = in_keep y (λ z. not (eqb z x)) xs ∙ rw (i, h)

but_less : (x : ℕ) (xs : List ℕ) → is_in x xs ≡ true → length (but x xs) < length xs
unfolding keep if'◌then◌else◌ is_in any
but_less x [] h = lie h
but_less x (y ∷ xs) h =
    let l = keep_length (λ z. not (eqb z x)) xs in
    by (eqb y x) (λ k. rw k (omega (arith, l)))
    (λ k. let r = but_less x xs (rw (eqb_sym y x k, any) at h) in rw k (omega (arith, r)))

-- distinct numbers of a list are not more than it has
pub pigeon : (xs os : List ℕ) → distinct xs ≡ true → AllOf (λ x. is_in x os ≡ true) xs → length xs ≤ length os
unfolding distinct
pigeon [] os d a = omega arith
pigeon (x ∷ xs) os d a =
    let q = and_true (not (is_in x xs)) (distinct xs) d in
    let n = not_in_all x xs (not-true (is_in x xs) q.0) in
    let r = pigeon xs (but x os) q.1 (all_two _ _ _ (λ y e i. in_but x y os e i) xs n a.1) in
    let l = but_less x os a.0 in
    omega arith

pub compared : {X : Type 0} (a b : ℕ) → (a < b → X) → (a ≡ b → X) → (b < a → X) → X
compared a b f g h =
    by (ltb a b) (λ t. f (ltb-true a b t)) (λ t. by (eqb a b) (λ u. g (eqb-true a b u)) (λ u. h (omega (arith, ltb-false a b t, eqb-false a b u))))
