-- Splitting: the parts append to the whole, none is empty, and all fit; and where a tuple is placed on a page.
use Rattle.basics.proofs.Kit.{◌≡◌, refl, sym, subst, true, false, some, none, List, [], ◌∷◌, ◌++◌, append_assoc, append-nil, ℕ, suc, ◌+◌, ◌*◌, ◌≤◌, ◌<◌, zero, ◌-◌, min, leb, length, take}
use Rattle.basics.proofs.Kit.{drop, length-take, length-drop, take-append-drop, arith}
use Rattle.basics.specs.Basics.{if'◌then◌else◌, sum, is_empty}
use Rattle.basics.proofs.Facts.{by, AllOf, never, by-option}
use Rattle.block_forms.specs.Limits.{most_record, record_space}
use Rattle.model.specs.State.{Held}
use Rattle.model.specs.Rules.{lead, held_size, half, fits, split_deep, split_all, split_once, after}
use Rattle.basics.proofs.Elements.{leb-false, nonempty, all_take, all_drop, all_append, some_eq}

-- ---- one split

lead_pos : (w a : ℕ) (x : Held) (xs : List Held) → 0 < lead w a (x ∷ xs)
unfolding lead if'◌then◌else◌
lead_pos w a x xs = by (leb w (2 * (a + held_size x))) (λ h. rw h (omega arith)) (λ h. rw h (omega arith))

-- no larger than the largest record
abbrev pub Small : Held → Type 0
Small x = held_size x ≤ most_record

lead_short : (w a : ℕ) (xs : List Held) → 2 * most_record < w → 2 * a < w → w ≡ a + sum held_size xs → AllOf Small xs → lead w a xs < length xs
unfolding lead sum if'◌then◌else◌
lead_short w a [] big h e s = absurd (omega arith)
lead_short w a (x ∷ []) big h e s = absurd (omega arith)
lead_short w a (x ∷ y ∷ ys) big h e s =
    by (leb w (2 * (a + held_size x))) (λ t. rw t (omega arith))
    (λ t. let k : 2 * (a + held_size x) < w = leb-false w _ t in
    let ih : lead w (a + held_size x) (y ∷ ys) < length (y ∷ ys) = lead_short w (a + held_size x) (y ∷ ys) big k (omega arith) s.1 in
    rw t (omega arith))

-- a page above 504 bytes splits in two parts that are not empty
pub half_between : (ts : List Held) → AllOf Small ts → record_space < sum held_size ts → (0 < half ts) × (half ts < length ts)
unfolding half sum
half_between [] s h = absurd (omega arith)
half_between (x ∷ xs) s h = (lead_pos _ 0 x xs, lead_short (sum held_size (x ∷ xs)) 0 (x ∷ xs) (omega arith) (omega arith) (omega arith) s)

-- ---- all splits

unfoldable pub together : List (List Held) → List Held
together [] = []
together (ts ∷ tss) = ts ++ together tss

together_append : (a b : List (List Held)) → together (a ++ b) ≡ together a ++ together b
unfolding together
together_append [] b = refl
together_append (ts ∷ a) b = rw (together_append a b, append_assoc)

-- every part fits and is not empty, and the parts append to the whole
split_deep_lem : (d : ℕ) (ts : List Held) → length ts ≤ d → 0 < length ts → AllOf Small ts
    → AllOf (λ us. (fits us ≡ true) × (is_empty us ≡ false)) (split_deep d ts) × (together (split_deep d ts) ≡ ts)
unfolding split_deep together fits
split_deep_lem zero ts l p s = absurd (omega arith)
split_deep_lem (suc d) ts l p s =
    by (fits ts) (λ h. rw (h, split_deep) (((h, nonempty ts p), tt), append-nil ts))
    (λ h.
    let big : record_space < sum held_size ts = leb-false (sum held_size ts) record_space h in
    let m = half_between ts s big in
    let k = half ts in
    let lt : length (take k ts) ≡ min k (length ts) = length-take k ts in
    let ld : length (drop k ts) ≡ length ts - k = length-drop k ts in
    let u = split_deep_lem d (take k ts) (omega arith) (omega arith) (all_take Small k ts s) in
    let v = split_deep_lem d (drop k ts) (omega arith) (omega arith) (all_drop Small k ts s) in
    rw (h, split_deep) (
      all_append _ (split_deep d (take k ts)) (split_deep d (drop k ts)) u.0 v.0,
      rw (together_append, u.1, v.1) (take-append-drop k ts),
    ))

pub split_all_lem : (ts : List Held) → 0 < length ts → AllOf Small ts
    → AllOf (λ us. (fits us ≡ true) × (is_empty us ≡ false)) (split_all ts) × (together (split_all ts) ≡ ts)
unfolding split_all
split_all_lem ts p s = split_deep_lem (length ts) ts (omega arith) p s

pub once_together : (ts : List Held) → together (split_once ts) ≡ ts
unfolding together split_once if'◌then◌else◌
once_together ts = by (fits ts) (λ h. rw (h, append-nil)) (λ h. rw (h, append-nil) (take-append-drop (half ts) ts))

-- ---- where a tuple is placed

-- where x is placed, it and the old tuples are all that there is
pub after_all : (P : Held → Type 0) (x : Held) (ys zs : List Held) → after x ys ≡ some zs → P x → AllOf P ys → AllOf P zs
unfolding after if'◌then◌else◌
after_all P x [] zs e p ps = never e
after_all P x (y ∷ ys) zs e p ps =
    by-option (after x ys)
    (λ n. by (leb y.tuple.key x.tuple.key)
    (λ t. let k : y ∷ x ∷ ys ≡ zs = some_eq (rw (n, t) at e) in subst (AllOf P) k (ps.0, (p, ps.1)))
    (λ t. never (rw (n, t) at e)))
    (λ ws n. let k : y ∷ ws ≡ zs = some_eq (rw (n, after) at e) in subst (AllOf P) k (ps.0, after_all P x ys ws n p ps.1))

-- where it is not, all keys are above
pub after_none : (x : Held) (ys : List Held) → after x ys ≡ none → AllOf (λ z. x.tuple.key < z.tuple.key) ys
unfolding after if'◌then◌else◌
after_none x [] e = tt
after_none x (y ∷ ys) e =
    by-option (after x ys)
    (λ n. by (leb y.tuple.key x.tuple.key) (λ t. never (sym (rw (n, t) at e))) (λ t. (leb-false y.tuple.key x.tuple.key t, after_none x ys n)))
    (λ vs n. never (sym (rw (n, after) at e)))
