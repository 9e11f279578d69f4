-- The first element that passes a test: along a list, in lists joined, among numbers in a row, and by its index.
use Rattle.basics.proofs.Kit.{◌≡◌, refl, sym, ap, ◌∙◌, Bool, true, false, cond, some, none, List, [], ◌∷◌, ◌++◌, ℕ, suc, ◌+◌, ◌≤◌, ◌<◌, zero, ◌-◌, add-one, drop, arith}
use Rattle.basics.specs.Basics.{AllOf, if'◌then◌else◌, how_many, first, from}
use Rattle.basics.specs.Lists.{first_index}
use Rattle.basics.proofs.Facts.{by, never}
use Rattle.basics.proofs.Elements.{all_map}

module _ {A : Type 0} (f : A → Bool) where
  pub first_hit : (x : A) (xs : List A) → f x ≡ true → first f (x ∷ xs) ≡ some x
  unfolding first
  first_hit x xs e = rw (e, first)

  pub first_past : (x : A) (xs : List A) → f x ≡ false → first f (x ∷ xs) ≡ first f xs
  unfolding first
  first_past x xs e = rw (e, first)

  pub first_some : (xs ys : List A) (b : A) → first f xs ≡ some b → first f (xs ++ ys) ≡ some b
  unfolding first
  first_some [] ys b e = never e
  first_some (x ∷ xs) ys b e =
      by (f x) (λ h. first_hit x (xs ++ ys) h ∙ sym (first_hit x xs h) ∙ e) (λ h. first_past x (xs ++ ys) h ∙ first_some xs ys b (sym (first_past x xs h) ∙ e))

  pub first_skip : (xs ys : List A) → first f xs ≡ none → first f (xs ++ ys) ≡ first f ys
  unfolding first
  first_skip [] ys e = refl
  first_skip (x ∷ xs) ys e =
      by (f x) (λ h. never (sym e ∙ first_hit x xs h)) (λ h. first_past x (xs ++ ys) h ∙ first_skip xs ys (sym (first_past x xs h) ∙ e))

pub from_iteration : (b n : ℕ) → b < n → from b (n - b) ≡ b ∷ from (b + 1) (n - (b + 1))
unfolding from
from_iteration b n h =
    let e : n - b ≡ suc (n - (b + 1)) = omega arith in
    ap (from b) e ∙ ap (λ (z : ℕ). b ∷ from z (n - (b + 1))) (sym (add-one b))

pub from_end : (b n : ℕ) → n ≤ b → from b (n - b) ≡ []
unfolding from
from_end b n h = let e : n - b ≡ 0 = omega arith in ap (from b) e

-- what is found is below the end
pub from_low : (f : ℕ → Bool) (a k b : ℕ) → first f (from a k) ≡ some b → b < a + k
unfolding first from
from_low f a zero b e = never e
from_low f a (suc k) b e =
    by (f a) (λ h. let q : some a ≡ some b = sym (first_hit f a (from (suc a) k) h) ∙ e in let z : a ≡ b = cc in omega arith)
    (λ h. omega (arith, from_low f (suc a) k b (sym (first_past f a (from (suc a) k) h) ∙ e)))

pub index_hit : {A : Type 0} (hit : A → Bool) (p : A) (ps : List A) → hit p ≡ true → first_index hit (p ∷ ps) ≡ 0
unfolding first_index
index_hit hit p ps e = ap (λ b. cond b 0 (suc (first_index hit ps))) e

pub index_pass : {A : Type 0} (hit : A → Bool) (p : A) (ps : List A) → hit p ≡ false → first_index hit (p ∷ ps) ≡ suc (first_index hit ps)
unfolding first_index
index_pass hit p ps e = ap (λ b. cond b 0 (suc (first_index hit ps))) e

pub none_cons : {A : Type 0} (x : A) (xs : List A) → [] ≡ x ∷ xs → ⊥
none_cons x xs e = let z : ◌≡◌ {A = ℕ} 0 1 = cc in omega arith

-- none passes
pub many_none : {A : Type 0} (hit : A → Bool) (ps : List A) → how_many hit ps ≡ 0 → first hit ps ≡ none
unfolding first how_many if'◌then◌else◌
many_none hit [] e = refl
many_none hit (q ∷ qs) e = by (hit q) (λ t. absurd (omega (arith, (rw t at e)))) (λ t. first_past hit q qs t ∙ many_none hit qs (rw t at e))

-- one does
pub index_some : {A : Type 0} (hit : A → Bool) (p : ℕ) (q : A) (ps : List A) → p ≡ first_index hit ps → drop p ps ≡ q ∷ drop (suc p) ps → first hit ps ≡ some q
index_some hit zero q [] e d = absurd (let z : ◌≡◌ {A = ℕ} 0 1 = cc in omega arith)
index_some hit (suc p) q [] e d = absurd (let z : ◌≡◌ {A = ℕ} 0 1 = cc in omega arith)
index_some hit zero q (r ∷ ps) e d =
    by (hit r) (λ t. let z : r ≡ q = cc in first_hit hit r ps t ∙ ap some z) (λ t. absurd (omega (arith, index_pass hit r ps t)))
index_some hit (suc p) q (r ∷ ps) e d =
    by (hit r) (λ t. absurd (omega (arith, index_hit hit r ps t)))
    (λ t. first_past hit r ps t ∙ index_some hit p q ps (omega (arith, index_pass hit r ps t)) d)

-- none before it does
pub index_many : {A : Type 0} (hit : A → Bool) (p : ℕ) (ps : List A) → p ≡ first_index hit ps → how_many hit (drop p ps) ≡ how_many hit ps
unfolding how_many if'◌then◌else◌
index_many hit zero ps e = refl
index_many hit (suc p) [] e = refl
index_many hit (suc p) (q ∷ ps) e =
    by (hit q) (λ t. absurd (omega (arith, index_hit hit q ps t)))
    (λ t. index_many hit p ps (omega (arith, index_pass hit q ps t)) ∙ sym (rw t refl))

pub from_append : (a j k : ℕ) → from a (j + k) ≡ from a j ++ from (a + j) k
unfolding from
from_append a zero k = let z : 0 + k ≡ k = omega arith in let y : a + 0 ≡ a = omega arith in rw (z, y)
from_append a (suc j) k =
    let z : suc j + k ≡ suc (j + k) = omega arith in let y : a + suc j ≡ suc a + j = omega arith in rw (z, y, from_append (suc a) j k)

pub all_from : (a k : ℕ) → AllOf (λ b. (a ≤ b) × (b < a + k)) (from a k)
unfolding from
all_from a zero = tt
all_from a (suc k) = ((omega arith, omega arith), all_map _ _ (λ b h. (omega arith, omega arith)) (from (suc a) k) (all_from (suc a) k))
