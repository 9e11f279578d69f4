-- One turn of each search and test along a list, whose head is known; and the lists' heads: what is left of a list, and a list by its index.
use Rattle.basics.proofs.Kit.{◌≡◌, sym, ap, ◌∙◌, Bool, true, false, List, [], ◌∷◌, ℕ, suc, ◌+◌, ◌≤◌, ◌<◌, ◌-◌, add-one, length, drop, get_or, drop_of_length-le, drop-cons, arith}
use Rattle.basics.specs.Basics.{if'◌then◌else◌, any, all, paired, how_many}
use Rattle.basics.specs.Lists.{tab}
use Rattle.basics.proofs.Searches.{tab_next}

-- ---- heads

pub drop_iteration : (s : List ℕ) (i : ℕ) → i < length s → drop i s ≡ get_or s i 0 ∷ drop (i + 1) s
drop_iteration s i h = rw (add-one i) (drop-cons s i 0 h)

pub drop_end : (s : List ℕ) (i : ℕ) → length s ≤ i → drop i s ≡ []
drop_end s i h = drop_of_length-le s h

-- all of a list by its index
pub tab_whole : {A : Type 0} (g : ℕ → A) (n : ℕ) → tab g 0 (n - 0) ≡ tab g 0 n
tab_whole g n = let e : n - 0 ≡ n = omega arith in rw e

-- ---- turns

module _ {A : Type 0} (f : A → Bool) {x : A} {xs l : List A} (e : l ≡ x ∷ xs) where
  pub any_yes : f x ≡ true → any f l ≡ true
  unfolding any
  any_yes t = ap (any f) e ∙ ap (λ (b : Bool). elim b [ true ↦ true | false ↦ any f xs ]) t

  pub any_not : f x ≡ false → any f l ≡ any f xs
  unfolding any
  any_not t = ap (any f) e ∙ ap (λ (b : Bool). elim b [ true ↦ true | false ↦ any f xs ]) t

  pub all_yes : f x ≡ true → all f l ≡ all f xs
  unfolding all
  all_yes t = rw (e, t)

  pub all_not : f x ≡ false → all f l ≡ false
  unfolding all
  all_not t = rw (e, t)

  pub count_yes : f x ≡ true → how_many f l ≡ suc (how_many f xs)
  unfolding how_many if'◌then◌else◌
  count_yes t = rw (e, t)

  pub count_not : f x ≡ false → how_many f l ≡ how_many f xs
  unfolding how_many if'◌then◌else◌
  count_not t = rw (e, t)

module _ {A : Type 0} (f : A → A → Bool) {x y : A} {xs l : List A} (e : l ≡ x ∷ y ∷ xs) where
  pub pair_yes : f x y ≡ true → paired f l ≡ paired f (y ∷ xs)
  unfolding paired
  pair_yes t = rw (e, t)

  pub pair_not : f x y ≡ false → paired f l ≡ false
  unfolding paired
  pair_not t = rw (e, t)

-- ---- ends

module _ {A : Type 0} (f : A → Bool) {l : List A} (e : l ≡ []) where
  pub any_end : any f l ≡ false
  unfolding any
  any_end = ap (any f) e

  pub all_end : all f l ≡ true
  unfolding all
  all_end = ap (all f) e

  pub count_end : how_many f l ≡ 0
  unfolding how_many
  count_end = ap (how_many f) e

-- each pair of neighbours, by the index of the second
module _ {A : Type 0} (f : A → A → Bool) (g : ℕ → A) (i n : ℕ) (low : 1 ≤ i) where
  two : i < n → tab g (i - 1) (n - (i - 1)) ≡ g (i - 1) ∷ g i ∷ tab g (i + 1) (n - (i + 1))
  two h =
      let e : i - 1 + 1 ≡ i = omega arith in
      tab_next g (i - 1) n (omega arith) ∙ rw e (ap (λ (l : List A). g (i - 1) ∷ l) (tab_next g i n h))

  pub pair_iteration : i < n → f (g (i - 1)) (g i) ≡ true → paired f (tab g (i - 1) (n - (i - 1))) ≡ paired f (tab g i (n - i))
  pair_iteration h t = pair_yes f (two h) t ∙ ap (paired f) (sym (tab_next g i n h))

  pub pair_stop : i < n → f (g (i - 1)) (g i) ≡ false → paired f (tab g (i - 1) (n - (i - 1))) ≡ false
  pair_stop h t = pair_not f (two h) t

  pub pair_end : n ≡ i → paired f (tab g (i - 1) (n - (i - 1))) ≡ true
  unfolding paired
  pair_end e = let m : n - (i - 1) ≡ 1 = omega arith in rw m
