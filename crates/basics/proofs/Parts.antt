-- Elements put in, taken out or changed in a list: the length then, in lists joined and in a part of a list.
use Rattle.basics.proofs.Kit.{◌≡◌, refl, sym, ap, ◌∙◌, List, [], ◌∷◌, ◌++◌, append_assoc, map, ℕ, suc, ◌+◌, ◌≤◌, ◌<◌, zero, ◌-◌, zero-add, suc-add, length, take, drop}
use Rattle.basics.proofs.Kit.{set, length-append, length-drop, length-take-le, take-append-drop, set_split, drop-drop, take-add, take-append-add, take-append-le}
use Rattle.basics.proofs.Kit.{take-append_seam, drop-append-add, drop-append-le, drop-length, take-nil, take-length, take-set-le, drop-set-lt, take-take, drop-nil, set-append_left, arith}
use Rattle.basics.specs.Lists.{insert_at, remove_at}
use Rattle.basics.proofs.Kit.{◌*◌, get_or, take-suc-set, take-suc, get_or-drop, add-one, drop-cons, set_at}
use Rattle.basics.proofs.Kit.{subst, eqb, eqb-true, eqb-false, get_or-set_same, get_or-set_other}
use Rattle.basics.proofs.Facts.{by}
use Rattle.basics.proofs.Numbers.{less_than}

module _ {A : Type 0} where
  pub remove_at_suc : (i : ℕ) (x : A) (xs : List A) → remove_at (suc i) (x ∷ xs) ≡ x ∷ remove_at i xs
  remove_at_suc i x xs = let z : suc i + 1 ≡ suc (i + 1) = omega arith in ap (λ k. x ∷ (take i xs ++ drop k (x ∷ xs))) z

  pub remove_at_left : (i : ℕ) (a b : List A) → i < length a → remove_at i (a ++ b) ≡ remove_at i a ++ b
  remove_at_left i a b h =
      let l : i + 1 ≤ length a = omega arith in
      rw (take-append-le i a b (omega arith), drop-append-le (i + 1) a b l) (sym (append_assoc (take i a) (drop (i + 1) a) b))

  pub remove_at_right : (i : ℕ) (a b : List A) → length a ≤ i → remove_at i (a ++ b) ≡ a ++ remove_at (i - length a) b
  remove_at_right i a b h =
      let k = i - length a in
      let e : i ≡ length a + k = omega arith in
      let d : length a + k + 1 ≡ length a + (k + 1) = omega arith in
      ap (λ z. remove_at z (a ++ b)) e ∙ ap (λ z. take (length a + k) (a ++ b) ++ drop z (a ++ b)) d
      ∙ rw (take-append-add a b k, drop-append-add a b (k + 1)) (append_assoc a (take k b) (drop (k + 1) b))

  pub remove_at_seam : (a : List A) (x : A) (b : List A) → remove_at (length a) (a ++ x ∷ b) ≡ a ++ b
  remove_at_seam a x b = rw (take-append_seam a (x ∷ b), drop-append-add a (x ∷ b) 1)

module _ {A : Type 0} where
  pub set_right : (a b : List A) (j : ℕ) (x : A) → set (a ++ b) (length a + j) x ≡ a ++ set b j x
  set_right [] b j x = let z : 0 + j ≡ j = omega arith in ap (λ n. set b n x) z
  set_right (y ∷ a) b j x =
      let z : suc (length a) + j ≡ suc (length a + j) = omega arith in
      ap (λ n. set (y ∷ (a ++ b)) n x) z ∙ ap (λ l. y ∷ l) (set_right a b j x)

  -- element j of the middle part
  pub remove_middle : (a b c : List A) (j : ℕ) → j < length b → remove_at (length a + j) (a ++ (b ++ c)) ≡ a ++ (remove_at j b ++ c)
  remove_middle a b c j h =
      let z : length a + j - length a ≡ j = omega arith in
      remove_at_right (length a + j) a (b ++ c) (omega arith) ∙ ap (λ n. a ++ remove_at n (b ++ c)) z ∙ ap (λ l. a ++ l) (remove_at_left j b c h)

  pub set_middle : (a b c : List A) (j : ℕ) (x : A) → j < length b → set (a ++ (b ++ c)) (length a + j) x ≡ a ++ (set b j x ++ c)
  set_middle a b c j x h = set_right a (b ++ c) j x ∙ ap (λ l. a ++ l) (set-append_left b c j x h)

pub map_set : {A B : Type 0} (f : A → B) (xs : List A) (j : ℕ) (x : A) → map f (set xs j x) ≡ set (map f xs) j (f x)
map_set f [] j x = refl
map_set f (y ∷ ys) zero x = refl
map_set f (y ∷ ys) (suc j) x = ap (λ l. f y ∷ l) (map_set f ys j x)

pub map_remove : {A B : Type 0} (f : A → B) (xs : List A) (j : ℕ) → j < length xs → map f (remove_at j xs) ≡ remove_at j (map f xs)
map_remove f [] j h = absurd (omega arith)
map_remove f (y ∷ ys) zero h = refl
map_remove f (y ∷ ys) (suc j) h =
    ap (map f) (remove_at_suc j y ys) ∙ ap (λ l. f y ∷ l) (map_remove f ys j (omega arith)) ∙ sym (remove_at_suc j (f y) (map f ys))

pub drop_take : {A : Type 0} (n k : ℕ) (l : List A) → drop n (take (n + k) l) ≡ take k (drop n l)
drop_take zero k l = ap (λ (z : ℕ). take z l) (zero-add k)
drop_take (suc n) k [] = rw (take-nil, drop-nil, take-nil)
drop_take (suc n) k (x ∷ l) = rw suc-add (drop_take n k l)

module _ {A : Type 0} (ts : List A) (s j c : ℕ) where
  pub before_j : j ≤ c → take (s + j) ts ≡ take s ts ++ take j (take c (drop s ts))
  before_j h = take-add s j ts ∙ ap (λ (z : List A). take s ts ++ z) (sym (take-take j c (drop s ts) h))

  pub after_j : j ≤ c → drop (s + j) ts ≡ drop j (take c (drop s ts)) ++ drop (s + c) ts
  after_j h =
      let e : j + (c - j) ≡ c = omega arith in
      let e2 : s + j + (c - j) ≡ s + c = omega arith in
      let d : drop j (take c (drop s ts)) ≡ take (c - j) (drop (s + j) ts) =
      ap (λ (z : ℕ). drop j (take z (drop s ts))) (sym e) ∙ drop_take j (c - j) (drop s ts) ∙ ap (take (c - j)) (drop-drop j s ts) in
      sym (take-append-drop (c - j) (drop (s + j) ts))
      ∙ ap (λ (z : List A). z ++ drop (c - j) (drop (s + j) ts)) (sym d)
      ∙ ap (λ (z : List A). drop j (take c (drop s ts)) ++ z) (drop-drop (c - j) (s + j) ts ∙ ap (λ (z : ℕ). drop z ts) e2)

  pub insert_within : (x : A) → j ≤ c → insert_at (s + j) x ts ≡ take s ts ++ (insert_at j x (take c (drop s ts)) ++ drop (s + c) ts)
  insert_within x h =
      let v : List A = take c (drop s ts) in
      ap (λ (z : List A). z ++ x ∷ drop (s + j) ts) (before_j h)
      ∙ ap (λ (z : List A). (take s ts ++ take j v) ++ x ∷ z) (after_j h)
      ∙ append_assoc (take s ts) (take j v) (x ∷ (drop j v ++ drop (s + c) ts))
      ∙ ap (λ (z : List A). take s ts ++ z) (sym (append_assoc (take j v) (x ∷ drop j v) (drop (s + c) ts)))

module _ {A : Type 0} (ts : List A) (s j c : ℕ) (h : j < c) where
  pub next : drop (s + j + 1) ts ≡ drop (j + 1) (take c (drop s ts)) ++ drop (s + c) ts
  next =
      let e : s + j + 1 ≡ s + (j + 1) = omega arith in
      ap (λ (z : ℕ). drop z ts) e ∙ after_j ts s (j + 1) c (omega arith)

  pub remove_within : remove_at (s + j) ts ≡ take s ts ++ (remove_at j (take c (drop s ts)) ++ drop (s + c) ts)
  remove_within =
      let v : List A = take c (drop s ts) in
      ap (λ (z : List A). z ++ drop (s + j + 1) ts) (before_j ts s j c (omega arith))
      ∙ ap (λ (z : List A). (take s ts ++ take j v) ++ z) next
      ∙ append_assoc (take s ts) (take j v) (drop (j + 1) v ++ drop (s + c) ts)
      ∙ ap (λ (z : List A). take s ts ++ z) (sym (append_assoc (take j v) (drop (j + 1) v) (drop (s + c) ts)))

  pub set_within : (x : A) → s + c ≤ length ts → set ts (s + j) x ≡ take s ts ++ (set (take c (drop s ts)) j x ++ drop (s + c) ts)
  set_within x l =
      let v : List A = take c (drop s ts) in
      let lv : length v ≡ c = length-take-le c (drop s ts) (simp length-drop (omega arith)) in
      let e : suc (s + j) ≡ s + j + 1 = omega arith in
      let e2 : j + 1 ≡ suc j = omega arith in
      set_split ts (s + j) x (omega arith)
      ∙ ap (λ (z : List A). z ++ x ∷ drop (suc (s + j)) ts) (before_j ts s j c (omega arith))
      ∙ ap (λ (z : List A). (take s ts ++ take j v) ++ x ∷ z) (ap (λ (z : ℕ). drop z ts) e ∙ next ∙ ap (λ (z : ℕ). drop z v ++ drop (s + c) ts) e2)
      ∙ append_assoc (take s ts) (take j v) (x ∷ (drop (suc j) v ++ drop (s + c) ts))
      ∙ ap (λ (z : List A). take s ts ++ z) (sym (append_assoc (take j v) (x ∷ drop (suc j) v) (drop (s + c) ts)))
      ∙ ap (λ (z : List A). take s ts ++ (z ++ drop (s + c) ts)) (sym (set_split v j x (omega arith)))

pub length_insert : {A : Type 0} (j : ℕ) (x : A) (xs : List A) → j ≤ length xs → length (insert_at j x xs) ≡ length xs + 1
length_insert j x xs h = length-append (take j xs) (x ∷ drop j xs) ∙ omega (arith, length-take-le j xs h, length-drop j xs)

pub length_remove : {A : Type 0} (j : ℕ) (xs : List A) → j < length xs → length (remove_at j xs) ≡ length xs - 1
length_remove j xs h = length-append (take j xs) (drop (j + 1) xs) ∙ omega (arith, length-take-le j xs (omega arith), length-drop (j + 1) xs)

-- the rows, cut around c of them
pub cut_rows : {A : Type 0} (s c : ℕ) (rs : List A) → rs ≡ take s rs ++ (take c (drop s rs) ++ drop (s + c) rs)
cut_rows {A} s c rs =
    sym (take-append-drop s rs) ∙ ap (λ (z : List A). take s rs ++ z) (sym (take-append-drop c (drop s rs)) ∙ ap (λ (z : List A). take c (drop s rs) ++ z) (drop-drop c s rs))

module _ {A : Type 0} where
  -- what was set before does not matter
  pub remove_set : (xs : List A) (p : ℕ) (x : A) → remove_at p (set xs p x) ≡ remove_at p xs
  remove_set xs p x =
      ap (λ (z : List A). z ++ drop (p + 1) (set xs p x)) (take-set-le p xs p x (omega arith))
      ∙ ap (λ (z : List A). take p xs ++ z) (drop-set-lt (p + 1) xs p x (omega arith))

-- behind all others
pub insert_last : {A : Type 0} (n : ℕ) (x : A) (xs : List A) → n ≡ length xs → insert_at n x xs ≡ xs ++ x ∷ []
insert_last n x xs e =
    ap (λ (k : ℕ). insert_at k x xs) e ∙ ap (λ (z : List _). z ++ x ∷ drop (length xs) xs) (take-length xs)
    ∙ ap (λ (z : List _). xs ++ x ∷ z) (drop-length xs)

pub cons_head : {A : Type 0} (x y : A) (xs ys : List A) → x ∷ xs ≡ y ∷ ys → x ≡ y
cons_head x y xs ys e = cc

-- the last element
pub last_set : {A : Type 0} (xs : List A) (x y : A) → set (xs ++ x ∷ []) (length xs) y ≡ xs ++ y ∷ []
last_set [] x y = refl
last_set (z ∷ xs) x y = ap (λ (l : List _). z ∷ l) (last_set xs x y)

-- one element more of a part of ns
pub entries_iteration : (ns out : List ℕ) (first i v : ℕ) → i < length out → first + i < length ns → v ≡ get_or ns (first + i) 0
    → take i out ≡ take i (drop first ns) → take (i + 1) (set out i v) ≡ take (i + 1) (drop first ns)
entries_iteration ns out first i v h k e t =
    let l : i < length (drop first ns) = simp length-drop (omega arith) in
    let x : v ≡ get_or (drop first ns) i 0 = e ∙ sym (get_or-drop first ns i 0) in
    rw (add-one i, take-suc-set out i v h, t, x) (sym (take-suc (drop first ns) i 0 l))

-- two bytes more
pub two_more : (xs p : List ℕ) (i a b : ℕ) → length xs ≡ 2 * i → 2 * i + 2 ≤ length p
    → set (set (xs ++ drop (2 * i) p) (2 * i) a) (2 * i + 1) b ≡ (xs ++ a ∷ b ∷ []) ++ drop (2 * (i + 1)) p
two_more xs p i a b l h =
    let y0 : ℕ = get_or p (2 * i) 0 in
    let y1 : ℕ = get_or p (suc (2 * i)) 0 in
    let d : List ℕ = drop (suc (suc (2 * i))) p in
    let e0 : drop (2 * i) p ≡ y0 ∷ y1 ∷ d = drop-cons p (2 * i) 0 (omega arith) ∙ ap (λ (z : List ℕ). y0 ∷ z) (drop-cons p (suc (2 * i)) 0 (omega arith)) in
    let s0 : set (xs ++ drop (2 * i) p) (2 * i) a ≡ xs ++ a ∷ y1 ∷ d = ap (λ (z : List ℕ). set (xs ++ z) (2 * i) a) e0 ∙ set_at xs y0 (y1 ∷ d) a (2 * i) l in
    let l1 : length (xs ++ a ∷ []) ≡ 2 * i + 1 = length-append xs (a ∷ []) ∙ omega (arith, l) in
    let z : suc (suc (2 * i)) ≡ 2 * (i + 1) = omega arith in
    ap (λ (q : List ℕ). set q (2 * i + 1) b) (s0 ∙ sym (append_assoc xs (a ∷ []) (y1 ∷ d)))
    ∙ set_at (xs ++ a ∷ []) y1 d b (2 * i + 1) l1
    ∙ append_assoc xs (a ∷ []) (b ∷ d)
    ∙ sym (append_assoc xs (a ∷ b ∷ []) d)
    ∙ ap (λ (q : ℕ). (xs ++ a ∷ b ∷ []) ++ drop q p) z

pub front : {A : Type 0} (p q : List A) (n k : ℕ) → n + k ≤ length p → take k (drop n (p ++ q)) ≡ take k (drop n p)
front p q n k h =
    let few : n ≤ length p = omega arith in
    rw (drop-append-le n p q few) (take-append-le k (drop n p) q (rw (length-drop n p) (omega arith)))

pub take_snoc : {A : Type 0} (ps : List A) (p : ℕ) (q : A) → drop p ps ≡ q ∷ drop (suc p) ps → take (suc p) ps ≡ take p ps ++ q ∷ []
take_snoc [] zero q e = absurd (let l = ap length e in omega arith)
take_snoc [] (suc p) q e = absurd (let l = ap length e in omega arith)
take_snoc (r ∷ rs) zero q e = ap (λ z. z ∷ []) (cons_head r q _ _ e)
take_snoc (r ∷ rs) (suc p) q e = ap (λ z. r ∷ z) (take_snoc rs p q e)

pub drop_none : {A : Type 0} (k : ℕ) (p : A) (qs : List A) → drop k [] ≡ p ∷ qs → ⊥
drop_none k p qs e = let l = ap length (sym (drop-nil k) ∙ e) in omega arith

-- elements before place k, in two lists that are equal up to it
pub same_before : {A : Type 0} (xs ys : List A) (a k : ℕ) → a ≤ k → take k ys ≡ take k xs → take (k - a) (drop a ys) ≡ take (k - a) (drop a xs)
same_before {A} xs ys a k l e = sym (part ys) ∙ ap (drop a) e ∙ part xs
  where
    part : (zs : List A) → drop a (take k zs) ≡ take (k - a) (drop a zs)
    part zs = let z : a + (k - a) ≡ k = omega arith in ap (λ n. drop a (take n zs)) (sym z) ∙ drop_take a (k - a) zs

-- the elements from a on: those up to e, and the others
pub parts : {A : Type 0} (xs : List A) (a e : ℕ) → a ≤ e → drop a xs ≡ take (e - a) (drop a xs) ++ drop e xs
parts xs a e h =
    let z : a + (e - a) ≡ e = omega arith in
    sym (take-append-drop (e - a) (drop a xs)) ∙ ap (λ y. take (e - a) (drop a xs) ++ y) (drop-drop (e - a) a xs ∙ ap (λ n. drop n xs) z)

pub last_index : {A : Type 0} (xs : List A) (y : A) → length (xs ++ y ∷ []) - 1 ≡ length xs
last_index xs y = omega (arith, length-append xs (y ∷ []))

-- a list put index by index: what holds of the first i elements holds of one more
pub put_next : (P : ℕ → ℕ → Type 0) (out : List ℕ) (i : ℕ) {x : ℕ} → i < length out → P i x → ((j : ℕ) → j < i → P j (get_or out j 0)) → (j : ℕ) → j < i + 1 → P j (get_or (set out i x) j 0)
put_next P out i {x} h here before j b =
    by (eqb j i)
    (λ t. subst (λ (z : ℕ). P z (get_or (set out i x) z 0)) (sym (eqb-true j i t)) (subst (P i) (sym (get_or-set_same out i x 0 h)) here))
    (λ t. let n = eqb-false j i t in subst (P j) (sym (get_or-set_other out i j x 0 n)) (before j (less_than (omega (arith, b)) n)))
