-- General lemmas: tests, properties of all elements and of all pairs, members, and the searches on lists.
use Rattle.basics.proofs.Kit.{◌≡◌, refl, sym, ap, ◌∙◌, subst, Bool, true, false, ◌&&◌, ◌||◌, some, none, List, [], ◌∷◌, ◌++◌, map, ℕ, ne_eqb, le-leb, not}
use Rattle.basics.proofs.Kit.{suc, ◌+◌, ◌≤◌, ◌<◌, zero, leb, eqb, ltb, T}
use Rattle.basics.proofs.Kit.{eqb_refl, le→leb, length, take, drop, get_or, arith}
use Rattle.basics.specs.Basics.{if'◌then◌else◌, every, all, keep, is_empty, first, last, any, how_many, is_in, sum}
use Rattle.basics.proofs.Facts.{by, lie, AllOf, and_true, never, by-option}
pub use Rattle.basics.proofs.Kit.{not-true, not-false}
-- ---- tests

pub use borrow.Author.Tests.{eqb-true, leb-true, leb-false}
pub use Rattle.basics.proofs.Ands.{and_no, and_yes, and_assoc}

T_true : (b : Bool) → T b → b ≡ true
T_true true t = refl
T_true false t = absurd t

pub eqb_self : (n : ℕ) → eqb n n ≡ true
eqb_self n = T_true _ (eqb_refl n)

pub eqb_sym : (a b : ℕ) → eqb a b ≡ false → eqb b a ≡ false
eqb_sym a b e = by (eqb b a) (λ h. lie (sym e ∙ ap (λ c. eqb c b) (sym (eqb-true b a h)) ∙ eqb_self b)) (λ h. h)

pub eqb_swap : (a b : ℕ) → eqb a b ≡ eqb b a
eqb_swap a b = by (eqb b a) (λ e. rw e (rw (eqb-true b a e) (eqb_self a))) (λ e. eqb_sym b a e ∙ sym e)

pub le_true : (m n : ℕ) → m ≤ n → leb m n ≡ true
le_true m n h = T_true _ (le→leb m n h)

pub lt_false : (a b : ℕ) → b ≤ a → ltb a b ≡ false
lt_false a b h = by (ltb a b) (λ k. let l = leb-true (suc a) b k in absurd (omega arith)) (λ k. k)

pub pos_not_zero : (b : ℕ) → 0 < b → eqb b 0 ≡ false
pos_not_zero b p = by (eqb b 0) (λ k. let z = eqb-true b 0 k in absurd (omega arith)) (λ k. k)

pub not_zero : (b : ℕ) → eqb b 0 ≡ false → 0 < b
not_zero zero h = lie (sym h)
not_zero (suc b) h = omega arith

pub and_both : {a b : Bool} → a ≡ true → b ≡ true → (a && b) ≡ true
and_both p q = rw (p, q)

pub or_right : (a b : Bool) → b ≡ true → (a || b) ≡ true
or_right true b h = refl
or_right false b h = h

pub every_all : (bs : List Bool) → every bs ≡ true → AllOf (λ b. b ≡ true) bs
unfolding every
every_all [] e = tt
every_all (b ∷ bs) e = let k = and_true b (every bs) e in (k.0, every_all bs k.1)

pub some_eq : {A : Type 0} {x y : A} → some x ≡ some y → x ≡ y
some_eq e = cc

-- ---- all elements

module _ {A : Type 0} where
  pub all_map : (P Q : A → Type 0) → ((a : A) → P a → Q a) → (xs : List A) → AllOf P xs → AllOf Q xs
  all_map P Q f [] p = tt
  all_map P Q f (x ∷ xs) p = (f x p.0, all_map P Q f xs p.1)

  pub all_two : (P Q R : A → Type 0) → ((a : A) → P a → Q a → R a) → (xs : List A) → AllOf P xs → AllOf Q xs → AllOf R xs
  all_two P Q R f [] a b = tt
  all_two P Q R f (x ∷ xs) a b = (f x a.0 b.0, all_two P Q R f xs a.1 b.1)

  pub all_append : (P : A → Type 0) (xs ys : List A) → AllOf P xs → AllOf P ys → AllOf P (xs ++ ys)
  all_append P [] ys a b = b
  all_append P (x ∷ xs) ys a b = (a.0, all_append P xs ys a.1 b)

  pub all_at : (P : A → Type 0) (d : A) (xs : List A) (i : ℕ) → i < length xs → AllOf P xs → P (get_or xs i d)
  all_at P d [] i h a = absurd (omega arith)
  all_at P d (x ∷ xs) zero h a = a.0
  all_at P d (x ∷ xs) (suc i) h a = all_at P d xs i (omega arith) a.1

  pub all_parts : (P : A → Type 0) (a b : List A) → AllOf P (a ++ b) → AllOf P a × AllOf P b
  all_parts P [] b h = (tt, h)
  all_parts P (x ∷ a) b h = let r = all_parts P a b h.1 in ((h.0, r.0), r.1)

  pub all_insert : (P : A → Type 0) (a : List A) (x : A) (b : List A) → AllOf P (a ++ b) → P x → AllOf P (a ++ x ∷ b)
  all_insert P a x b p h = let q = all_parts P a b p in all_append P a (x ∷ b) q.0 (h, q.1)

  pub all_take : (P : A → Type 0) (n : ℕ) (xs : List A) → AllOf P xs → AllOf P (take n xs)
  all_take P zero xs a = tt
  all_take P (suc n) [] a = tt
  all_take P (suc n) (x ∷ xs) a = (a.0, all_take P n xs a.1)

  pub all_drop : (P : A → Type 0) (n : ℕ) (xs : List A) → AllOf P xs → AllOf P (drop n xs)
  all_drop P zero xs a = a
  all_drop P (suc n) [] a = tt
  all_drop P (suc n) (x ∷ xs) a = all_drop P n xs a.1

  pub all_true : (f : A → Bool) (xs : List A) → AllOf (λ x. f x ≡ true) xs → all f xs ≡ true
  unfolding all
  all_true f [] a = refl
  all_true f (x ∷ xs) a = rw (a.0, all_true f xs a.1)

  pub all_split : (f : A → Bool) (xs : List A) → all f xs ≡ true → AllOf (λ x. f x ≡ true) xs
  unfolding all
  all_split f [] e = tt
  all_split f (x ∷ xs) e = let k = and_true (f x) (all f xs) e in (k.0, all_split f xs k.1)

pub all_mapped : {A B : Type 0} (P : B → Type 0) (f : A → B) (xs : List A) → AllOf (λ x. P (f x)) xs → AllOf P (map f xs)
all_mapped P f [] a = tt
all_mapped P f (x ∷ xs) a = (a.0, all_mapped P f xs a.1)

-- ---- all pairs, in order

module _ {A : Type 0} where
  abbrev pub Pairs : (A → A → Type 0) → List A → Type 0
  Pairs R [] = Unit {0}
  Pairs R (r ∷ rs) = AllOf (R r) rs × Pairs R rs

  pub pairs_parts : (R : A → A → Type 0) (a b : List A) → Pairs R (a ++ b) → Pairs R a × Pairs R b × AllOf (λ x. AllOf (R x) b) a
  pairs_parts R [] b h = (tt, h, tt)
  pairs_parts R (x ∷ a) b h =
      let q = all_parts (R x) a b h.0 in
      let r = pairs_parts R a b h.1 in
      ((q.0, r.0), r.1, (q.1, r.2))

  pub pairs_append : (R : A → A → Type 0) (a b : List A) → Pairs R a → Pairs R b → AllOf (λ x. AllOf (R x) b) a → Pairs R (a ++ b)
  pairs_append R [] b p q c = q
  pairs_append R (x ∷ a) b p q c = (all_append (R x) a b p.0 c.0, pairs_append R a b p.1 q c.1)

  pub pairs_insert : (R : A → A → Type 0) (a : List A) (x : A) (b : List A) → Pairs R (a ++ b) → AllOf (λ r. R r x) a → AllOf (R x) b
      → Pairs R (a ++ x ∷ b)
  pairs_insert R [] x b p l h = (h, p)
  pairs_insert R (r ∷ a) x b p l h =
      let q = all_parts (R r) a b p.0 in (all_append (R r) a (x ∷ b) q.0 (l.0, q.1), pairs_insert R a x b p.1 l.1 h)

-- ---- members

module _ {A : Type 0} where
  pub data Mem (r : A) : List A → Type 0 where
    here : {rs : List A} → Mem r (r ∷ rs)
    there : {y : A} {rs : List A} → Mem r rs → Mem r (y ∷ rs)

  pub mem_all : (P : A → Type 0) {r : A} {rs : List A} → Mem r rs → AllOf P rs → P r
  mem_all P here a = a.0
  mem_all P (there m) a = mem_all P m a.1

  pub all_mem : (P : A → Type 0) (rs : List A) → ((r : A) → Mem r rs → P r) → AllOf P rs
  all_mem P [] f = tt
  all_mem P (r ∷ rs) f = (f r here, all_mem P rs (λ s m. f s (there m)))

  pub mem_keep : (f : A → Bool) {r : A} {rs : List A} → Mem r rs → f r ≡ true → Mem r (keep f rs)
  unfolding keep if'◌then◌else◌
  mem_keep f here h = rw h here
  mem_keep f (there {y} m) h = by (f y) (λ k. rw k (there (mem_keep f m h))) (λ k. rw k (mem_keep f m h))

  pub all_keep : (P : A → Type 0) (f : A → Bool) (rs : List A) → AllOf P rs → AllOf (λ r. (f r ≡ true) × P r) (keep f rs)
  unfolding keep if'◌then◌else◌
  all_keep P f [] a = tt
  all_keep P f (r ∷ rs) a = by (f r) (λ h. rw h ((h, a.0), all_keep P f rs a.1)) (λ h. rw h (all_keep P f rs a.1))

  -- what is kept passes the test, and is of the list
  pub kept_mem : (f : A → Bool) (rs : List A) → AllOf (λ r. (f r ≡ true) × Mem r rs) (keep f rs)
  kept_mem f rs = all_keep (λ r. Mem r rs) f rs (all_mem _ rs (λ r m. m))

  -- of two members: they are one, or either stands first
  pub mem_pairs : (R : A → A → Type 0) {X : Type 0} {a b : A} {rs : List A} → Mem a rs → Mem b rs → Pairs R rs → (a ≡ b → X) → (R a b → X)
      → (R b a → X) → X
  mem_pairs R here here p f g h = f refl
  mem_pairs R {a = a} here (there n) p f g h = g (mem_all (R a) n p.0)
  mem_pairs R {b = b} (there m) here p f g h = h (mem_all (R b) m p.0)
  mem_pairs R (there m) (there n) p f g h = mem_pairs R m n p.1 f g h

  pub pairs_map : (R S : A → A → Type 0) (rs : List A) → ((r q : A) → Mem r rs → Mem q rs → R r q → S r q) → Pairs R rs → Pairs S rs
  pairs_map R S [] f p = tt
  pairs_map R S (r ∷ rs) f p = (each rs (λ q m k. f r q here (there m) k) p.0, pairs_map R S rs (λ a b m n k. f a b (there m) (there n) k) p.1)
    where
      each : (qs : List A) → ((q : A) → Mem q qs → R r q → S r q) → AllOf (R r) qs → AllOf (S r) qs
      each [] g a = tt
      each (q ∷ qs) g a = (g q here a.0, each qs (λ z m k. g z (there m) k) a.1)

  pub pairs_both : (R S : A → A → Type 0) (rs : List A) → Pairs R rs → Pairs S rs → Pairs (λ a b. R a b × S a b) rs
  pairs_both R S [] p q = tt
  pairs_both R S (r ∷ rs) p q = (all_two (R r) (S r) (λ b. R r b × S r b) (λ b h k. (h, k)) rs p.0 q.0, pairs_both R S rs p.1 q.1)

  pub pairs_keep : (R : A → A → Type 0) (f : A → Bool) (rs : List A) → Pairs R rs → Pairs R (keep f rs)
  unfolding keep if'◌then◌else◌
  pairs_keep R f [] p = tt
  pairs_keep R f (r ∷ rs) p =
      by (f r)
      (λ h. rw h (all_map (λ q. (f q ≡ true) × R r q) (R r) (λ q k. k.1) (keep f rs) (all_keep (R r) f rs p.0), pairs_keep R f rs p.1))
      (λ h. rw h (pairs_keep R f rs p.1))

-- ---- empty or not

module _ {A : Type 0} where
  pub nonempty : (xs : List A) → 0 < length xs → is_empty xs ≡ false
  unfolding is_empty
  nonempty [] h = absurd (omega arith)
  nonempty (x ∷ xs) h = refl

  pub has_some : (xs : List A) → is_empty xs ≡ false → 0 < length xs
  unfolding is_empty
  has_some [] h = lie (sym h)
  has_some (x ∷ xs) h = omega arith

  pub nothing_left : (xs : List A) → is_empty xs ≡ true → xs ≡ []
  unfolding is_empty
  nothing_left [] h = refl
  nothing_left (x ∷ xs) h = lie h

  pub length_zero : (xs : List A) → length xs ≡ 0 → xs ≡ []
  length_zero [] e = refl
  length_zero (x ∷ xs) e = absurd (omega arith)

  pub length_insert : (a : List A) (x : A) (b : List A) → length (a ++ x ∷ b) ≡ suc (length (a ++ b))
  length_insert [] x b = refl
  length_insert (y ∷ a) x b = ap suc (length_insert a x b)

-- ---- searching

module _ {A : Type 0} (f : A → Bool) where
  pub first_passes : (xs : List A) (y : A) → first f xs ≡ some y → f y ≡ true
  unfolding first
  first_passes [] y e = never e
  first_passes (x ∷ xs) y e =
      by (f x) (λ h. let p : x ≡ y = some_eq (rw (h, first) at e) in ap f (sym p) ∙ h) (λ h. first_passes xs y (rw (h, first) at e))

  pub first_all : (P : A → Type 0) (xs : List A) (y : A) → first f xs ≡ some y → AllOf P xs → P y
  unfolding first
  first_all P [] y e a = never e
  first_all P (x ∷ xs) y e a =
      by (f x) (λ h. let k : x ≡ y = some_eq (rw (h, first) at e) in subst P k a.0) (λ h. first_all P xs y (rw (h, first) at e) a.1)

  pub last_mem : (xs : List A) (y : A) → last f xs ≡ some y → Mem y xs × (f y ≡ true)
  unfolding last if'◌then◌else◌
  last_mem [] y e = never e
  last_mem (x ∷ xs) y e =
      by-option (last f xs)
      (λ n. by (f x) (λ h. let k : x ≡ y = some_eq (rw (n, h) at e) in subst (λ z. Mem z (x ∷ xs) × (f z ≡ true)) k (here, h)) (λ h. never (rw (n, h) at e)))
      (λ z n. let k : z ≡ y = some_eq (rw (n, last) at e) in let r = last_mem xs z n in subst (λ w. Mem w (x ∷ xs) × (f w ≡ true)) k (there r.0, r.1))

  pub last_off : (xs : List A) → last f xs ≡ none → AllOf (λ r. f r ≡ false) xs
  unfolding last if'◌then◌else◌
  last_off [] e = tt
  last_off (x ∷ xs) e =
      by-option (last f xs)
      (λ n. by (f x) (λ h. never (sym (rw (n, h) at e))) (λ h. (h, last_off xs n)))
      (λ z n. never (sym (rw (n, last) at e)))

  pub last_any : (xs : List A) (y : A) → last f xs ≡ some y → any f xs ≡ true
  unfolding last any if'◌then◌else◌
  last_any [] y h = never h
  last_any (x ∷ xs) y h =
      by (f x) (λ k. rw (k, any)) (λ k. rw (k, any) (by-option (last f xs) (λ n. never (rw (n, k) at h)) (λ z n. last_any xs z n)))

  pub last_skip : (x : A) (xs : List A) → f x ≡ false → last f (x ∷ xs) ≡ last f xs
  unfolding last if'◌then◌else◌
  last_skip x xs k = by-option (last f xs) (λ n. rw (n, k)) (λ y n. rw (n, last))

  pub last_some : (x : A) (xs : List A) (y : A) → last f xs ≡ some y → last f (x ∷ xs) ≡ some y
  unfolding last
  last_some x xs y n = rw (n, last)

  pub last_here : (x : A) (xs : List A) → last f xs ≡ none → f x ≡ true → last f (x ∷ xs) ≡ some x
  unfolding last if'◌then◌else◌
  last_here x xs n k = rw (n, k)

  pub any_cons : (r : A) (rs : List A) → any f (r ∷ rs) ≡ (f r || any f rs)
  unfolding any
  any_cons r rs = by (f r) (λ h. rw (h, any)) (λ h. rw (h, any))

  pub any_off : (xs : List A) → AllOf (λ x. f x ≡ false) xs → any f xs ≡ false
  unfolding any
  any_off [] a = refl
  any_off (x ∷ xs) a = rw (a.0, any) (any_off xs a.1)

  pub off_any : (xs : List A) → any f xs ≡ false → AllOf (λ x. f x ≡ false) xs
  unfolding any
  off_any [] e = tt
  off_any (x ∷ xs) e = by (f x) (λ k. lie (sym (rw (k, any) at e))) (λ k. (k, off_any xs (rw (k, any) at e)))

-- ---- keeping and counting

module _ {A : Type 0} (f : A → Bool) where
  pub keep_length : (xs : List A) → length (keep f xs) ≤ length xs
  unfolding keep if'◌then◌else◌
  keep_length [] = omega arith
  keep_length (x ∷ xs) = let k = keep_length xs in by (f x) (λ h. rw h (omega arith)) (λ h. rw h (omega arith))

  pub keep_append : (a b : List A) → keep f (a ++ b) ≡ keep f a ++ keep f b
  unfolding keep if'◌then◌else◌
  keep_append [] b = refl
  keep_append (r ∷ a) b = by (f r) (λ h. rw (h, keep_append a b)) (λ h. rw (h, keep_append a b))

  pub keep_none : (rs : List A) → AllOf (λ r. f r ≡ false) rs → keep f rs ≡ []
  unfolding keep if'◌then◌else◌
  keep_none [] a = refl
  keep_none (r ∷ rs) a = rw a.0 (keep_none rs a.1)

  pub keep_all : (rs : List A) → AllOf (λ r. f r ≡ true) rs → keep f rs ≡ rs
  unfolding keep if'◌then◌else◌
  keep_all [] h = refl
  keep_all (r ∷ rs) h = rw (h.0, keep_all rs h.1)

  pub keep_cons : (r : A) (rs : List A) → f r ≡ true → keep f (r ∷ rs) ≡ r ∷ keep f rs
  unfolding keep if'◌then◌else◌
  keep_cons r rs h = rw h

  pub keep_past : (r : A) (rs : List A) → f r ≡ false → keep f (r ∷ rs) ≡ keep f rs
  unfolding keep if'◌then◌else◌
  keep_past r rs h = rw h

  pub many_append : (a b : List A) → how_many f (a ++ b) ≡ how_many f a + how_many f b
  unfolding how_many if'◌then◌else◌
  many_append [] b = omega arith
  many_append (x ∷ a) b = let e = many_append a b in by (f x) (λ h. rw h (omega arith)) (λ h. rw h e)

  pub many_none : (rs : List A) → AllOf (λ r. f r ≡ false) rs → how_many f rs ≡ 0
  unfolding how_many if'◌then◌else◌
  many_none [] h = refl
  many_none (r ∷ rs) h = rw h.0 (many_none rs h.1)

  pub many_insert : (a : List A) (x : A) (b : List A) → f x ≡ false → how_many f (a ++ x ∷ b) ≡ how_many f (a ++ b)
  unfolding how_many if'◌then◌else◌
  many_insert [] x b h = rw h
  many_insert (y ∷ a) x b h = rw (many_insert a x b h)

  pub first_none : (xs : List A) → first f xs ≡ none → how_many f xs ≡ 0
  unfolding first how_many if'◌then◌else◌
  first_none [] e = refl
  first_none (x ∷ xs) e = by (f x) (λ h. never (sym (rw (h, first) at e))) (λ h. rw h (first_none xs (rw (h, first) at e)))

  pub any_many : (rs : List A) → any f rs ≡ ltb 0 (how_many f rs)
  unfolding any how_many if'◌then◌else◌
  any_many [] = refl
  any_many (r ∷ rs) = by (f r) (λ h. rw (h, any) (sym (le_true 1 (suc (how_many f rs)) (omega arith)))) (λ h. rw (h, any) (any_many rs))

pub many_ext : {A : Type 0} (f g : A → Bool) (rs : List A) → AllOf (λ r. f r ≡ g r) rs → how_many f rs ≡ how_many g rs
unfolding how_many if'◌then◌else◌
many_ext f g [] a = refl
many_ext f g (r ∷ rs) a = rw (a.0, many_ext f g rs a.1)

pub any_keep : {A : Type 0} (f g : A → Bool) (rs : List A) → any f (keep g rs) ≡ false → AllOf (λ r. g r ≡ true → f r ≡ false) rs
unfolding any keep if'◌then◌else◌
any_keep f g [] e = tt
any_keep f g (r ∷ rs) e =
    by (g r)
    (λ h. by (f r) (λ k. lie (sym (rw (h, k, any) at e))) (λ k. (λ u. k, any_keep f g rs (rw (h, k, any) at e))))
    (λ h. (λ u. lie (sym h ∙ u), any_keep f g rs (rw h at e)))

-- ---- numbers in a list

pub not_in : (b e : ℕ) (es : List ℕ) → is_in b (e ∷ es) ≡ false → (eqb b e ≡ false) × (is_in b es ≡ false)
unfolding is_in any
not_in b e es h = by (eqb b e) (λ k. lie (sym (rw (k, any) at h))) (λ k. (k, rw (k, any) at h))

pub not_in_all : (b : ℕ) (es : List ℕ) → is_in b es ≡ false → AllOf (λ e. eqb e b ≡ false) es
not_in_all b [] h = tt
not_in_all b (e ∷ es) h = let n = not_in b e es h in (eqb_sym b e n.0, not_in_all b es n.1)

pub in_append : (x : ℕ) (us bs : List ℕ) → is_in x (us ++ bs) ≡ (is_in x us || is_in x bs)
unfolding is_in any
in_append x [] bs = refl
in_append x (a ∷ us) bs = by (eqb x a) (λ h. rw (h, any)) (λ h. rw (h, any) (in_append x us bs))

pub in_here : (x y : ℕ) (ys : List ℕ) → eqb x y ≡ true → is_in x (y ∷ ys) ≡ true
unfolding is_in any
in_here x y ys h = rw (h, any)

pub in_past : (x y : ℕ) (ys : List ℕ) → eqb x y ≡ false → is_in x (y ∷ ys) ≡ is_in x ys
unfolding is_in any
in_past x y ys h = rw (h, any)

pub in_one : (x b : ℕ) → eqb x b ≡ false → is_in x (b ∷ []) ≡ false
unfolding is_in any
in_one x b h = rw (h, any)

pub in_head : (x : ℕ) (es : List ℕ) → is_in x (x ∷ es) ≡ true
in_head x es = in_here x x es (eqb_self x)

pub in_weak : (x e : ℕ) (es : List ℕ) → is_in x es ≡ true → is_in x (e ∷ es) ≡ true
in_weak x e es h = by (eqb x e) (λ k. in_here x e es k) (λ k. in_past x e es k ∙ h)

pub in_all : (P : ℕ → Type 0) (x : ℕ) (es : List ℕ) → is_in x es ≡ true → AllOf P es → P x
unfolding is_in any
in_all P x [] h a = lie h
in_all P x (e ∷ es) h a = by (eqb x e) (λ k. subst P (sym (eqb-true x e k)) a.0) (λ k. in_all P x es (rw (k, any) at h) a.1)

pub all_in : (P : ℕ → Type 0) (ts : List ℕ) → ((x : ℕ) → is_in x ts ≡ true → P x) → AllOf P ts
all_in P [] f = tt
all_in P (t ∷ ts) f = (f t (in_head t ts), all_in P ts (λ x h. f x (in_weak x t ts h)))

pub in_keep : (x : ℕ) (f : ℕ → Bool) (os : List ℕ) → is_in x (keep f os) ≡ (is_in x os && f x)
unfolding is_in any keep if'◌then◌else◌
in_keep x f [] = refl
in_keep x f (o ∷ os) =
    let r = in_keep x f os in
    by (eqb x o)
    (λ e. let q = eqb-true x o e in
    by (f o) (λ k. rw (k, e, any) (sym (ap f q ∙ k)))
    (λ k. let n : f x ≡ false = ap f q ∙ k in rw (k, e, any) (r ∙ ap (λ z. is_in x os && z) n ∙ and_no (is_in x os) ∙ sym n)))
    (λ e. by (f o) (λ k. rw (k, e, any) r) (λ k. rw (k, e, any) r))

-- no more pass than there are
pub many_length : {A : Type 0} (f : A → Bool) (xs : List A) → how_many f xs ≤ length xs
unfolding how_many if'◌then◌else◌
many_length f [] = omega arith
many_length f (x ∷ xs) = let k = many_length f xs in by (f x) (λ h. rw h (omega arith)) (λ h. rw h (omega arith))

-- ---- tests in a list

pub every_cons : (b : Bool) (bs : List Bool) → b ≡ true → every (b ∷ bs) ≡ every bs
unfolding every
every_cons b bs e = rw e

pub every_stop : (b : Bool) (bs : List Bool) → b ≡ false → every (b ∷ bs) ≡ false
unfolding every
every_stop b bs e = rw e

pub every_one : (b : Bool) → every (b ∷ []) ≡ b
unfolding every
every_one b = and_yes b

-- tests joined from the left
abbrev pub joined : Bool → List Bool → Bool
joined b [] = b
joined b (c ∷ cs) = joined (b && c) cs

pub joined_every : (b : Bool) (bs : List Bool) → joined b bs ≡ every (b ∷ bs)
unfolding every
joined_every b [] = sym (and_yes b)
joined_every b (c ∷ cs) = joined_every (b && c) cs ∙ and_assoc b c (every cs)

pub or_move : (p q u : Bool) → ((p || q) || u) ≡ (q || (p || u))
or_move true true u = refl
or_move true false u = refl
or_move false q u = refl

pub empty_length : (p : List ℕ) → is_empty p ≡ eqb (length p) 0
unfolding is_empty
empty_length [] = refl
empty_length (x ∷ p) = sym (ne_eqb (suc (length p)) 0 (λ e. omega arith))

pub sum_append : {A : Type 0} (g : A → ℕ) (xs ys : List A) → sum g (xs ++ ys) ≡ sum g xs + sum g ys
unfolding sum
sum_append g [] ys = omega arith
sum_append g (x ∷ xs) ys = let e = sum_append g xs ys in omega arith

pub any_there : {A : Type 0} (ts : List A) → not (is_empty ts) ≡ leb 1 (length ts)
unfolding is_empty
any_there [] = refl
any_there (x ∷ ts) = sym (le-leb 1 (suc (length ts)) (omega arith))
