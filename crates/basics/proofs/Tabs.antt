-- Laws of lists by index (`tab`): length, parts, elements, one element more, less or changed.
use Rattle.basics.proofs.Kit.{sym, subst, drop-cons, length-take, length-drop, get_or-take, get_or-drop}
use Rattle.basics.proofs.Kit.{◌≡◌, refl, ap, ◌∙◌, List, ◌∷◌, ◌++◌, ℕ, suc, ◌+◌, ◌≤◌, ◌<◌, zero, ◌-◌, suc-le-suc, add-zero, zero-add, suc-add}
use Rattle.basics.proofs.Kit.{le_of_suc-le-suc, not-suc-le-zero, zero-lt-suc, length, take, drop, get_or, set, set_split, ext_get_or, arith}
use Rattle.basics.proofs.Kit.{[], map}
use Rattle.basics.specs.Lists.{tab, insert_at, remove_at}
use Rattle.basics.specs.Basics.{AllOf}
pub use Rattle.basics.proofs.Numbers.{lt_or_ge}

pub length_tab : {A : Type 0} (f : ℕ → A) (i n : ℕ) → length (tab f i n) ≡ n
length_tab f i zero = refl
length_tab f i (suc n) = ap suc (length_tab f (suc i) n)

-- equal element by element
pub tab_cong : {A : Type 0} (f g : ℕ → A) (i j n : ℕ) → ((k : ℕ) → k < n → f (i + k) ≡ g (j + k)) → tab f i n ≡ tab g j n
tab_cong f g i j zero h = refl
tab_cong f g i j (suc n) h =
    let first : f i ≡ g j = rw (add-zero, add-zero) at (h zero (zero-lt-suc n)) in
    let rest : tab f (suc i) n ≡ tab g (suc j) n =
    tab_cong f g (suc i) (suc j) n
    (λ k b. ap f (omega arith) ∙ h (suc k) (suc-le-suc b) ∙ ap g (omega arith)) in
    cc

-- the same places, each between its bounds
pub tab_same : {A : Type 0} (f g : ℕ → A) (i n : ℕ) → ((k : ℕ) → i ≤ k → k < i + n → f k ≡ g k) → tab f i n ≡ tab g i n
tab_same f g i n h = tab_cong f g i i n (λ k l. h (i + k) (omega arith) (omega arith))

pub get_d_tab : {A : Type 0} (f : ℕ → A) (i n k : ℕ) (d : A) → k < n → get_or (tab f i n) k d ≡ f (i + k)
get_d_tab f i zero k d h = absurd (not-suc-le-zero h)
get_d_tab f i (suc n) zero d h = rw add-zero
get_d_tab f i (suc n) (suc k) d h = get_d_tab f (suc i) n k d (le_of_suc-le-suc h) ∙ ap f (omega arith)

pub tab_at : {A : Type 0} (f : ℕ → A) (n k : ℕ) (d : A) → k < n → get_or (tab f 0 n) k d ≡ f k
tab_at f n k d h = get_d_tab f 0 n k d h ∙ ap f (zero-add k)

-- by the place of the element
pub tab_within : {A : Type 0} (f : ℕ → A) (i n k : ℕ) (d : A) → i ≤ k → k < i + n → get_or (tab f i n) (k - i) d ≡ f k
tab_within f i n k d l h = let e : i + (k - i) ≡ k = omega arith in get_d_tab f i n (k - i) d (omega arith) ∙ ap f e

pub tab_add : {A : Type 0} (f : ℕ → A) (i k n : ℕ) → tab f i (k + n) ≡ tab f i k ++ tab f (i + k) n
tab_add f i zero n = rw (zero-add, add-zero)
tab_add {A} f i (suc k) n =
    ap (tab f i) (suc-add k n)
    ∙ ap (λ (r : List A). f i ∷ r) (tab_add f (suc i) k n ∙ ap (λ (z : ℕ). tab f (suc i) k ++ tab f z n) (omega arith))

pub take_tab : {A : Type 0} (f : ℕ → A) (i k n : ℕ) → k ≤ n → take k (tab f i n) ≡ tab f i k
take_tab f i zero n h = refl
take_tab f i (suc k) zero h = absurd (not-suc-le-zero h)
take_tab {A} f i (suc k) (suc n) h = ap (λ (r : List A). f i ∷ r) (take_tab f (suc i) k n (le_of_suc-le-suc h))

pub drop_tab : {A : Type 0} (f : ℕ → A) (i k n : ℕ) → k ≤ n → drop k (tab f i n) ≡ tab f (i + k) (n - k)
drop_tab f i zero n h = let e : n - 0 ≡ n = omega arith in rw (add-zero, e)
drop_tab f i (suc k) zero h = absurd (not-suc-le-zero h)
drop_tab f i (suc k) (suc n) h =
    let e : suc i + k ≡ i + suc k = omega arith in
    let e2 : n - k ≡ suc n - suc k = omega arith in
    drop_tab f (suc i) k n (le_of_suc-le-suc h) ∙ ap (λ (z : ℕ). tab f z (n - k)) e ∙ ap (tab f (i + suc k)) e2

-- one element more, at place at
pub tab_insert : {A : Type 0} (f g : ℕ → A) (n at : ℕ) (x : A) → at ≤ n → ((j : ℕ) → j < at → g j ≡ f j) → g at ≡ x
    → ((j : ℕ) → at ≤ j → j < n → g (suc j) ≡ f j) → tab g 0 (n + 1) ≡ insert_at at x (tab f 0 n)
tab_insert {A} f g n at x h below here moved =
    let e : n + 1 ≡ at + suc (n - at) = omega arith in
    let z : 0 + at ≡ at = omega arith in
    let a : tab g 0 at ≡ tab f 0 at = tab_cong g f 0 0 at (λ k b. below (0 + k) (omega arith)) in
    let b : tab g (suc (0 + at)) (n - at) ≡ tab f (0 + at) (n - at) =
    tab_cong g f (suc (0 + at)) (0 + at) (n - at) (λ k b. ap g (omega arith) ∙ moved (0 + at + k) (omega arith) (omega arith)) in
    let w : g (0 + at) ≡ x = ap g z ∙ here in
    let t : take at (tab f 0 n) ≡ tab f 0 at = take_tab f 0 at n h in
    let d : drop at (tab f 0 n) ≡ tab f (0 + at) (n - at) = drop_tab f 0 at n h in
    ap (tab g 0) e ∙ tab_add g 0 at (suc (n - at)) ∙ cc

-- one element less, that at place at
pub tab_remove : {A : Type 0} (f g : ℕ → A) (n at : ℕ) → at < n → ((j : ℕ) → j < at → g j ≡ f j)
    → ((j : ℕ) → at ≤ j → suc j < n → g j ≡ f (suc j)) → tab g 0 (n - 1) ≡ remove_at at (tab f 0 n)
tab_remove {A} f g n at h below moved =
    let e : n - 1 ≡ at + (n - (at + 1)) = omega arith in
    let a : tab g 0 at ≡ tab f 0 at = tab_cong g f 0 0 at (λ k b. below (0 + k) (omega arith)) in
    let b : tab g (0 + at) (n - (at + 1)) ≡ tab f (0 + (at + 1)) (n - (at + 1)) =
    tab_cong g f (0 + at) (0 + (at + 1)) (n - (at + 1)) (λ k b. moved (0 + at + k) (omega arith) (omega arith) ∙ ap f (omega arith)) in
    let t : take at (tab f 0 n) ≡ tab f 0 at = take_tab f 0 at n (omega arith) in
    let d : drop (at + 1) (tab f 0 n) ≡ tab f (0 + (at + 1)) (n - (at + 1)) = drop_tab f 0 (at + 1) n (omega arith) in
    ap (tab g 0) e ∙ tab_add g 0 at (n - (at + 1)) ∙ cc

-- another element at place at
pub tab_set : {A : Type 0} (f g : ℕ → A) (n at : ℕ) (x : A) → at < n → ((j : ℕ) → j < at → g j ≡ f j) → g at ≡ x
    → ((j : ℕ) → at < j → j < n → g j ≡ f j) → tab g 0 n ≡ set (tab f 0 n) at x
tab_set f g n at x h below here above =
    let l : length (tab f 0 n) ≡ n = length_tab f 0 n in
    let e : n ≡ at + suc (n - suc at) = omega arith in
    let z : 0 + at ≡ at = omega arith in
    let q : 0 + suc at ≡ suc (0 + at) = omega arith in
    let a : tab g 0 at ≡ tab f 0 at = tab_cong g f 0 0 at (λ k b. below (0 + k) (omega arith)) in
    let b : tab g (suc (0 + at)) (n - suc at) ≡ tab f (suc (0 + at)) (n - suc at) =
    tab_cong g f (suc (0 + at)) (suc (0 + at)) (n - suc at) (λ k b. above (suc (0 + at) + k) (omega arith) (omega arith)) in
    let w : g (0 + at) ≡ x = ap g z ∙ here in
    let t : take at (tab f 0 n) ≡ tab f 0 at = take_tab f 0 at n (omega arith) in
    let d : drop (suc at) (tab f 0 n) ≡ tab f (0 + suc at) (n - suc at) = drop_tab f 0 (suc at) n h in
    ap (tab g 0) e ∙ tab_add g 0 at (suc (n - suc at)) ∙ cc (set_split (tab f 0 n) at x (omega arith))

-- a list by its own elements
pub tab_self : (xs : List ℕ) → tab (λ k. get_or xs k 0) 0 (length xs) ≡ xs
tab_self xs =
    ext_get_or 0 (tab (λ k. get_or xs k 0) 0 (length xs)) xs (length_tab (λ k. get_or xs k 0) 0 (length xs))
    (λ i h. tab_at (λ k. get_or xs k 0) (length xs) i 0 (omega (arith, length_tab (λ k. get_or xs k 0) 0 (length xs))))

-- one more element
-- a list that has g at each of its indices
pub tab_is : (g : ℕ → ℕ) (xs : List ℕ) (n : ℕ) → length xs ≡ n → ((j : ℕ) → j < n → get_or xs j 0 ≡ g j) → xs ≡ tab g 0 n
tab_is g xs n l h = sym (tab_self xs) ∙ ap (tab (λ k. get_or xs k 0) 0) l ∙ tab_same _ g 0 n (λ k a b. h k (omega (arith, b)))

pub tab_push : {A : Type 0} (f g : ℕ → A) (n : ℕ) (x : A) → g n ≡ x → ((j : ℕ) → j < n → g j ≡ f j) → tab g 0 (n + 1) ≡ tab f 0 n ++ x ∷ []
tab_push f g n x here other =
    let a : tab g 0 n ≡ tab f 0 n = tab_cong g f 0 0 n (λ k q. other (0 + k) (omega arith)) in
    let w : g (0 + n) ≡ x = ap g (zero-add n) ∙ here in
    tab_add g 0 n 1 ∙ cc

pub map_tab : {A B : Type 0} (f : A → B) (u : ℕ → A) (i n : ℕ) → tab (λ k. f (u k)) i n ≡ map f (tab u i n)
map_tab f u i zero = refl
map_tab f u i (suc n) = ap (λ (l : List _). f (u i) ∷ l) (map_tab f u (suc i) n)

-- every element by its index
pub all_by : {A : Type 0} (P : A → Type 0) (xs : List A) (d : A) → ((i : ℕ) → i < length xs → P (get_or xs i d)) → AllOf P xs
all_by P [] d h = tt
all_by P (x ∷ xs) d h = (h 0 (omega arith), all_by P xs d (λ i l. h (suc i) (omega arith)))

-- every element of a list by index
pub all_tab : {A : Type 0} (P : A → Type 0) (f : ℕ → A) (i n : ℕ) → ((j : ℕ) → i ≤ j → j < i + n → P (f j)) → AllOf P (tab f i n)
all_tab P f i zero h = tt
all_tab P f i (suc n) h = (h i (omega arith) (omega arith), all_tab P f (suc i) n (λ j x y. h j (omega arith) (omega arith)))

-- every element from a on, up to e or up to the end, by its index
module _ {A : Type 0} (P : A → Type 0) (xs : List A) (d : A) (a : ℕ) where
  pub all_between : (e : ℕ) → ((j : ℕ) → a ≤ j → j < e → j < length xs → P (get_or xs j d)) → AllOf P (take (e - a) (drop a xs))
  all_between e h =
      let l = length-take (e - a) (drop a xs) in
      let n = length-drop a xs in
      all_by P (take (e - a) (drop a xs)) d
      (λ j b. subst P (sym (get_or-take (e - a) (drop a xs) j d (omega arith) ∙ get_or-drop a xs j d)) (h (a + j) (omega arith) (omega arith) (omega arith)))

  pub all_behind : ((j : ℕ) → a ≤ j → j < length xs → P (get_or xs j d)) → AllOf P (drop a xs)
  all_behind h = let n = length-drop a xs in all_by P (drop a xs) d (λ j b. subst P (sym (get_or-drop a xs j d)) (h (a + j) (omega arith) (omega arith)))

-- the elements by index
pub tab_part : {A : Type 0} (xs : List A) (d : A) (i n : ℕ) → i + n ≤ length xs → tab (λ k. get_or xs k d) i n ≡ take n (drop i xs)
tab_part xs d i zero h = refl
tab_part xs d i (suc n) h = ap (λ z. get_or xs i d ∷ z) (tab_part xs d (suc i) n (omega arith)) ∙ sym (ap (take (suc n)) (drop-cons xs i d (omega arith)))

-- elements a to b of f are k elements of g
pub splice : {A : Type 0} (f g : ℕ → A) (n n' a k b : ℕ) → a ≤ b → b ≤ n → n' ≡ a + k + (n - b) → ((j : ℕ) → j < a → g j ≡ f j)
    → ((j : ℕ) → j < n - b → g (a + k + j) ≡ f (b + j)) → tab g 0 n' ≡ take a (tab f 0 n) ++ (tab g a k ++ drop b (tab f 0 n))
splice {A} f g n n' a k b h l e before behind =
    let x : tab g 0 a ≡ take a (tab f 0 n) =
    tab_cong g f 0 0 a (λ j q. before (0 + j) (omega arith)) ∙ sym (take_tab f 0 a n (omega arith)) in
    let y : tab g (a + k) (n - b) ≡ drop b (tab f 0 n) =
    tab_cong g f (a + k) b (n - b) behind ∙ ap (λ (z : ℕ). tab f z (n - b)) (sym (zero-add b)) ∙ sym (drop_tab f 0 b n l) in
    let q : a + k + (n - b) ≡ a + (k + (n - b)) = omega arith in
    ap (tab g 0) (e ∙ q)
    ∙ tab_add g 0 a (k + (n - b))
    ∙ ap (λ (z : ℕ). tab g 0 a ++ tab g z (k + (n - b))) (zero-add a)
    ∙ ap (λ (z : List A). tab g 0 a ++ z) (tab_add g a k (n - b))
    ∙ (λ i. x i ++ (tab g a k ++ y i))
