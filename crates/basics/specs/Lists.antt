-- Lists by index: made, changed in one place or in a part, and searched.
use Rattle.std.specs.Prelude.{ℕ, zero, suc, ◌+◌, Bool, cond, List, [], ◌∷◌, ◌++◌, length, take, drop}

-- f i, f (i + 1), .., n of them
abbrev pub tab : {A : Type 0} → (ℕ → A) → ℕ → ℕ → List A
tab f i zero = []
tab f i (suc n) = f i ∷ tab f (suc i) n

-- x before element i
abbrev pub insert_at : {A : Type 0} → ℕ → A → List A → List A
insert_at i x xs = take i xs ++ x ∷ drop i xs

-- without element i
abbrev pub remove_at : {A : Type 0} → ℕ → List A → List A
remove_at i xs = take i xs ++ drop (i + 1) xs

-- s, with xs in the place of its elements from index at on
unfoldable pub over : List ℕ → ℕ → List ℕ → List ℕ
over s at xs = take at s ++ (xs ++ drop (at + length xs) s)

-- the index of the first that passes the test, or the length
unfoldable pub first_index : {A : Type 0} → (A → Bool) → List A → ℕ
first_index f [] = 0
first_index f (x ∷ xs) = cond (f x) 0 (suc (first_index f xs))

-- 1 + the index of the last that passes the test, or 0
unfoldable pub last_index : {A : Type 0} → (A → Bool) → List A → ℕ
last_index f [] = 0
last_index f (x ∷ xs) = elim (last_index f xs) [ zero ↦ cond (f x) 1 0 | suc k ↦ suc (suc k) ]
