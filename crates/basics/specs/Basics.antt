-- A choice, and the searches and tests on lists that the definitions above use.
use Rattle.std.specs.Prelude.{ℕ, zero, suc, ◌+◌, Bool, true, false, not, ◌&&◌, cond, List, [], ◌∷◌, eqb, leb, ltb}
use Rattle.std.proofs.Math.Option.{Option, none, some}

infixr 5 if'◌then◌else◌
-- both branches are computed: where one of them is a recursive call that must wait, write `elim test [ true ↦ .. | false ↦ .. ]`
unfoldable pub if'◌then◌else◌ {ℓ} : {X : Type ℓ} → Bool → X → X → X
if'◌then◌else◌ true x y = x
if'◌then◌else◌ false x y = y

module _ {A : Type 0} where
  -- some element passes
  unfoldable pub any : (A → Bool) → List A → Bool
  any f [] = false
  any f (x ∷ xs) = elim (f x) [ true ↦ true | false ↦ any f xs ]

  -- every element passes
  unfoldable pub all : (A → Bool) → List A → Bool
  all f [] = true
  all f (x ∷ xs) = f x && all f xs

  -- each neighbouring pair passes
  unfoldable pub paired : (A → A → Bool) → List A → Bool
  paired f [] = true
  paired f (x ∷ []) = true
  paired f (x ∷ y ∷ ys) = f x y && paired f (y ∷ ys)

  -- the elements that pass
  unfoldable pub keep : (A → Bool) → List A → List A
  keep f [] = []
  keep f (x ∷ xs) = if' f x then x ∷ keep f xs else keep f xs

  -- how many elements pass
  unfoldable pub how_many : (A → Bool) → List A → ℕ
  how_many f [] = 0
  how_many f (x ∷ xs) = if' f x then suc (how_many f xs) else how_many f xs

  -- the first that passes
  unfoldable pub first : (A → Bool) → List A → Option A
  first f [] = none
  first f (x ∷ xs) = elim (f x) [ true ↦ some x | false ↦ first f xs ]

  -- the last that passes
  unfoldable pub last : (A → Bool) → List A → Option A
  last f [] = none
  last f (x ∷ xs) = elim (last f xs) [ some y ↦ some y | none ↦ if' f x then some x else none ]

  -- it has no element
  unfoldable pub is_empty : List A → Bool
  is_empty [] = true
  is_empty (x ∷ xs) = false

  -- it has a value
  unfoldable pub is_some : Option A → Bool
  is_some none = false
  is_some (some a) = true

  -- the sum of what f gives
  unfoldable pub sum : (A → ℕ) → List A → ℕ
  sum f [] = 0
  sum f (x ∷ xs) = f x + sum f xs

-- 1 for true, 0 for false
abbrev pub one_if : Bool → ℕ
one_if b = cond b 1 0

-- every element has the property
abbrev pub AllOf : {A : Type 0} → (A → Type 0) → List A → Type 0
AllOf P [] = Unit {0}
AllOf P (x ∷ xs) = P x × AllOf P xs

-- every test of the list holds
unfoldable pub every : List Bool → Bool
every [] = true
every (b ∷ bs) = b && every bs

-- n stands in the list
unfoldable pub is_in : ℕ → List ℕ → Bool
is_in n ns = any (eqb n) ns

-- no number stands twice
unfoldable pub distinct : List ℕ → Bool
distinct [] = true
distinct (x ∷ xs) = not (is_in x xs) && distinct xs

-- k numbers from n on
unfoldable pub from : ℕ → ℕ → List ℕ
from n zero = []
from n (suc k) = n ∷ from (suc n) k

-- x before the first number that is not below it
unfoldable pub inserted : ℕ → List ℕ → List ℕ
inserted x [] = x ∷ []
inserted x (y ∷ ys) = if' leb x y then x ∷ y ∷ ys else y ∷ inserted x ys

-- the numbers by rising size, each as often as it stands
unfoldable pub sorted : List ℕ → List ℕ
sorted [] = []
sorted (x ∷ xs) = inserted x (sorted xs)

-- the place of x among them: how many are below it
abbrev pub rank_in : List ℕ → ℕ → ℕ
rank_in xs x = how_many (λ y. ltb y x) xs

-- opens all of this module: `unfolding basics`
unfoldable pub basics : ℕ
unfolding if'◌then◌else◌ any all paired keep how_many first last is_empty is_some sum every is_in distinct from inserted sorted
basics = 0
