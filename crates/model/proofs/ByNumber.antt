-- Commit and abort by number, a form between the rules, which go by place, and what becomes of the rows (RowAfter): a plan of operations on tuples by
-- number, made from the live rows. An operation on a number is the rule's at the number's place (Places). ByPlace shows that on tuples that rise and
-- have distinct numbers the plan by number is the plan by place.
use Rattle.basics.proofs.Kit.{◌≡◌, Bool, true, false, ◌&&◌, not, List, [], ◌∷◌, ◌++◌, map, ℕ, eqb}
use Rattle.basics.specs.Basics.{if'◌then◌else◌, any, keep}
use Rattle.basics.specs.Lists.{first_index}
use Rattle.image_rows.specs.Rows.{Row, number, is_own, is_at}
use Rattle.model.specs.State.{Held}

-- ---- plans

-- an operation on the tuple of that number
pub data Op : Type 0 where
  to_commit to_remove : ℕ → Op

-- the row of number n
unfoldable pub is_row : ℕ → Row → Bool
is_row n r = eqb (number r) n

-- all of these are removed, in their order
unfoldable pub remove_all : List Row → List Op
remove_all [] = []
remove_all (r ∷ rs) = to_remove (number r) ∷ remove_all rs

-- r: the transaction's newest version of a key; vs: every version of it, by rising number. A delete mark removes them all; else the
-- newest is committed and then the others are removed
unfoldable pub plan_key : Row → List Row → List Op
plan_key r vs = if' r.1.mark then remove_all vs else to_commit (number r) ∷ remove_all (keep (λ y. not (is_row (number r) y)) vs)

-- the transaction's own version of key k of table t
unfoldable pub own_at : ℕ → ℕ → ℕ → Row → Bool
own_at tx t k y = is_own tx y && is_at t k y

-- along the rows, by table, then key: at the last own one of each key
unfoldable pub plan_rows : ℕ → List Row → List Row → List Op
plan_rows tx everything [] = []
plan_rows tx everything (x ∷ xs) =
    (if' is_own tx x && not (any (own_at tx x.0 x.1.key) xs) then plan_key x (keep (is_at x.0 x.1.key) everything) else [])
    ++ plan_rows tx everything xs

module _ (tx : ℕ) (everything : List Row) (x : Row) (xs : List Row) where
  pub plan_skip : (is_own tx x && not (any (own_at tx x.0 x.1.key) xs)) ≡ false → plan_rows tx everything (x ∷ xs) ≡ plan_rows tx everything xs
  unfolding plan_rows if'◌then◌else◌
  plan_skip h = rw h

  pub plan_take : (is_own tx x && not (any (own_at tx x.0 x.1.key) xs)) ≡ true
      → plan_rows tx everything (x ∷ xs) ≡ plan_key x (keep (is_at x.0 x.1.key) everything) ++ plan_rows tx everything xs
  unfolding plan_rows if'◌then◌else◌
  plan_take h = rw h

-- ---- places of numbers

-- the numbers of the tuples of a page
abbrev pub numbers_on : List Held → List ℕ
numbers_on hs = map (λ h. h.tuple.number) hs

-- the place of the first n, the length if there is none
abbrev pub place_in : ℕ → List ℕ → ℕ
place_in n xs = first_index (λ x. eqb x n) xs
