-- Loops that look at every number of a group; the numbers of a group are numbers of the column that it is of.
use Rattle.basics.proofs.Kit.{◌≡◌, refl, sym, ap, ◌∙◌, subst, Bool, true, false, cond, ◌||◌, List, ℕ, ◌+◌, ◌*◌, ◌≤◌, ◌<◌, ◌-◌, arith}
use mir.Val.{bool_byte}
use Rattle.basics.specs.Basics.{any}
use Rattle.basics.specs.Lists.{tab}
use Rattle.memory_bytes.specs.Bytes.{le2, le4, column2, column4}
use Rattle.basics.proofs.Tabs.{tab_cong}
use Rattle.basics.proofs.Searches.{any_iteration, any_end}

-- ---- all numbers from a up to n are tested

-- the answer for all of them is hit, or that for those from j on
pub record AnyFrom {A : Type 0} (f : A → Bool) (g : ℕ → A) (a n : ℕ) (hit : Bool) (j : ℕ) : Type 0 where
  pub most : j ≤ n
  pub same : any f (tab g a (n - a)) ≡ (hit || any f (tab g j (n - j)))

module _ {A : Type 0} {f : A → Bool} {g : ℕ → A} {a n : ℕ} where
  pub any_starts : a ≤ n → AnyFrom f g a n false a
  any_starts h = record { most = h; same = refl }

  module _ {hit : Bool} {j : ℕ} (p : AnyFrom f g a n hit j) where
    pub any_iterates : {r : A} → j < n → r ≡ g j → AnyFrom f g a n (hit || f r) (j + 1)
    any_iterates h e = record { most = omega arith; same = any_iteration f g j n h hit p.same e }

    -- where the test's answer was read
    pub any_next : {b : Bool} → j < n → b ≡ f (g j) → AnyFrom f g a n (hit || b) (j + 1)
    any_next h e = subst (λ z. AnyFrom f g a n (hit || z) (j + 1)) (sym e) (any_iterates h refl)

    pub any_ends : n ≤ j → hit ≡ any f (tab g a (n - a))
    any_ends h = any_end f g j n h hit p.same

-- ---- a group's numbers are numbers of the column

module _ (m : List ℕ) (base i k : ℕ) where
  pub group2 : tab (column2 m (base + i * 2)) 0 k ≡ tab (column2 m base) i k
  group2 = tab_cong (column2 m (base + i * 2)) (column2 m base) 0 i k (λ j h. ap (le2 m) (omega arith))

  pub group4 : tab (column4 m (base + i * 4)) 0 k ≡ tab (column4 m base) i k
  group4 = tab_cong (column4 m (base + i * 4)) (column4 m base) 0 i k (λ j h. ap (le4 m) (omega arith))

  module _ (f : ℕ → Bool) {r b : Bool} where
    pub any_group2 : r ≡ any f (tab (column2 m (base + i * 2)) 0 k) → r ≡ b → any f (tab (column2 m base) i k) ≡ b
    any_group2 e t = ap (any f) (sym group2) ∙ sym e ∙ t

    pub any_group4 : r ≡ any f (tab (column4 m (base + i * 4)) 0 k) → r ≡ b → any f (tab (column4 m base) i k) ≡ b
    any_group4 e t = ap (any f) (sym group4) ∙ sym e ∙ t

-- ---- a test as a number

-- a bool as the number that the code makes of it
pub as_number : (b : Bool) {v : ℕ} → v ≡ bool_byte b → v ≡ cond b 1 0
as_number true e = e
as_number false e = e
