-- Cases on a test or an option; a property of every element; what a test that came out true or false says.
use mathlib.Core.Path.{◌≡◌, refl, sym}
use Prim.Native.Nat.{ℕ, ◌≤◌}
use native.Mathlib.Omega.{arith}
use mathlib.Core.Bool.{Bool, true, false, ◌&&◌, ◌||◌}
use mathlib.Core.Option.{Option, none, some}
pub use Rattle.basics.specs.Basics.{AllOf}
use Rattle.basics.specs.Basics.{one_if}

-- a test is true or false
pub by {ℓ} : {X : Type ℓ} (b : Bool) → (b ≡ true → X) → (b ≡ false → X) → X
by true f g = f refl
by false f g = g refl

pub by-option {ℓ} : {A : Type 0} {X : Type ℓ} (o : Option A) → (o ≡ none → X) → ((a : A) → o ≡ some a → X) → X
by-option none f g = f refl
by-option (some a) f g = g a refl

-- one constructor is not another
pub clash {ℓ} : {X : Type ℓ} → ◌≡◌ {A = ℕ} 0 1 → X
clash z = absurd (omega arith)

pub never {ℓ} : {A : Type 0} {X : Type ℓ} {x : A} → none ≡ some x → X
never e = clash cc

pub lie {ℓ} : {X : Type ℓ} → false ≡ true → X
lie e = clash cc

pub and_true : (a b : Bool) → (a && b) ≡ true → (a ≡ true) × (b ≡ true)
and_true true b e = (refl, e)
and_true false b e = lie e

-- a test that holds, with two outcomes
pub or_else : (a b : Bool) → (a || b) ≡ true → a ≡ false → b ≡ true
or_else true b h e = lie (sym e)
or_else false b h e = h

pub one_most : (b : Bool) → one_if b ≤ 1
one_most true = omega arith
one_most false = omega arith

-- two tests that hold together are the same
pub same_truth : (a b : Bool) → (a ≡ true → b ≡ true) → (b ≡ true → a ≡ true) → a ≡ b
same_truth true b f g = sym (f refl)
same_truth false true f g = g refl
same_truth false false f g = refl
