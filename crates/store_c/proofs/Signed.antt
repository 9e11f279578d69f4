-- Numbers with a sign: what C is answered.
use Rattle.basics.proofs.Kit.{◌≡◌, ap, ◌∙◌, ℕ, suc, ◌≤◌, ◌<◌, zero, ℤ, pos, neg_ℤ, ◌-ℤ◌, +ℤ_idl, to_z-of_z, to_z_pos, arith}
use mir.Syntax.{w64}
use mir.Val.{SFits, to_z, of_z}
use Rattle.store.specs.Code.{clamped}

pub clamped_low : (n : ℕ) → n < 9223372036854775808 → to_z w64 n ≡ pos (clamped n)
unfolding clamped
clamped_low n h = to_z_pos w64 h ∙ ap pos (omega (arith, h))

pub clamped_high : (n : ℕ) → 9223372036854775808 ≤ n → pos 9223372036854775807 ≡ pos (clamped n)
unfolding clamped
clamped_high n h = ap pos (omega (arith, h))

pos_fits : (n : ℕ) → n < 9223372036854775808 → SFits w64 (pos n)
pos_fits n h = record { sfits = h }

neg_fits : (n : ℕ) → n < 9223372036854775808 → SFits w64 (neg_ℤ (pos n))
neg_fits zero h = record { sfits = h }
neg_fits (suc n) h = record { sfits = omega (arith, h) }

clamped_small : (n : ℕ) → clamped n < 9223372036854775808
unfolding clamped
clamped_small n = omega arith

-- a number of this form is read back
pub back : (x : ℤ) (n : ℕ) → x ≡ pos (clamped n) → to_z w64 (of_z w64 x) ≡ pos (clamped n)
back x n e = ap (λ (z : ℤ). to_z w64 (of_z w64 z)) e ∙ to_z-of_z (pos_fits (clamped n) (clamped_small n))

-- and so is minus it
minus : (x : ℤ) (n : ℕ) → x ≡ pos (clamped n) → pos 0 -ℤ to_z w64 (of_z w64 x) ≡ neg_ℤ (pos (clamped n))
minus x n e = ap (λ (z : ℤ). pos 0 -ℤ z) (back x n e) ∙ +ℤ_idl (neg_ℤ (pos (clamped n)))

pub minus_fits : (x : ℤ) (n : ℕ) → x ≡ pos (clamped n) → SFits w64 (pos 0 -ℤ to_z w64 (of_z w64 x))
minus_fits x n e = rw (minus x n e) (neg_fits (clamped n) (clamped_small n))

pub minus_back : (x : ℤ) (n : ℕ) → x ≡ pos (clamped n) → to_z w64 (of_z w64 (pos 0 -ℤ to_z w64 (of_z w64 x))) ≡ neg_ℤ (pos (clamped n))
minus_back x n e = ap (λ (z : ℤ). to_z w64 (of_z w64 z)) (minus x n e) ∙ to_z-of_z (neg_fits (clamped n) (clamped_small n))
