-- Two numbers, either way round; what an inequality and a difference say together.
use Rattle.basics.proofs.Kit.{◌≡◌, sym, ⊎_elim, ◌⊎◌, inl, inr, ℕ, suc, ◌≤◌, ◌<◌, zero, zero-le, suc-le-suc, arith}

-- either way round
pub lt_or_ge : (a b : ℕ) → (a < b) ⊎ (b ≤ a)
lt_or_ge a zero = inr zero-le
lt_or_ge zero (suc b) = inl (suc-le-suc zero-le)
lt_or_ge (suc a) (suc b) = ⊎_elim (λ p. inl (suc-le-suc p)) (λ q. inr (suc-le-suc q)) (lt_or_ge a b)

pub less_than : {a b : ℕ} → a ≤ b → (a ≡ b → ⊥) → a < b
less_than {a} {b} l n = ⊎_elim (λ x. x) (λ x. absurd (n (omega arith))) (lt_or_ge a b)

pub pos_of : (n : ℕ) → (n ≡ 0 → ⊥) → 0 < n
pos_of n h = less_than (omega arith) (λ z. h (sym z))
