-- Minutes of the week: how far one is from another, and where a row ends.
use Rattle.basics.proofs.Kit.{◌≡◌, sym, ap, ◌∙◌, ℕ, suc, mod-eq_of_lt, mod-lt, ◌+◌, ◌-◌, ◌%◌, suc-add, ◌≤◌, ◌<◌, arith}
use native.Mathlib.Nat.{suc-mod, mod-add-mod}
use Rattle.calendar.specs.Calendar.{week, until}

-- i minutes behind minute k
pub until_add : (k i : ℕ) → until (k % week) ((k + i) % week) ≡ i % week
unfolding until
until_add k i = omega arith

-- minute e of the week comes so many minutes behind minute k
pub until_end : (k e : ℕ) → e < week → (k + until (k % week) e) % week ≡ e
unfolding until
until_end k e h = omega arith

-- the distance from minute s of the week to minute u, which need not be taken modulo the week first
until_plus : (s u : ℕ) → s < week → until s (u % week) ≡ (u + (week - s)) % week
unfolding until
until_plus s u h = let e : u % week + week - s ≡ u % week + (week - s) = omega arith in ap (λ z. z % week) e ∙ mod-add-mod u week (week - s)

-- one minute on it grows by one, or begins anew
until_next : (s u : ℕ) → s < week → until s (suc u % week) ≡ suc (until s (u % week)) % week
until_next s u h = rw (until_plus s (suc u) h, until_plus s u h, suc-add u (week - s)) (suc-mod (u + (week - s)) week)

-- the first minute that a row no longer covers is the one just behind it
pub first_past : (s l u : ℕ) → s < week → l ≤ week → until s (u % week) < l → l ≤ until s (suc u % week) → suc u % week ≡ (s + l) % week
first_past s l u a c p q =
    let e : until s (suc u % week) ≡ l = omega (arith, until_next s u a) in
    let m : s % week ≡ s = mod-eq_of_lt a in
    sym (until_end s (suc u % week) (mod-lt (suc u) (omega arith))) ∙ rw (m, e)
