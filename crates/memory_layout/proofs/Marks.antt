-- One bit for each block: set, read, cleared.
use Rattle.block_forms.specs.Limits.{block_limit}
use Rattle.basics.proofs.Kit.{◌≡◌, sym, ap, ◌∙◌, fun_ext, ⊎_elim, ◌⊎◌, inl, inr, Bool, false, ◌||◌, List, ℕ, suc, ◌+◌, ◌%◌, ◌^◌, ◌≤◌, ◌<◌, ◌/◌, ◌-◌, max, pow-suc, div-eq_of_lt, div_self}
use Rattle.basics.proofs.Kit.{zero-div, mul-mod_left, pow_pos, pow-add, pow-lt, shl-shr, bit_or, or_step, or_shr, eqb, ltb, length, get_or, set, length-set, length-replicate, replicate}
use Rattle.basics.proofs.Kit.{get_or-replicate, get_or-set_same, get_or-set_other, eq-eqb, ne_eqb, ltb-true, ltb-false, arith}
use Rattle.basics.proofs.Facts.{by}
use Rattle.memory_bytes.specs.Bytes.{Wrote}
use Rattle.basics.proofs.Tabs.{lt_or_ge}
use Rattle.memory_layout.specs.Views.{is_used}
use Rattle.memory_layout.specs.Flat.{flat_of, Room, Becomes, with_used}
use Rattle.memory_layout.proofs.Laws.{Known, known}
use Rattle.memory_layout.proofs.Changes.{same_below, becomes_used}
use Rattle.memory_layout.specs.Places.{head_size, used_at, used_size}
use Rattle.model.specs.Checkpoint.{used_and}

-- ---- one bit

or_odd : (x y : ℕ) → bit_or x y % 2 ≡ max (x % 2) (y % 2)
or_odd x y = omega (arith, or_step x y)

bit_same : (k : ℕ) → 2 ^ k / 2 ^ k % 2 ≡ 1
bit_same k = ap (λ (z : ℕ). z % 2) (div_self (pow_pos k))

bit_below : (k j : ℕ) → j < k → 2 ^ k / 2 ^ j % 2 ≡ 0
bit_below k j h =
    let d : ℕ = k - suc j in
    let e : k ≡ suc d + j = omega arith in
    ap (λ (z : ℕ). 2 ^ z / 2 ^ j % 2) e
    ∙ ap (λ (z : ℕ). z / 2 ^ j % 2) (pow-add 2 (suc d) j)
    ∙ ap (λ (z : ℕ). z % 2) (shl-shr (2 ^ suc d) j)
    ∙ ap (λ (z : ℕ). z % 2) (pow-suc 2 d)
    ∙ mul-mod_left (2 ^ d) 2

bit_above : (k j : ℕ) → k < j → 2 ^ k / 2 ^ j % 2 ≡ 0
bit_above k j h = ap (λ (z : ℕ). z % 2) (div-eq_of_lt (pow-lt h))

bit_other : (k j : ℕ) → (k ≡ j → ⊥) → 2 ^ k / 2 ^ j % 2 ≡ 0
bit_other k j ne = ⊎_elim (λ (lt : k < j). bit_above k j lt) (λ (ge : j ≤ k). bit_below k j (omega arith)) (lt_or_ge k j)

either : (k j : ℕ) → (k ≡ j) ⊎ (k ≡ j → ⊥)
either k j =
    ⊎_elim (λ (lt : k < j). inr (λ e. omega arith))
    (λ (ge : j ≤ k). ⊎_elim (λ (lt : j < k). inr (λ e. omega arith)) (λ (le : k ≤ j). inl (omega arith)) (lt_or_ge j k))
    (lt_or_ge k j)

-- bit j once bit k is set
or_bit : (x k j : ℕ) → eqb (bit_or x (2 ^ k) / 2 ^ j % 2) 1 ≡ (eqb k j || eqb (x / 2 ^ j % 2) 1)
or_bit x k j =
    let e : bit_or x (2 ^ k) / 2 ^ j % 2 ≡ max (x / 2 ^ j % 2) (2 ^ k / 2 ^ j % 2) = ap (λ (z : ℕ). z % 2) (or_shr x (2 ^ k) j) ∙ or_odd (x / 2 ^ j) (2 ^ k / 2 ^ j) in
    ⊎_elim
    (λ (q : k ≡ j).
    let one : 2 ^ k / 2 ^ j % 2 ≡ 1 = ap (λ (z : ℕ). 2 ^ k / 2 ^ z % 2) (sym q) ∙ bit_same k in
    let a : bit_or x (2 ^ k) / 2 ^ j % 2 ≡ 1 = omega arith in
    rw (eq-eqb _ 1 a, eq-eqb k j q))
    (λ (ne : k ≡ j → ⊥).
    let z : 2 ^ k / 2 ^ j % 2 ≡ 0 = bit_other k j ne in
    let a : bit_or x (2 ^ k) / 2 ^ j % 2 ≡ x / 2 ^ j % 2 = omega arith in
    rw (a, ne_eqb k j ne))
    (either k j)

-- ---- all of them

-- the bit of block c in the byte x
abbrev bit_of : ℕ → ℕ → Bool
bit_of c x = eqb (x / 2 ^ (c % 8) % 2) 1

module _ (m : List ℕ) (b : ℕ) (small : b < block_limit) (big : head_size ≤ length m) where
  abbrev marked : List ℕ
  marked = set m (used_at + b / 8) (bit_or (get_or m (used_at + b / 8) 0) (2 ^ (b % 8)))

  marked_bit : (c : ℕ) → bit_of c (get_or marked (used_at + c / 8) 0) ≡ (eqb b c || bit_of c (get_or m (used_at + c / 8) 0))
  marked_bit c =
      ⊎_elim
      (λ (q : c / 8 ≡ b / 8).
      let x : ℕ = get_or m (used_at + b / 8) 0 in
      let e : get_or marked (used_at + c / 8) 0 ≡ bit_or x (2 ^ (b % 8)) = ap (λ (z : ℕ). get_or marked (used_at + z) 0) q ∙ get_or-set_same m (used_at + b / 8) _ 0 (omega arith) in
      let f : eqb (b % 8) (c % 8) ≡ eqb b c =
      ⊎_elim (λ (z : b ≡ c). eq-eqb _ _ (ap (λ (y : ℕ). y % 8) z) ∙ sym (eq-eqb b c z))
      (λ (z : b ≡ c → ⊥). ne_eqb _ _ (λ (y : b % 8 ≡ c % 8). z (omega arith)) ∙ sym (ne_eqb b c z)) (either b c) in
      ap (bit_of c) e ∙ or_bit x (b % 8) (c % 8) ∙ ap (λ (t : Bool). t || bit_of c x) f ∙ ap (λ (z : ℕ). eqb b c || bit_of c (get_or m (used_at + z) 0)) (sym q))
      (λ (ne : c / 8 ≡ b / 8 → ⊥).
      ap (bit_of c) (get_or-set_other m (used_at + b / 8) (used_at + c / 8) _ 0 (λ e. ne (omega arith)))
      ∙ ap (λ (t : Bool). t || bit_of c (get_or m (used_at + c / 8) 0)) (sym (ne_eqb b c (λ e. ne (ap (λ (x : ℕ). x / 8) (sym e))))))
      (either (c / 8) (b / 8))

  marked_used : is_used marked ≡ used_and b (is_used m)
  unfolding is_used
  marked_used =
      fun_ext
      (λ c. by (ltb c block_limit) (λ t. rw t (marked_bit c)) (λ f. let l : block_limit ≤ c = ltb-false c block_limit f in rw (f, ne_eqb b c (λ e. omega arith))))

pub mark_becomes : (m : List ℕ) (b v : ℕ) → Room m → b < block_limit → v ≡ bit_or (get_or m (used_at + b / 8) 0) (2 ^ (b % 8))
    → Becomes m (set m (used_at + b / 8) v) (with_used (flat_of m) (used_and b (is_used m)))
mark_becomes m b v room h e =
    let k : Known m = known m room in
    let a : ℕ = used_at + b / 8 in
    becomes_used m (set m a v) room (length-set m a v)
    (λ x p q. get_or-set_other m a x v 0 (λ z. omega arith)) (λ x p. get_or-set_other m a x v 0 (λ z. omega arith))
    (ap (λ (z : ℕ). is_used (set m a z)) e ∙ marked_used m b h (omega arith))

-- a byte of zeros has no bit
pub clear_used : (m' : List ℕ) → ((b : ℕ) → used_at ≤ b → b < head_size → get_or m' b 0 ≡ 0) → is_used m' ≡ (λ c. false)
unfolding is_used
clear_used m' z =
    fun_ext
    (λ c. by (ltb c block_limit)
    (λ t. let l : c < block_limit = ltb-true c block_limit t in
    rw t (ap (bit_of c) (z (used_at + c / 8) (omega arith) (omega arith)) ∙ ap (λ (x : ℕ). eqb (x % 2) 1) (zero-div (2 ^ (c % 8)))))
    (λ f. rw f))

pub zeros_at : {m m' : List ℕ} {a : ℕ} (n : ℕ) → Wrote m m' a (replicate n 0) → (b : ℕ) → a ≤ b → b < a + n → get_or m' b 0 ≡ 0
zeros_at {m} {m'} {a} n w b p q =
    let e : b ≡ a + (b - a) = omega arith in
    let l : length (replicate {A = ℕ} n 0) ≡ n = length-replicate {A = ℕ} n 0 in
    ap (λ (z : ℕ). get_or m' z 0) e ∙ w.here (b - a) (omega arith) ∙ get_or-replicate n (b - a) 0 0 (omega arith)

pub clear_becomes : {m m' : List ℕ} → Room m → Wrote m m' used_at (replicate used_size 0) → Becomes m m' (with_used (flat_of m) (λ c. false))
clear_becomes {m} {m'} room w =
    let l : length (replicate {A = ℕ} used_size 0) ≡ used_size = length-replicate {A = ℕ} used_size 0 in
    becomes_used m m' room w.apart.size (same_below 0 used_at w.apart (omega arith)) (λ b p. w.apart.above b (omega arith))
    (clear_used m' (λ b p q. zeros_at used_size w b p (omega arith)))
