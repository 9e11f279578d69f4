-- A field by way of the whole bytes that it is in: the window.
use Rattle.basics.proofs.Kit.{◌≡◌, sym, ap, ◌∙◌, subst, List, ◌++◌, ℕ, ◌+◌, ◌*◌, ◌%◌, ◌^◌, ◌≤◌, ◌<◌, ◌/◌, ◌-◌, lt_of_lt_of_le, add_assoc, mod-lt, mod-eq_of_lt, one-mul, pow-lt, pow_mono, pow_pos, shr-shr, high}
use Rattle.basics.proofs.Kit.{low, shr_lt, length, get_or, set, arith}
use Rattle.block_bits.specs.Bits.{bits_of, bits_in, field, mixed, Middle}
use Rattle.basics.specs.Lists.{over}
use Rattle.basics.proofs.Overs.{over_over, over_part}
use Rattle.block_bits.proofs.Numbers.{length_bits_of, bits_of_add, bits_of_mixed, join_lt}
use Rattle.block_bits.proofs.Blocks.{length_bits_in, byte_field, byte_over, field_add, field_lt, bits_of_field}

next : (i : ℕ) → 8 * i + 8 ≡ 8 * (i + 1)
next i = omega arith

-- ---- a turn of the load

pub load_iteration : (s : List ℕ) (p i acc : ℕ) → p + i < length s → get_or s (p + i) 0 < 256 → acc ≡ field (bits_in s) (8 * p) (8 * i)
    → acc * 256 + get_or s (p + i) 0 ≡ field (bits_in s) (8 * p) (8 * (i + 1))
load_iteration s p i acc h l a =
    let f : 8 * (p + i) ≡ 8 * p + 8 * i = omega arith in
    rw (a, ← next i, field_add s (8 * p) (8 * i) 8 (omega arith)) (ap (λ (b : ℕ). field (bits_in s) (8 * p) (8 * i) * 256 + b) (rw f at (byte_field s (p + i) h l)))

pub load_lt : (i acc b : ℕ) → acc < 2 ^ (8 * i) → b < 256 → acc * 256 + b < 2 ^ (8 * (i + 1))
load_lt i acc b h l = subst (λ (n : ℕ). acc * 256 + b < 2 ^ n) (next i) (join_lt (8 * i) 8 acc b h l)

pub load_fits : (i acc b : ℕ) → i < 8 → acc < 2 ^ (8 * i) → b < 256 → acc * 256 + b < 2 ^ 64
load_fits i acc b k h l = lt_of_lt_of_le (load_lt i acc b h l) (pow_mono {j = 64} (omega arith))

-- ---- a turn of the store

bits_iteration : (n i x : ℕ) → i < n → bits_of (8 * (i + 1)) (x / 2 ^ (8 * n - 8 * (i + 1))) ≡ bits_of (8 * i) (x / 2 ^ (8 * n - 8 * i)) ++ bits_of 8 (x / 2 ^ (8 * n - 8 * i - 8))
bits_iteration n i x h =
    let e : 8 * n - 8 * (i + 1) ≡ 8 * n - 8 * i - 8 = omega arith in
    let f : 8 * n - 8 * i - 8 + 8 ≡ 8 * n - 8 * i = omega arith in
    rw (e, ← next i, bits_of_add (8 * i) 8 (x / 2 ^ (8 * n - 8 * i - 8)), shr-shr x (8 * n - 8 * i - 8) 8, f)

pub store_iteration : (s d : List ℕ) (p n i x b : ℕ) → i < n → p + n ≤ length s → length d ≡ length s
    → bits_in d ≡ over (bits_in s) (8 * p) (bits_of (8 * i) (x / 2 ^ (8 * n - 8 * i))) → b ≡ x / 2 ^ (8 * n - 8 * i - 8) % 256
    → bits_in (set d (p + i) b) ≡ over (bits_in s) (8 * p) (bits_of (8 * (i + 1)) (x / 2 ^ (8 * n - 8 * (i + 1))))
store_iteration s d p n i x b h l e inv eb =
    let y : ℕ = x / 2 ^ (8 * n - 8 * i - 8) in
    let xs : List ℕ = bits_of (8 * i) (x / 2 ^ (8 * n - 8 * i)) in
    let lx : length xs ≡ 8 * i = length_bits_of (8 * i) (x / 2 ^ (8 * n - 8 * i)) in
    let lB : length (bits_in s) ≡ 8 * length s = length_bits_in s in
    let f : 8 * (p + i) ≡ 8 * p + length xs = omega arith in
    byte_over d (p + i) y b (omega arith) eb ∙ rw (inv, f) (over_over (bits_in s) xs (bits_of 8 y) (8 * p) (omega arith))
    ∙ ap (over (bits_in s) (8 * p)) (sym (bits_iteration n i x h))

-- ---- a field in a window of r + (k + t) bits

pub window_get : (s : List ℕ) (p n at r k t old : ℕ) → 8 * n ≡ r + (k + t) → 8 * p + r ≡ at → p + n ≤ length s
    → old ≡ field (bits_in s) (8 * p) (8 * n) → old / 2 ^ t % 2 ^ k ≡ field (bits_in s) at k
window_get s p n at r k t old en ea h eo =
    let B : List ℕ = bits_in s in
    let q : ℕ = 8 * p in
    let a : field B q (r + k + t) ≡ field B q (r + k) * 2 ^ t + field B (q + (r + k)) t = field_add s q (r + k) t (omega arith) in
    let b : field B q (r + k) ≡ field B q r * 2 ^ k + field B (q + r) k = field_add s q r k (omega arith) in
    rw (eo, en, ← ea, ← add_assoc r k t, a, high (field B q (r + k)) t (field_lt s (q + (r + k)) t), b) (low (field B q r) k (field_lt s (q + r) k))

pub window_put : (s : List ℕ) (p n at r k t x old new : ℕ) (l : List ℕ) → 8 * n ≡ r + (k + t) → 8 * p + r ≡ at → p + n ≤ length s
    → l ≡ over (bits_in s) (8 * p) (bits_of (8 * n) new) → new ≡ mixed k t old x → old ≡ field (bits_in s) (8 * p) (8 * n) → l ≡ over (bits_in s) at (bits_of k x)
window_put s p n at r k t x old new l en ea h el em eo =
    let B : List ℕ = bits_in s in
    let w : ℕ = r + (k + t) in
    let lB : length B ≡ 8 * length s = length_bits_in s in
    let lX : length (bits_of k x) ≡ k = length_bits_of k x in
    el
    ∙ rw (em, eo, en, ← ea, bits_of_mixed r k t (field B (8 * p) w) x, bits_of_field s (8 * p) w (omega arith))
    (over_part B (bits_of k x) (8 * p) w r (omega arith) (omega arith))

-- what is computed on the way to the new window fits a word
pub window_fits : (r k t b x : ℕ) → r + (k + t) ≤ 64 → b < 2 ^ (r + (k + t)) → (b / 2 ^ (k + t) * 2 ^ k + x % 2 ^ k < 2 ^ 64) × (mixed k t b x < 2 ^ 64)
window_fits r k t b x h hb =
    let top : b / 2 ^ (k + t) * 2 ^ k + x % 2 ^ k < 2 ^ (r + k) = join_lt r k (b / 2 ^ (k + t)) (x % 2 ^ k) (shr_lt r (k + t) hb) (mod-lt x (pow_pos k)) in (
      lt_of_lt_of_le top (pow_mono {j = 64} (omega arith)),
      lt_of_lt_of_le (join_lt (r + k) t (b / 2 ^ (k + t) * 2 ^ k + x % 2 ^ k) (b % 2 ^ t) top (mod-lt b (pow_pos t))) (pow_mono {j = 64} (omega arith)),
    )

-- ---- shifts of a word

-- a shift to the left that loses no bit
shl : (x k : ℕ) → x * 2 ^ k < 2 ^ 64 → x * 2 ^ k % 2 ^ 64 ≡ x * 2 ^ k
shl x k h = mod-eq_of_lt h

-- what a number is taken modulo for its k low bits
pub one_shl : (k : ℕ) → k < 64 → 1 * 2 ^ k % 2 ^ 64 ≡ 2 ^ k
one_shl k h = rw one-mul (mod-eq_of_lt (pow-lt h))

-- what is computed on the way to the new window, as words: no shift loses a bit, and both sums fit
pub record Words (r k t b x : ℕ) : Type 0 where
  pub upper : b / 2 ^ (k + t) * 2 ^ k % 2 ^ 64 + x % (1 * 2 ^ k % 2 ^ 64) ≡ b / 2 ^ (k + t) * 2 ^ k + x % 2 ^ k
  pub upper_fits : b / 2 ^ (k + t) * 2 ^ k + x % 2 ^ k < 2 ^ 64
  pub whole : (b / 2 ^ (k + t) * 2 ^ k % 2 ^ 64 + x % (1 * 2 ^ k % 2 ^ 64)) * 2 ^ t % 2 ^ 64 + b % (1 * 2 ^ t % 2 ^ 64) ≡ mixed k t b x
  pub whole_fits : mixed k t b x < 2 ^ 64

pub window_words : {r k t b : ℕ} (x : ℕ) → Middle b r k t → Words r k t b x
window_words {r} {k} {t} {b} x m =
    let h : ℕ = b / 2 ^ (k + t) * 2 ^ k + x % 2 ^ k in
    let f = window_fits r k t b x m.size m.fits in
    let fits : h * 2 ^ t + b % 2 ^ t < 2 ^ 64 = f.1 in
    let upper : b / 2 ^ (k + t) * 2 ^ k % 2 ^ 64 + x % (1 * 2 ^ k % 2 ^ 64) ≡ h = rw (shl (b / 2 ^ (k + t)) k (omega (arith, f.0)), one_shl k (omega (arith, m.width))) in
    record { upper = upper; upper_fits = f.0; whole = rw (upper, shl h t (omega (arith, fits)), one_shl t (omega (arith, m.width))); whole_fits = fits }
