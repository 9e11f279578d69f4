-- Laws of `bits_of` and `number`.
use Rattle.basics.proofs.Kit.{◌≡◌, refl, sym, ap, ◌∙◌, List, [], ◌∷◌, ◌++◌, append_assoc, ℕ, suc, ◌+◌, ◌*◌, ◌%◌, ◌^◌, ◌<◌, zero, ◌/◌, one-add, mod-eq_of_lt, add_assoc, zero-add, suc-add}
use Rattle.basics.proofs.Kit.{add_comm, mod-one, mod-lt, pow-suc, mul-add-div_right, mul-add-mod_self_right, digits_lt, pow_pos, pow-add, shr-shr, split, high, mod-pow-add, lit<, length}
use Rattle.basics.proofs.Kit.{◌≤◌, take, drop, length-append, length-take, length-drop, take_at, drop-drop, drop_at, arith}
use Rattle.block_bits.specs.Bits.{bits_of, number, field, mixed}
use Rattle.basics.specs.Basics.{AllOf}
use Rattle.basics.specs.Lists.{over}
use Rattle.basics.proofs.Elements.{all_take, all_drop}

-- ---- the bits of a number

pub length_bits_of : (w v : ℕ) → length (bits_of w v) ≡ w
unfolding bits_of
length_bits_of zero v = refl
length_bits_of (suc w) v = ap suc (length_bits_of w v)

-- the bits of v are those above its n low ones, then those
pub bits_of_add : (m n v : ℕ) → bits_of (m + n) v ≡ bits_of m (v / 2 ^ n) ++ bits_of n v
unfolding bits_of
bits_of_add zero n v = rw zero-add
bits_of_add (suc m) n v = rw (suc-add, shr-shr, add_comm n m, bits_of_add m n v)

-- what stands above the n low digits does not show in the n low bits
bits_of_skip : (n a l : ℕ) → bits_of n (a * 2 ^ n + l) ≡ bits_of n l
unfolding bits_of
bits_of_skip zero a l = refl
bits_of_skip (suc n) a l =
    let e : a * 2 ^ suc n ≡ (a * 2) * 2 ^ n = rw (pow-suc 2 n) (omega arith) in
    rw (e, mul-add-div_right (pow_pos n) (a * 2) l, mul-add-mod_self_right a 2 (l / 2 ^ n), bits_of_skip n (a * 2) l)

pub bits_of_mod : (n v : ℕ) → bits_of n (v % 2 ^ n) ≡ bits_of n v
bits_of_mod n v = sym (bits_of_skip n (v / 2 ^ n) (v % 2 ^ n)) ∙ ap (bits_of n) (split v n)

-- the bits of two digits
pub bits_of_digits : (m n h l : ℕ) → l < 2 ^ n → bits_of (m + n) (h * 2 ^ n + l) ≡ bits_of m h ++ bits_of n l
bits_of_digits m n h l b = bits_of_add m n (h * 2 ^ n + l) ∙ rw (high h n b, bits_of_skip)

-- the k bits of x put over those of b after its first r are the bits of one number
pub bits_of_mixed : (r k t b x : ℕ) → bits_of (r + (k + t)) (mixed k t b x) ≡ over (bits_of (r + (k + t)) b) r (bits_of k x)
unfolding over
bits_of_mixed r k t b x =
    let h : ℕ = b / 2 ^ (k + t) in
    let A : List ℕ = bits_of r h in
    let M : List ℕ = bits_of k (b / 2 ^ t) in
    let C : List ℕ = bits_of t b in
    let lA : length A ≡ r = length_bits_of r h in
    let lM : length M ≡ k = length_bits_of k (b / 2 ^ t) in
    let new : bits_of (r + (k + t)) (mixed k t b x) ≡ A ++ (bits_of k x ++ C) =
    rw (← add_assoc r k t, bits_of_digits (r + k) t (h * 2 ^ k + x % 2 ^ k) (b % 2 ^ t) (mod-lt b (pow_pos t)), bits_of_digits r k h (x % 2 ^ k) (mod-lt x (pow_pos k)), bits_of_mod k x, bits_of_mod t b)
    (append_assoc A (bits_of k x) C) in
    let parts : bits_of (r + (k + t)) b ≡ A ++ (M ++ C) = bits_of_add r (k + t) b ∙ ap (λ (l : List ℕ). A ++ l) (bits_of_add k t b) in
    let old : over (A ++ (M ++ C)) r (bits_of k x) ≡ A ++ (bits_of k x ++ C) =
    rw (length_bits_of k x, take_at A (M ++ C) r lA, ← drop-drop k r (A ++ (M ++ C)), drop_at A (M ++ C) r lA, drop_at M C k lM) in
    new ∙ rw parts (sym old)

-- ---- the number of a list of bits

pub number_append : (xs ys : List ℕ) → number (xs ++ ys) ≡ number xs * 2 ^ length ys + number ys
unfolding number
number_append [] ys = omega arith
number_append (x ∷ xs) ys = rw (number_append xs ys, length-append xs ys, pow-add 2 (length xs) (length ys)) (omega arith)

pub number_bits_of : (w v : ℕ) → number (bits_of w v) ≡ v % 2 ^ w
unfolding number bits_of
number_bits_of zero v = sym (mod-one v)
number_bits_of (suc w) v = rw (length_bits_of w v, number_bits_of w v) (sym (mod-pow-add v 1 w) ∙ ap (λ (k : ℕ). v % 2 ^ k) (one-add w))

-- 0 or 1, and a list of such
abbrev pub Bit : ℕ → Type 0
Bit x = x < 2

abbrev pub Bits : List ℕ → Type 0
Bits xs = AllOf Bit xs

pub bits_of_lem : (w v : ℕ) → Bits (bits_of w v)
unfolding bits_of
bits_of_lem zero v = tt
bits_of_lem (suc w) v = (mod-lt (v / 2 ^ w) (lit< tt), bits_of_lem w v)

digit_lt : (x p n : ℕ) → x < 2 → n < p → x * p + n < p * 2
digit_lt zero p n h l = omega arith
digit_lt (suc zero) p n h l = omega arith
digit_lt (suc (suc x)) p n h l = omega arith

pub number_lt : (xs : List ℕ) → Bits xs → number xs < 2 ^ length xs
unfolding number
number_lt [] a = lit< tt
number_lt (x ∷ xs) a = rw (pow-suc 2 (length xs)) (digit_lt x (2 ^ length xs) (number xs) a.0 (number_lt xs a.1))

-- the bits of the number of bits are the bits
pub bits_of_number : (xs : List ℕ) → Bits xs → bits_of (length xs) (number xs) ≡ xs
unfolding number bits_of
bits_of_number [] a = refl
bits_of_number (x ∷ xs) a =
    let k : ℕ = length xs in
    let h : (x * 2 ^ k + number xs) / 2 ^ k % 2 ≡ x = ap (λ (q : ℕ). q % 2) (high x k (number_lt xs a.1)) ∙ mod-eq_of_lt a.0 in
    let t : bits_of k (x * 2 ^ k + number xs) ≡ xs = bits_of_skip k x (number xs) ∙ bits_of_number xs a.1 in
    λ i. h i ∷ t i

-- the bits of a field's number are the field
pub bits_field : (s : List ℕ) (at w : ℕ) → Bits s → at + w ≤ length s → bits_of w (field s at w) ≡ take w (drop at s)
unfolding field
bits_field s at w b h =
    let X : List ℕ = take w (drop at s) in
    let l : length X ≡ w = simp (length-take, length-drop) (omega arith) in
    ap (λ (n : ℕ). bits_of n (number X)) (sym l) ∙ bits_of_number X (all_take Bit w (drop at s) (all_drop Bit at s b))

pub join_lt : (m n h l : ℕ) → h < 2 ^ m → l < 2 ^ n → h * 2 ^ n + l < 2 ^ (m + n)
join_lt m n h l a b = rw (pow-add 2 m n) (digits_lt a b)
