-- Laws of the bits of a block, and of its fields.
use Rattle.basics.proofs.Kit.{◌≡◌, refl, sym, ap, ◌∙◌, List, [], ◌∷◌, ◌++◌, append_assoc, ℕ, suc, ◌+◌, ◌*◌, ◌%◌, ◌^◌, ◌≤◌, ◌<◌, lt_of_lt_of_le, mod-eq_of_lt, pow_mono, length, take, drop}
use Rattle.basics.proofs.Kit.{get_or, set, length-append, length-take, length-drop, split_at, set_split, take_at, drop-append_seam, drop-drop, take-add, arith}
use Rattle.basics.proofs.Elements.{all_append, all_take, all_drop}
use Rattle.block_bits.specs.Bits.{bits_of, bits_in, field}
use Rattle.basics.specs.Lists.{over}
use Rattle.basics.proofs.Overs.{over_middle}
use Rattle.block_bits.proofs.Numbers.{length_bits_of, bits_of_mod, number_append, number_bits_of, Bit, Bits, bits_of_lem, number_lt, bits_field}

pub bits_in_append : (s t : List ℕ) → bits_in (s ++ t) ≡ bits_in s ++ bits_in t
unfolding bits_in
bits_in_append [] t = refl
bits_in_append (b ∷ s) t = rw (bits_in_append s t) (sym (append_assoc (bits_of 8 b) (bits_in s) (bits_in t)))

pub length_bits_in : (s : List ℕ) → length (bits_in s) ≡ 8 * length s
unfolding bits_in
length_bits_in [] = refl
length_bits_in (b ∷ s) = simp (length-append, length_bits_of, length_bits_in s) (omega arith)

pub bits_in_lem : (s : List ℕ) → Bits (bits_in s)
unfolding bits_in
bits_in_lem [] = tt
bits_in_lem (b ∷ s) = all_append Bit (bits_of 8 b) (bits_in s) (bits_of_lem 8 b) (bits_in_lem s)

-- ---- a byte

byte_split : (s : List ℕ) (i : ℕ) → i < length s → bits_in s ≡ bits_in (take i s) ++ (bits_of 8 (get_or s i 0) ++ bits_in (drop (suc i) s))
unfolding bits_in
byte_split s i h = ap bits_in (split_at s i 0 h) ∙ bits_in_append (take i s) (get_or s i 0 ∷ drop (suc i) s)

length_front : (s : List ℕ) (i : ℕ) → i < length s → length (bits_in (take i s)) ≡ 8 * i
length_front s i h = simp (length_bits_in, length-take) (omega arith)

-- a byte is a field of 8 bits
pub byte_field : (s : List ℕ) (i : ℕ) → i < length s → get_or s i 0 < 256 → get_or s i 0 ≡ field (bits_in s) (8 * i) 8
unfolding field
byte_field s i h b =
    let v : ℕ = get_or s i 0 in
    let P : List ℕ = bits_in (take i s) in
    let Q : List ℕ = bits_in (drop (suc i) s) in
    sym (mod-eq_of_lt b) ∙ sym (number_bits_of 8 v)
    ∙ rw (byte_split s i h, ← length_front s i h, drop-append_seam P (bits_of 8 v ++ Q), take_at (bits_of 8 v) Q 8 (length_bits_of 8 v))

-- a byte is put as 8 bits
pub byte_over : (s : List ℕ) (i y b : ℕ) → i < length s → b ≡ y % 256 → bits_in (set s i b) ≡ over (bits_in s) (8 * i) (bits_of 8 y)
unfolding bits_in
byte_over s i y b h e =
    let v : ℕ = get_or s i 0 in
    let P : List ℕ = bits_in (take i s) in
    let Q : List ℕ = bits_in (drop (suc i) s) in
    ap bits_in (set_split s i b h) ∙ bits_in_append (take i s) (b ∷ drop (suc i) s) ∙ rw (e, bits_of_mod 8 y)
    (rw (byte_split s i h, ← length_front s i h) (sym (over_middle P (bits_of 8 v) Q (bits_of 8 y) (length_bits_of 8 y ∙ sym (length_bits_of 8 v)))))

-- ---- a field

pub field_add : (s : List ℕ) (at n k : ℕ) → at + n + k ≤ 8 * length s → field (bits_in s) at (n + k) ≡ field (bits_in s) at n * 2 ^ k + field (bits_in s) (at + n) k
unfolding field
field_add s at n k h =
    let B : List ℕ = bits_in s in
    let l : length (take k (drop (at + n) B)) ≡ k = simp (length-take, length-drop, length_bits_in) (omega arith) in
    rw (take-add n k (drop at B), drop-drop n at B, number_append (take n (drop at B)) (take k (drop (at + n) B)), l)

pub field_lt : (s : List ℕ) (at w : ℕ) → field (bits_in s) at w < 2 ^ w
unfolding field
field_lt s at w =
    let X : List ℕ = drop at (bits_in s) in
    lt_of_lt_of_le (number_lt (take w X) (all_take Bit w X (all_drop Bit at (bits_in s) (bits_in_lem s)))) (pow_mono (rw (length-take w X) (omega arith)))

-- the bits of a field's number are the field
pub bits_of_field : (s : List ℕ) (at w : ℕ) → at + w ≤ 8 * length s → bits_of w (field (bits_in s) at w) ≡ take w (drop at (bits_in s))
bits_of_field s at w h = bits_field (bits_in s) at w (bits_in_lem s) (rw (length_bits_in s) h)
