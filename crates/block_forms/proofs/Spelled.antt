-- A block of fields: its bits and its bytes; what is spelled is read back at every width.
use Rattle.basics.proofs.Kit.{◌≡◌, refl, sym, ap, ◌∙◌, List, [], ◌∷◌, ◌++◌, append_assoc, append-nil, ℕ, suc, ◌+◌, ◌*◌, ◌%◌, ◌^◌, ◌≤◌, ◌<◌, zero, ◌-◌, lt_of_lt_of_le}
use Rattle.basics.proofs.Kit.{mod-eq_of_lt, pow_mono}
use Rattle.basics.proofs.Kit.{lit<, length, take, drop, get_or, length-append, length-take, length-drop, take-append-drop, length-replicate, replicate-append-replicate, take_at}
use Rattle.basics.proofs.Kit.{drop-append_seam, drop_at, arith}
use Rattle.basics.proofs.Elements.{all_append, all_take, all_drop}
use Rattle.basics.proofs.Lists.{all_each}
use Rattle.block_bits.specs.Bits.{bits_of, bits_in, number, field}
use Rattle.basics.specs.Lists.{over}
use Rattle.block_bits.specs.Fields.{put_all, get_all, widths, values, total, Fit}
use Rattle.block_bits.proofs.Numbers.{length_bits_of, number_bits_of, Bit, Bits, bits_of_lem, number_lt, bits_of_number}
use Rattle.basics.proofs.Overs.{over_middle}
use Rattle.block_forms.specs.Tuple.{Byte, AllBytes}
use Rattle.block_forms.specs.Spell.{zeros, spell, bytes_of, padded, block_of}
use Rattle.block_forms.specs.Limits.{block_bits, block_size}

-- ---- bytes

pub all_bytes : (s : List ℕ) → ((i : ℕ) → get_or s i 0 < 256) → AllBytes s
all_bytes s h = all_each Byte 0 s h

pub bytes_at : (s : List ℕ) → AllBytes s → (i : ℕ) → get_or s i 0 < 256
bytes_at [] h i = lit< tt
bytes_at (x ∷ s) h zero = h.0
bytes_at (x ∷ s) h (suc i) = bytes_at s h.1 i

pub bytes_zeros : (n : ℕ) → AllBytes (zeros n)
bytes_zeros zero = tt
bytes_zeros (suc n) = (omega arith, bytes_zeros n)

-- ---- bytes and bits

small : (b : ℕ) → b < 256 → b % 2 ^ 8 ≡ b
small b h = mod-eq_of_lt h

-- bytes are their bits
pub bytes_bits : (s : List ℕ) → AllBytes s → bytes_of (length s) (bits_in s) ≡ s
unfolding bytes_of bits_in
bytes_bits [] h = refl
bytes_bits (b ∷ s) h =
    rw (take_at (bits_of 8 b) (bits_in s) 8 (length_bits_of 8 b), drop_at (bits_of 8 b) (bits_in s) 8 (length_bits_of 8 b), bytes_bits s h.1, number_bits_of 8 b, small b h.0)

pub bits_bytes : (n : ℕ) (b : List ℕ) → length b ≡ 8 * n → Bits b → bits_in (bytes_of n b) ≡ b
unfolding bytes_of bits_in
bits_bytes zero [] e h = refl
bits_bytes zero (x ∷ b) e h = absurd (omega arith)
bits_bytes (suc n) b e h =
    let l : length (take 8 b) ≡ 8 = simp length-take (omega arith) in
    let d : length (drop 8 b) ≡ 8 * n = simp length-drop (omega arith) in
    let p : bits_of 8 (number (take 8 b)) ≡ take 8 b = ap (λ (k : ℕ). bits_of k (number (take 8 b))) (sym l) ∙ bits_of_number (take 8 b) (all_take Bit 8 b h) in
    rw (p, bits_bytes n (drop 8 b) d (all_drop Bit 8 b h)) (take-append-drop 8 b)

pub length_bytes_of : (n : ℕ) (b : List ℕ) → length (bytes_of n b) ≡ n
unfolding bytes_of
length_bytes_of zero b = refl
length_bytes_of (suc n) b = ap suc (length_bytes_of n (drop 8 b))

pub bytes_of_bits : (n : ℕ) (b : List ℕ) → Bits b → AllBytes (bytes_of n b)
unfolding bytes_of
bytes_of_bits zero b h = tt
bytes_of_bits (suc n) b h =
    let w : length (take 8 b) ≤ 8 = simp length-take (omega arith) in
    (lt_of_lt_of_le (number_lt (take 8 b) (all_take Bit 8 b h)) (pow_mono w), bytes_of_bits n (drop 8 b) (all_drop Bit 8 b h))

-- ---- fields

pub length_spell : (fs : List (ℕ × ℕ)) → length (spell fs) ≡ total fs
unfolding spell
length_spell [] = refl
length_spell (f ∷ fs) = rw (length-append (bits_of f.0 f.1) (spell fs), length_bits_of f.0 f.1, length_spell fs)

pub spell_bits : (fs : List (ℕ × ℕ)) → Bits (spell fs)
unfolding spell
spell_bits [] = tt
spell_bits (f ∷ fs) = all_append Bit (bits_of f.0 f.1) (spell fs) (bits_of_lem f.0 f.1) (spell_bits fs)

pub length_zeros : (n : ℕ) → length (zeros n) ≡ n
length_zeros n = length-replicate n 0

pub zeros_add : (m n : ℕ) → zeros m ++ zeros n ≡ zeros (m + n)
zeros_add m n = replicate-append-replicate m n 0

zero_bits : (n : ℕ) → Bits (zeros n)
zero_bits zero = tt
zero_bits (suc n) = (omega arith, zero_bits n)

-- the fields of a spelling, wherever it stands
pub get_spelled : (fs : List (ℕ × ℕ)) (p q : List ℕ) → Fit fs → get_all (p ++ (spell fs ++ q)) (length p) (widths fs) ≡ values fs
unfolding spell field
get_spelled [] p q fit = refl
get_spelled (f ∷ fs) p q fit =
    let X = bits_of f.0 f.1 in
    let S = spell fs in
    let a : (X ++ S) ++ q ≡ X ++ (S ++ q) = append_assoc X S q in
    let l : length (p ++ X) ≡ length p + f.0 = rw (length-append p X, length_bits_of f.0 f.1) in
    let b : p ++ (X ++ (S ++ q)) ≡ (p ++ X) ++ (S ++ q) = sym (append_assoc p X (S ++ q)) in
    let v : number (take f.0 (drop (length p) (p ++ (X ++ (S ++ q))))) ≡ f.1 =
    rw (drop-append_seam p (X ++ (S ++ q)), take_at X (S ++ q) f.0 (length_bits_of f.0 f.1), number_bits_of f.0 f.1) (mod-eq_of_lt fit.0) in
    let r : get_all (p ++ (X ++ (S ++ q))) (length p + f.0) (widths fs) ≡ values fs = rw (b, ← l) (get_spelled fs (p ++ X) q fit.1) in
    let w : get_all (p ++ (X ++ (S ++ q))) (length p) (widths (f ∷ fs)) ≡ values (f ∷ fs) = λ i. v i ∷ r i in
    ap (λ (z : List ℕ). get_all (p ++ z) (length p) (widths (f ∷ fs))) a ∙ w

pub length_filled : (d : List ℕ) → length d ≤ block_bits → length (padded d) ≡ block_bits
unfolding padded
length_filled d h = rw (length-append d (zeros (block_bits - length d)), length_zeros (block_bits - length d)) (omega arith)

filled_bits : (fs : List (ℕ × ℕ)) → Bits (padded (spell fs))
unfolding padded
filled_bits fs = all_append Bit (spell fs) (zeros (block_bits - length (spell fs))) (spell_bits fs) (zero_bits (block_bits - length (spell fs)))

pub length_block : (fs : List (ℕ × ℕ)) → length (block_of fs) ≡ block_size
unfolding block_of
length_block fs = length_bytes_of block_size (padded (spell fs))

pub block_bytes : (fs : List (ℕ × ℕ)) → AllBytes (block_of fs)
unfolding block_of
block_bytes fs = bytes_of_bits block_size (padded (spell fs)) (filled_bits fs)

-- bytes with the bits of a block of fields are that block
pub block_is : (fs : List (ℕ × ℕ)) (s : List ℕ) → length s ≡ block_size → AllBytes s → bits_in s ≡ padded (spell fs) → s ≡ block_of fs
unfolding block_of
block_is fs s k b e = sym (bytes_bits s b) ∙ rw (k, e)

pub filled_spell : (fs : List (ℕ × ℕ)) → total fs ≤ block_bits → bits_in (block_of fs) ≡ padded (spell fs)
unfolding block_of
filled_spell fs h =
    let l : length (spell fs) ≤ block_bits = rw (length_spell fs) h in
    bits_bytes block_size (padded (spell fs)) (length_filled (spell fs) l) (filled_bits fs)

-- what is spelled is read back, at every width
pub block_fields_lem : (fs : List (ℕ × ℕ)) → total fs ≤ block_bits → Fit fs → get_all (bits_in (block_of fs)) 0 (widths fs) ≡ values fs
unfolding padded
block_fields_lem fs h fit = rw (filled_spell fs h) (get_spelled fs [] (zeros (block_bits - length (spell fs))) fit)

split_room : (a b : ℕ) → a + b ≤ block_bits → block_bits - a ≡ b + (block_bits - (a + b))
split_room a b h = omega arith

-- one field more
pub put_next : (d x : List ℕ) → length d + length x ≤ block_bits → over (padded d) (length d) x ≡ padded (d ++ x)
unfolding padded
put_next d x h =
    let k = block_bits - length d in
    let e : zeros (block_bits - length d) ≡ zeros (length x) ++ zeros (block_bits - (length d + length x)) =
    ap zeros (split_room (length d) (length x) h) ∙ sym (zeros_add (length x) (block_bits - (length d + length x))) in
    rw (e, over_middle d (zeros (length x)) (zeros (block_bits - (length d + length x))) x (sym (length_zeros (length x))), length-append d x)
    (sym (append_assoc d x (zeros (block_bits - (length d + length x)))))

pub spell_append : (fs gs : List (ℕ × ℕ)) → spell (fs ++ gs) ≡ spell fs ++ spell gs
unfolding spell
spell_append [] gs = refl
spell_append (f ∷ fs) gs = rw (spell_append fs gs) (sym (append_assoc (bits_of f.0 f.1) (spell fs) (spell gs)))

spell_one : (f : ℕ × ℕ) → spell (f ∷ []) ≡ bits_of f.0 f.1
unfolding spell
spell_one f = append-nil (bits_of f.0 f.1)

-- fields put one after another into a block that is filled from the front
pub put_fields : (fs done : List (ℕ × ℕ)) (at : ℕ) → at ≡ length (spell done) → at + total fs ≤ block_bits → put_all (padded (spell done)) at fs ≡ padded (spell (done ++ fs))
put_fields [] done at e h = ap (λ (l : List (ℕ × ℕ)). padded (spell l)) (sym (append-nil done))
put_fields (f ∷ fs) done at e h =
    let X = bits_of f.0 f.1 in
    let w = length_bits_of f.0 f.1 in
    let p : over (padded (spell done)) at X ≡ padded (spell done ++ X) = rw e (put_next (spell done) X (omega arith)) in
    let q : spell done ++ X ≡ spell (done ++ (f ∷ [])) = sym (spell_append done (f ∷ []) ∙ ap (λ (l : List ℕ). spell done ++ l) (spell_one f)) in
    let n : at + f.0 ≡ length (spell (done ++ (f ∷ []))) = rw (← q, length-append (spell done) X) (omega arith) in
    rw (p, q) (put_fields fs (done ++ (f ∷ [])) (at + f.0) n (omega arith) ∙ ap (λ (l : List (ℕ × ℕ)). padded (spell l)) (append_assoc done (f ∷ []) fs))

zero_byte : (b : List ℕ) → bits_of 8 0 ++ b ≡ zeros 8 ++ b
unfolding bits_of
zero_byte b = refl

pub zero_bits_in : (n : ℕ) → bits_in (zeros n) ≡ zeros (8 * n)
unfolding bits_in
zero_bits_in zero = refl
zero_bits_in (suc n) =
    let e : 8 * suc n ≡ 8 + 8 * n = omega arith in
    rw (zero_bits_in n, zero_byte (zeros (8 * n)), zeros_add 8 (8 * n), e)

pub empty_block : bits_in (zeros block_size) ≡ padded []
unfolding padded
empty_block = zero_bits_in block_size

-- a block of zeros in which fields were put from the front
pub whole_block : (fs : List (ℕ × ℕ)) (z s : List ℕ) → z ≡ zeros block_size → total fs ≤ block_bits → length s ≡ block_size → ((i : ℕ) → get_or s i 0 < 256)
    → bits_in s ≡ put_all (bits_in z) 0 fs → s ≡ block_of fs
unfolding spell
whole_block fs z s e h k b p = block_is fs s k (all_bytes s b) (p ∙ rw (e, empty_block) (put_fields fs [] 0 refl (omega arith)))
