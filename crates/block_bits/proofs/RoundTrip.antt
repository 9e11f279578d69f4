-- What is put is got back, and nothing else changes: for one field at any width and offset (`put_law`), and for fields one after
-- another (`round_trip`); putting what was got changes nothing (`get_law`); bytes are known by their bits (`same_bits`).
use Rattle.basics.proofs.Kit.{◌≡◌, refl, sym, ap, ◌∙◌, ⊎_elim, List, [], ◌∷◌, ◌++◌, append_assoc, ℕ, suc, ◌+◌, ◌%◌, ◌^◌, ◌≤◌, ◌<◌, ◌-◌, mod-eq_of_lt, length, take, drop, length-append}
use Rattle.basics.proofs.Kit.{length-take, length-drop, take-append-drop, take_at, drop-drop, take-append-le, drop-append-le, drop_at, arith}
use Rattle.basics.proofs.Lists.{all_each}
use Rattle.block_bits.specs.Bits.{bits_of, bits_in, number, field}
use Rattle.basics.specs.Lists.{over}
use Rattle.block_bits.specs.Fields.{put_all, get_all, widths, values, total}
use Rattle.block_bits.specs.Laws.{PutLaw, GetLaw, FieldsLaw, SameBits}
use Rattle.basics.proofs.Overs.{length_over}
use Rattle.block_bits.proofs.Blocks.{length_bits_in}
use Rattle.block_bits.proofs.Numbers.{length_bits_of, number_bits_of, Bit, bits_field}

put_get : (s : List ℕ) (at w v : ℕ) → at + w ≤ length s → field (over s at (bits_of w v)) at w ≡ v % 2 ^ w
unfolding over field
put_get s at w v h =
    let X : List ℕ = bits_of w v in
    let D : List ℕ = drop (at + length X) s in
    let lP : length (take at s) ≡ at = simp length-take (omega arith) in
    rw (drop_at (take at s) (X ++ D) at lP, take_at X D w (length_bits_of w v)) (number_bits_of w v)

-- what stands after p does not matter to a field of p
pub front : (p q : List ℕ) (at w : ℕ) → at + w ≤ length p → field (p ++ q) at w ≡ field p at w
unfolding field
front p q at w h =
    let hd : at ≤ length p = omega arith in
    let ht : w ≤ length (drop at p) = rw (length-drop at p) (omega arith) in
    rw (drop-append-le at p q hd, take-append-le w (drop at p) q ht)

put_before : (s xs : List ℕ) (at at' w' : ℕ) → at ≤ length s → at' + w' ≤ at → field (over s at xs) at' w' ≡ field s at' w'
unfolding over field
put_before s xs at at' w' l h =
    let lP : length (take at s) ≡ at = simp length-take (omega arith) in
    front (take at s) (xs ++ drop (at + length xs) s) at' w' (omega arith)
    ∙ sym (front (take at s) (drop at s) at' w' (omega arith)) ∙ ap (λ (b : List ℕ). field b at' w') (take-append-drop at s)

put_after : (s xs : List ℕ) (at at' w' : ℕ) → at + length xs ≤ length s → at + length xs ≤ at' → field (over s at xs) at' w' ≡ field s at' w'
unfolding over field
put_after s xs at at' w' l h =
    let n : ℕ = at + length xs in
    let e : at' ≡ n + (at' - n) = omega arith in
    let P : List ℕ = take at s ++ xs in
    let lP : length P ≡ n = simp (length-append, length-take) (omega arith) in
    let same : drop at' (over s at xs) ≡ drop at' s =
    rw (e, ← append_assoc (take at s) xs (drop n s), ← drop-drop (at' - n) n (P ++ drop n s), ← drop-drop (at' - n) n s, drop_at P (drop n s) n lP) in
    ap (λ (b : List ℕ). number (take w' b)) same

-- a value that was put is got back, and a field apart from it is what it was
pub put_law : PutLaw
put_law s at w v h b = (
  put_get s at w v h ∙ mod-eq_of_lt b,
  λ at' w'. ⊎_elim
      (λ (p : at' + w' ≤ at). put_before s (bits_of w v) at at' w' (omega arith) p)
      (λ (p : at + w ≤ at'). put_after s (bits_of w v) at at' w' (rw (length_bits_of w v) h) (rw (length_bits_of w v) p)),
)

-- putting what was got leaves the bits as they were
pub get_law : GetLaw
unfolding over
get_law s at w b h =
    let l : length (take w (drop at s)) ≡ w = simp (length-take, length-drop) (omega arith) in
    rw (bits_field s at w (all_each Bit 0 s b) h, l, ← drop-drop w at s, take-append-drop w (drop at s), take-append-drop at s)

-- ---- fields one after another

length_put : (s : List ℕ) (at w v : ℕ) → at + w ≤ length s → length (over s at (bits_of w v)) ≡ length s
length_put s at w v h = length_over s (bits_of w v) at (rw (length_bits_of w v) h)

-- a field before the fields is what it was
put_all_before : (fs : List (ℕ × ℕ)) (s : List ℕ) (at at' w' : ℕ) → at + total fs ≤ length s → at' + w' ≤ at → field (put_all s at fs) at' w' ≡ field s at' w'
put_all_before [] s at at' w' h b = refl
put_all_before (f ∷ fs) s at at' w' h b =
    let e : length (over s at (bits_of f.0 f.1)) ≡ length s = length_put s at f.0 f.1 (omega arith) in
    put_all_before fs (over s at (bits_of f.0 f.1)) (at + f.0) at' w' (omega arith) (omega arith)
    ∙ put_before s (bits_of f.0 f.1) at at' w' (omega arith) b

-- fields that were put are got back
pub round_trip : FieldsLaw
round_trip [] s at h fit = refl
round_trip (f ∷ fs) s at h fit =
    let s' : List ℕ = over s at (bits_of f.0 f.1) in
    let e : length s' ≡ length s = length_put s at f.0 f.1 (omega arith) in
    let head : field (put_all s' (at + f.0) fs) at f.0 ≡ f.1 =
    put_all_before fs s' (at + f.0) at f.0 (omega arith) (omega arith) ∙ (put_law s at f.0 f.1 (omega arith) fit.0).0 in
    let tail : get_all (put_all s' (at + f.0) fs) (at + f.0) (widths fs) ≡ values fs = round_trip fs s' (at + f.0) (omega arith) fit.1 in
    λ i. head i ∷ tail i

-- ---- bytes and their bits

same_byte : (b c : ℕ) → b < 256 → c < 256 → bits_of 8 b ≡ bits_of 8 c → b ≡ c
same_byte b c hb hc e = sym (mod-eq_of_lt hb) ∙ sym (number_bits_of 8 b) ∙ ap number e ∙ number_bits_of 8 c ∙ mod-eq_of_lt hc

pub same_bits : SameBits
unfolding bits_in
same_bits [] [] hs ht e = refl
same_bits [] (c ∷ t) hs ht e = absurd (omega (arith, ap length e ∙ length_bits_in (c ∷ t)))
same_bits (b ∷ s) [] hs ht e = absurd (omega (arith, sym (ap length e) ∙ length_bits_in (b ∷ s)))
same_bits (b ∷ s) (c ∷ t) hs ht e =
    let first : bits_of 8 b ≡ bits_of 8 c =
    sym (take_at (bits_of 8 b) (bits_in s) 8 (length_bits_of 8 b)) ∙ ap (take 8) e ∙ take_at (bits_of 8 c) (bits_in t) 8 (length_bits_of 8 c) in
    let after : bits_in s ≡ bits_in t =
    sym (drop_at (bits_of 8 b) (bits_in s) 8 (length_bits_of 8 b)) ∙ ap (drop 8) e ∙ drop_at (bits_of 8 c) (bits_in t) 8 (length_bits_of 8 c) in
    let head = same_byte b c (hs 0) (ht 0) first in
    let tail = same_bits s t (λ i. hs (suc i)) (λ i. ht (suc i)) after in
    λ i. head i ∷ tail i
