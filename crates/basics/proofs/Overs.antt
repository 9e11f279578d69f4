-- Laws of `over`, at lists of any length.
use Rattle.basics.proofs.Kit.{◌≡◌, refl, sym, ◌∙◌, List, [], ◌++◌, append_assoc, ℕ, ◌+◌, ◌-◌, ◌≤◌, add-zero, add_assoc, length, take, drop, length-append, length-take, length-drop}
use Rattle.basics.proofs.Kit.{take-append-drop, take_at, drop-append_seam, drop-drop, take-append-add, take-append-le, take-append_seam, drop-append-add, drop-append-le, drop_at, arith}
use Rattle.basics.proofs.Kit.{ap, ◌∷◌, ◌<◌, zero-add, add-one, get_or, set, set_split, take-suc, get_or-drop}
use borrow.Rule.Slice.PartMut.{put_mid}
use Rattle.basics.specs.Lists.{over}

over_def : (s : List ℕ) (at : ℕ) (xs : List ℕ) → over s at xs ≡ take at s ++ (xs ++ drop (at + length xs) s)
unfolding over
over_def s at xs = refl

pub over_nil : (s : List ℕ) (at : ℕ) → over s at [] ≡ s
unfolding over
over_nil s at = rw (add-zero at) (take-append-drop at s)

-- over the first elements
pub over_front : (s xs : List ℕ) → over s 0 xs ≡ xs ++ drop (length xs) s
unfolding over
over_front s xs = ap (λ n. xs ++ drop n s) (zero-add (length xs))

pub length_over : (s xs : List ℕ) (at : ℕ) → at + length xs ≤ length s → length (over s at xs) ≡ length s
unfolding over
length_over s xs at h = simp (length-append, length-take, length-drop) (omega arith)

-- over the whole of the middle
pub over_middle : (p m q xs : List ℕ) → length xs ≡ length m → over (p ++ (m ++ q)) (length p) xs ≡ p ++ (xs ++ q)
unfolding over
over_middle p m q xs e = rw (e, take-append_seam p (m ++ q), drop-append-add p (m ++ q) (length m), drop-append_seam m q)

-- over a part of the middle
over_inner : (p m q xs : List ℕ) (r : ℕ) → r + length xs ≤ length m → over (p ++ (m ++ q)) (length p + r) xs ≡ p ++ (over m r xs ++ q)
unfolding over
over_inner p m q xs r h =
    let hr : r ≤ length m = omega arith in
    rw (add_assoc (length p) r (length xs), take-append-add p (m ++ q) r, drop-append-add p (m ++ q) (r + length xs), take-append-le r m q hr, drop-append-le (r + length xs) m q h)
    (simp append_assoc)

pub length_part : (n k : ℕ) (s : List ℕ) → k + n ≤ length s → length (take n (drop k s)) ≡ n
length_part n k s h = simp (length-take, length-drop) (omega arith)

-- one after another
pub over_over : (s xs ys : List ℕ) (at : ℕ) → at + length xs ≤ length s → over (over s at xs) (at + length xs) ys ≡ over s at (xs ++ ys)
unfolding over
over_over s xs ys at h =
    let n : ℕ = at + length xs in
    let P : List ℕ = take at s ++ xs in
    let D : List ℕ = drop n s in
    let lP : length P ≡ n = simp (length-append, length-take) (omega arith) in
    let e : over s at xs ≡ P ++ D = sym (append_assoc (take at s) xs D) in
    rw (e, take_at P D n lP, ← drop-drop (length ys) n (P ++ D), drop_at P D n lP, drop-drop (length ys) n s, length-append xs ys, ← add_assoc at (length xs) (length ys))
    (simp append_assoc)

-- a part with xs over it, put back, is the whole with xs over it
pub over_part : (s xs : List ℕ) (at w r : ℕ) → at + w ≤ length s → r + length xs ≤ w → over s at (over (take w (drop at s)) r xs) ≡ over s (at + r) xs
over_part s xs at w r h k =
    let P : List ℕ = take at s in
    let W : List ℕ = take w (drop at s) in
    let Q : List ℕ = drop (at + w) s in
    let lP : length P ≡ at = simp length-take (omega arith) in
    let lW : length W ≡ w = simp (length-take, length-drop) (omega arith) in
    let lO : length (over W r xs) ≡ w = length_over W xs r (omega arith) ∙ lW in
    let parts : P ++ (W ++ Q) ≡ s = rw (← drop-drop w at s, take-append-drop w (drop at s)) (take-append-drop at s) in
    let inner : over (P ++ (W ++ Q)) (length P + r) xs ≡ P ++ (over W r xs ++ Q) = over_inner P W Q xs r (omega arith) in
    over_def s at (over W r xs) ∙ rw lO (rw (parts, lP) at (sym inner))

-- elements copied over a part, as the library says it
pub put_over : (s : List ℕ) (at end : ℕ) {ys xs : List ℕ} → ys ≡ xs → end ≡ at + length xs → put_mid at (end - at) s ys ≡ over s at xs
unfolding over
put_over s at end {xs = xs} p e = let n : end - at ≡ length xs = omega arith in rw (p, n, drop-drop (length xs) at s)

-- and a part of another list
pub part_over : (s from : List ℕ) (at end start n : ℕ) {ys : List ℕ} → ys ≡ take (start + n - start) (drop start from) → start + n ≤ length from → end ≡ at + n
    → put_mid at (end - at) s ys ≡ over s at (take n (drop start from))
part_over s from at end start n p h e =
    let k : start + n - start ≡ n = omega arith in
    put_over s at end (rw k at p) (omega (arith, length_part n start from h))

-- ---- element by element

pub set_over : (m : List ℕ) (i v : ℕ) → i < length m → set m i v ≡ over m i (v ∷ [])
unfolding over
set_over m i v h = set_split m i v h ∙ rw (add-one i)

pub set_next : (m xs : List ℕ) (at n v : ℕ) → n ≡ length xs → at + length xs < length m → set (over m at xs) (at + n) v ≡ over m at (xs ++ (v ∷ []))
set_next m xs at n v e h =
    let l : length (over m at xs) ≡ length m = length_over m xs at (omega arith) in
    rw e (set_over (over m at xs) (at + length xs) v (omega arith) ∙ over_over m xs (v ∷ []) at (omega arith))

pub put_four : (m : List ℕ) (at a b c d : ℕ) → at + 4 ≤ length m
    → set (set (set (set m at a) (at + 1) b) (at + 2) c) (at + 3) d ≡ over m at (a ∷ b ∷ c ∷ d ∷ [])
put_four m at a b c d h =
    rw (
      set_over m at a (omega arith),
      set_next m (a ∷ []) at 1 b refl (omega arith),
      set_next m (a ∷ b ∷ []) at 2 c refl (omega arith),
      set_next m (a ∷ b ∷ c ∷ []) at 3 d refl (omega arith),
    )

pub over_then : (m xs ys : List ℕ) (at n : ℕ) → n ≡ length xs → at + length xs ≤ length m → over (over m at xs) (at + n) ys ≡ over m at (xs ++ ys)
over_then m xs ys at n e h = rw e (over_over m xs ys at h)

-- one entry more
pub put_iteration : (m s : List ℕ) (at i v : ℕ) → at + i < length m → i < length s → v ≡ get_or s i 0
    → set (over m at (take i s)) (at + i) v ≡ over m at (take (i + 1) s)
put_iteration m s at i v hm hs e =
    let l : i ≡ length (take i s) = simp length-take (omega arith) in
    set_next m (take i s) at i v l (omega arith) ∙ ap (over m at) (rw (e, add-one i) (sym (take-suc s i 0 hs)))

-- one element more of a part of another list
pub copy_iteration : (m s : List ℕ) (at start i : ℕ) → at + i < length m → start + i < length s
    → set (over m at (take i (drop start s))) (at + i) (get_or s (start + i) 0) ≡ over m at (take (i + 1) (drop start s))
copy_iteration m s at start i h k =
    let d : i < length (drop start s) = rw (length-drop start s) (omega arith) in
    let l : length (take i (drop start s)) ≡ i = simp length-take (omega arith) in
    rw (← get_or-drop start s i 0, set_next m (take i (drop start s)) at i (get_or (drop start s) i 0) (sym l) (omega arith), add-one i)
    (ap (over m at) (sym (take-suc (drop start s) i 0 d)))
