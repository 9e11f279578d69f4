-- Numbers and bytes read before and after a change of other bytes, and behind one that moved or wrote them.
use Rattle.basics.proofs.Kit.{◌≡◌, sym, ap, ◌∙◌, ⊎_elim, List, ◌∷◌, ◌++◌, append-nil, ℕ, ◌+◌, ◌%◌, ◌≤◌, ◌<◌, ◌/◌, ◌-◌, add-zero, zero-add, length, take, drop, get_or, length-append, length-drop}
use Rattle.basics.proofs.Kit.{replicate, length-replicate, drop_of_length-le, List·getD-append, get_or-drop, get_or-take, get_or-append-add, ext_get_or, arith}
use Rattle.memory_bytes.specs.Bytes.{le2, le4, bytes, bytes2, bytes4, Apart, Raised, Lowered, Wrote}
use Rattle.basics.proofs.Overs.{length_part}
use Rattle.basics.proofs.Tabs.{lt_or_ge, tab_cong, tab_self, length_tab, get_d_tab}

pub length_bytes : (m : List ℕ) (a n : ℕ) → length (bytes m a n) ≡ n
unfolding bytes
length_bytes m a n = length_tab (λ k. get_or m k 0) a n

pub get_d_bytes : (m : List ℕ) (a n k : ℕ) → k < n → get_or (bytes m a n) k 0 ≡ get_or m (a + k) 0
unfolding bytes
get_d_bytes m a n k h = get_d_tab (λ j. get_or m j 0) a n k 0 h

-- a part of the memory, by its bytes
pub part_bytes : (m : List ℕ) (a n : ℕ) → a + n ≤ length m → take n (drop a m) ≡ bytes m a n
part_bytes m a n h =
    let l : length (take n (drop a m)) ≡ n = length_part n a m h in
    ext_get_or 0 (take n (drop a m)) (bytes m a n) (l ∙ sym (length_bytes m a n))
    (λ k b. let s : k < n = omega arith in get_or-take n (drop a m) k 0 s ∙ get_or-drop a m k 0 ∙ sym (get_d_bytes m a n k s))

-- ---- equal bytes, equal readings

pub bytes_cong : (m m' : List ℕ) (a b n : ℕ) → ((k : ℕ) → k < n → get_or m' (b + k) 0 ≡ get_or m (a + k) 0) → bytes m' b n ≡ bytes m a n
unfolding bytes
bytes_cong m m' a b n h = tab_cong (λ k. get_or m' k 0) (λ k. get_or m k 0) b a n h

pub le2_cong : (m m' : List ℕ) (a b : ℕ) → ((k : ℕ) → k < 2 → get_or m' (b + k) 0 ≡ get_or m (a + k) 0) → le2 m' b ≡ le2 m a
unfolding le2
le2_cong m m' a b h =
    let e : get_or m' b 0 ≡ get_or m a 0 = rw (add-zero, add-zero) at (h 0 (omega arith)) in
    omega (arith, h 1 (omega arith))

pub le4_cong : (m m' : List ℕ) (a b : ℕ) → ((k : ℕ) → k < 4 → get_or m' (b + k) 0 ≡ get_or m (a + k) 0) → le4 m' b ≡ le4 m a
unfolding le4
le4_cong m m' a b h =
    let e : get_or m' b 0 ≡ get_or m a 0 = rw (add-zero, add-zero) at (h 0 (omega arith)) in
    omega (arith, h 1 (omega arith), h 2 (omega arith), h 3 (omega arith))

-- ---- below or above the bytes that may differ

module _ {m m' : List ℕ} {a n : ℕ} (s : Apart m m' a n) (b : ℕ) where
  pub le2_below : b + 2 ≤ a → le2 m' b ≡ le2 m b
  le2_below h = le2_cong m m' b b (λ k p. s.below (b + k) (omega arith))

  pub le2_above : a + n ≤ b → le2 m' b ≡ le2 m b
  le2_above h = le2_cong m m' b b (λ k p. s.above (b + k) (omega arith))

  pub le4_below : b + 4 ≤ a → le4 m' b ≡ le4 m b
  le4_below h = le4_cong m m' b b (λ k p. s.below (b + k) (omega arith))

  pub le4_above : a + n ≤ b → le4 m' b ≡ le4 m b
  le4_above h = le4_cong m m' b b (λ k p. s.above (b + k) (omega arith))

  pub bytes_above : (l : ℕ) → a + n ≤ b → bytes m' b l ≡ bytes m b l
  bytes_above l h = bytes_cong m m' b b l (λ k p. s.above (b + k) (omega arith))

-- ---- moved up

module _ {m m' : List ℕ} {lo hi w : ℕ} (s : Raised m m' lo hi w) (b : ℕ) (h : lo ≤ b) where
  byte_raised : (n : ℕ) → b + n ≤ hi → (k : ℕ) → k < n → get_or m' (b + w + k) 0 ≡ get_or m (b + k) 0
  byte_raised n f k p = let e : b + w + k ≡ b + k + w = omega arith in ap (λ (z : ℕ). get_or m' z 0) e ∙ s.moved (b + k) (omega arith) (omega arith)

  pub le2_raised : b + 2 ≤ hi → le2 m' (b + w) ≡ le2 m b
  le2_raised f = le2_cong m m' b (b + w) (byte_raised 2 f)

  pub le4_raised : b + 4 ≤ hi → le4 m' (b + w) ≡ le4 m b
  le4_raised f = le4_cong m m' b (b + w) (byte_raised 4 f)

-- ---- moved down

module _ {m m' : List ℕ} {lo hi w : ℕ} (s : Lowered m m' lo hi w) (b : ℕ) (h : lo ≤ b) where
  byte_lowered : (n : ℕ) → b + w + n ≤ hi → (k : ℕ) → k < n → get_or m' (b + k) 0 ≡ get_or m (b + w + k) 0
  byte_lowered n f k p = let e : b + k + w ≡ b + w + k = omega arith in s.moved (b + k) (omega arith) (omega arith) ∙ ap (λ (z : ℕ). get_or m z 0) e

  pub le2_lowered : b + w + 2 ≤ hi → le2 m' b ≡ le2 m (b + w)
  le2_lowered f = le2_cong m m' (b + w) b (byte_lowered 2 f)

  pub le4_lowered : b + w + 4 ≤ hi → le4 m' b ≡ le4 m (b + w)
  le4_lowered f = le4_cong m m' (b + w) b (byte_lowered 4 f)

-- ---- written

module _ {m m' : List ℕ} {a : ℕ} where
  -- what was written is read
  pub bytes_wrote : {xs : List ℕ} → Wrote m m' a xs → bytes m' a (length xs) ≡ xs
  unfolding bytes
  bytes_wrote {xs} s =
      tab_cong (λ k. get_or m' k 0) (λ k. get_or xs k 0) a 0 (length xs) (λ k h. s.here k h ∙ ap (λ (z : ℕ). get_or xs z 0) (sym (zero-add k))) ∙ tab_self xs

  first_wrote : {x : ℕ} {xs : List ℕ} → Wrote m m' a (x ∷ xs) → get_or m' a 0 ≡ x
  first_wrote {x} {xs} s = rw add-zero at (s.here 0 (omega arith))

  pub le2_wrote : (x : ℕ) → x < 65536 → Wrote m m' a (bytes2 x) → le2 m' a ≡ x
  unfolding le2
  le2_wrote x h s = omega (arith, first_wrote s, s.here 1 (omega arith))

  pub le4_wrote : (x : ℕ) → x < 4294967296 → Wrote m m' a (bytes4 x) → le4 m' a ≡ x
  unfolding le4
  le4_wrote x h s =
      let e2 : x / 65536 ≡ x / 256 / 256 = omega arith in
      let e3 : x / 16777216 ≡ x / 65536 / 256 = omega arith in
      let top : x / 16777216 % 256 ≡ x / 16777216 = omega arith in
      omega (arith, first_wrote s, s.here 1 (omega arith), s.here 2 (omega arith), s.here 3 (omega arith))

-- a block copied out over as many bytes is the bytes that were there
pub copied_whole : (m : List ℕ) (a n : ℕ) {ys : List ℕ} → ys ≡ bytes m a n ++ drop n (replicate n 0) → ys ≡ bytes m a n
copied_whole m a n e =
    let h : length (replicate {A = ℕ} n 0) ≤ n = omega (arith, length-replicate {A = ℕ} n 0) in
    e ∙ ap (λ (z : List ℕ). bytes m a n ++ z) (drop_of_length-le (replicate n 0) h) ∙ append-nil (bytes m a n)

-- written from the first byte on
pub front_wrote : {m m' xs : List ℕ} → Wrote m m' 0 xs → length xs ≤ length m → m' ≡ xs ++ drop (length xs) m
front_wrote {m} {m'} {xs} s h =
    let n : ℕ = length xs in
    ext_get_or 0 m' (xs ++ drop n m) (s.apart.size ∙ simp (length-append, length-drop) (omega arith))
    (λ i b. ⊎_elim
    (λ p. ap (λ (z : ℕ). get_or m' z 0) (sym (zero-add i)) ∙ s.here i p ∙ sym (List·getD-append xs (drop n m) 0 i p))
    (λ p. let e : i ≡ n + (i - n) = omega arith in
    s.apart.above i (omega arith) ∙ ap (λ (z : ℕ). get_or m z 0) e
    ∙ sym (ap (λ (z : ℕ). get_or (xs ++ drop n m) z 0) e ∙ get_or-append-add xs (drop n m) (i - n) 0 ∙ get_or-drop n m (i - n) 0))
    (lt_or_ge i n))
