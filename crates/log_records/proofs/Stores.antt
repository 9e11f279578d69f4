-- Runs of stores: a record's bytes put one after another, and the two stores of a record.
use Rattle.basics.proofs.Kit.{◌≡◌, refl, ap, ◌∙◌, List, [], ◌∷◌, ◌++◌, append-nil, ℕ, suc, ◌+◌, ◌-◌, ◌≤◌, length, take, drop, set, arith}
use Rattle.basics.proofs.Kit.{length-take, length-drop, take-take, take-append-le, drop_at, drop-drop, drop_of_length-le, take_all}
use borrow.Rule.Slice.PartMut.{put_mid}
use Rattle.basics.specs.Lists.{over}
use Rattle.basics.proofs.Overs.{set_over, set_next, over_then, over_front}
use Rattle.block_forms.specs.Numbers.{be4}
use Rattle.log_records.specs.Bytes.{place_rest}

-- one byte, which is all that is lent
pub one_set : (m : List ℕ) (v : ℕ) → length m ≡ 1 → set m 0 v ≡ v ∷ []
one_set [] v h = absurd (omega arith)
one_set (x ∷ []) v h = refl
one_set (x ∷ y ∷ m) v h = absurd (omega arith)

-- over the whole
pub over_whole : (m xs : List ℕ) → length m ≡ length xs → over m 0 xs ≡ xs
over_whole m xs h = let k : length m ≤ length xs = omega arith in over_front m xs ∙ ap (λ z. xs ++ z) (drop_of_length-le m k) ∙ append-nil xs

-- what is left of a list, as a part of it
pub rest_part : (s : List ℕ) (at : ℕ) → take (length s - at) (drop at s) ≡ drop at s
rest_part s at = take_all (length s - at) (drop at s) (simp length-drop (omega arith))

-- three bytes and a number's four
pub place_put : (m : List ℕ) (a b c k : ℕ) → 7 ≤ length m → over (set (set (set m 0 a) 1 b) 2 c) 3 (be4 k) ≡ over m 0 (a ∷ b ∷ c ∷ be4 k)
place_put m a b c k h =
    rw (
      set_over m 0 a (omega arith),
      set_next m (a ∷ []) 0 1 b refl (omega arith),
      set_next m (a ∷ b ∷ []) 0 2 c refl (omega arith),
      over_then m (a ∷ b ∷ c ∷ []) (be4 k) 0 3 refl (omega arith),
    )

-- and a payload behind them
pub tuple_put : (m bs : List ℕ) (tx t k : ℕ) {m₁ m₂ : List ℕ} → m₁ ≡ over m 0 (place_rest tx t (length bs) k) → m₂ ≡ over m₁ 7 (take (length bs) (drop 0 bs))
    → length m ≡ 7 + length bs → m₂ ≡ place_rest tx t (length bs) k ++ bs
unfolding be4
tuple_put m bs tx t k e f h =
    let P = place_rest tx t (length bs) k in
    f ∙ rw (e, take_all (length bs) bs (omega arith), over_then m P bs 0 7 refl (omega arith)) (over_whole m (P ++ bs) (omega arith))

-- a byte and a number's four, and what was put behind them
pub mark_put : (m : List ℕ) (a l : ℕ) {m₁ p q : List ℕ} → 5 ≤ length m → m₁ ≡ over (set m 0 a) 1 (be4 l) → p ≡ q
    → take 5 m₁ ++ (p ++ drop (length m₁ - 5) (drop 5 m₁)) ≡ (a ∷ be4 l) ++ q
unfolding be4
mark_put m a l {m₁} h e f =
    let H = a ∷ be4 l in
    let first : m₁ ≡ (a ∷ be4 l) ++ drop 5 m =
    e ∙ rw (set_over m 0 a (omega arith), over_then m (a ∷ []) (be4 l) 0 1 refl (omega arith)) (over_front m H) in
    let none : drop (length m₁ - 5) (drop 5 m₁) ≡ [] = drop_of_length-le (drop 5 m₁) {i = length m₁ - 5} (simp length-drop (omega arith)) in
    rw (none, append-nil) (rw (f, first))

-- what was lent of a log stands in it again
abbrev pub lent_back : List ℕ → ℕ → ℕ → List ℕ → List ℕ
lent_back log a e part = take a log ++ (part ++ drop (e - a) (drop a log))

-- all behind the first byte, then that byte
pub two_stores : (log : List ℕ) (end behind : ℕ) {f : ℕ} {part one xs : List ℕ} → end + length xs ≤ length log → behind ≡ end + length xs → f ∷ part ≡ xs → one ≡ f ∷ []
    → lent_back (lent_back log (end + 1) behind part) end (end + 1) one ≡ over log end xs
unfolding over
two_stores log end behind {f} {part} {xs = xs} room e p q =
    let Q = drop (behind - (end + 1)) (drop (end + 1) log) in
    let l : suc (length part) ≡ length xs = ap length p in
    let a : end + 1 - end ≡ 1 = omega arith in
    let t : length (take (end + 1) log) ≡ end + 1 = simp length-take (omega arith) in
    let front : take end (take (end + 1) log ++ (part ++ Q)) ≡ take end log =
    take-append-le end (take (end + 1) log) (part ++ Q) (omega arith) ∙ take-take end (end + 1) log (omega arith) in
    let back : drop 1 (drop end (take (end + 1) log ++ (part ++ Q))) ≡ part ++ Q =
    drop-drop 1 end (take (end + 1) log ++ (part ++ Q)) ∙ drop_at (take (end + 1) log) (part ++ Q) (end + 1) t in
    let k : end + 1 + (behind - (end + 1)) ≡ end + length xs = omega arith in
    let last : Q ≡ drop (end + length xs) log = drop-drop (behind - (end + 1)) (end + 1) log ∙ ap (λ n. drop n log) k in
    rw (q, a, front, back, last) (ap (λ z. take end log ++ (z ++ drop (end + length xs) log)) p)
