-- Records appended to a log, and what a cut leaves of them: whole records, and behind them a byte that is zero, or nothing.
use Rattle.basics.proofs.Kit.{◌≡◌, refl, sym, ap, ◌∙◌, subst, true, List, [], ◌∷◌, ◌++◌, append_assoc, append-nil, ℕ, zero, suc, ◌+◌, ◌-◌, ◌≤◌, ◌<◌, eqb, length, take, drop, length-append}
use Rattle.basics.proofs.Kit.{arith}
use Rattle.basics.proofs.Kit.{◌⊎◌, inl, inr, ⊎_elim, drop_at, take_at}
use Rattle.basics.specs.Basics.{sum}
use Rattle.basics.specs.Lists.{over}
use Rattle.basics.proofs.Overs.{over_middle}
use Rattle.block_forms.specs.Spell.{zeros}
use Rattle.block_forms.proofs.Spelled.{length_zeros, zeros_add}
use Rattle.log_records.specs.Records.{LogRecord, log_size, encode_record, encode_records, ended, end_of}
use Rattle.log_records.proofs.Spelling.{two_bytes, length_encoded}
pub use Rattle.log_records.proofs.Logs.{length_records, records_append}
use Rattle.log_model.specs.Disk.{DiskStore, log_store, record_stores, records_stores, forward_stores, Mixed, none, more, Cuts, stop, torn_log, whole_log}

-- ---- records one after another

pub end_append : (a b : List LogRecord) → end_of (a ++ b) ≡ end_of a + end_of b
unfolding end_of sum
end_append [] b = omega arith
end_append (r ∷ a) b = rw (end_append a b) (omega arith)

pub one_record : (r : LogRecord) → encode_records (r ∷ []) ≡ encode_record r
unfolding encode_records
one_record r = append-nil (encode_record r)

pub one_end : (r : LogRecord) → end_of (r ∷ []) ≡ log_size r
unfolding end_of sum
one_end r = omega arith

-- n zeros and more
zeros_split : (k n : ℕ) → n ≤ k → zeros k ≡ zeros n ++ zeros (k - n)
zeros_split k n h = let e : k ≡ n + (k - n) = omega arith in ap zeros e ∙ sym (zeros_add n (k - n))

-- bytes put over as many, behind p
over_behind : (p z q xs : List ℕ) (e : ℕ) → e ≡ length p → length xs ≡ length z → over (p ++ (z ++ q)) e xs ≡ p ++ (xs ++ q)
over_behind p z q xs e h l = ap (λ n. over (p ++ (z ++ q)) n xs) h ∙ over_middle p z q xs l

-- a log with zeros behind its records takes one more
pub append_record : (rs : List LogRecord) (r : LogRecord) (k : ℕ) → log_size r ≤ k
    → over (encode_records rs ++ zeros k) (end_of rs) (encode_record r) ≡ encode_records (rs ++ r ∷ []) ++ zeros (k - log_size r)
append_record rs r k h =
    let P = encode_records rs in
    let Z = zeros (k - log_size r) in
    ap (λ z. over (P ++ z) (end_of rs) (encode_record r)) (zeros_split k (log_size r) h)
    ∙ over_behind P (zeros (log_size r)) Z (encode_record r) (end_of rs) (sym (length_records rs)) (length_encoded r ∙ sym (length_zeros (log_size r)))
    ∙ sym (append_assoc P (encode_record r) Z) ∙ ap (λ z. (P ++ z) ++ Z) (sym (one_record r)) ∙ ap (λ z. z ++ Z) (sym (records_append rs (r ∷ [])))

-- ---- cuts

mixed_length : {xs ys zs : List ℕ} → Mixed xs ys zs → length xs ≡ length zs
mixed_length none = refl
mixed_length (more h m) = ap suc (mixed_length m)

one_mixed : {xs : List ℕ} {y b : ℕ} → Mixed xs (y ∷ []) (b ∷ []) → (xs ≡ y ∷ []) ⊎ (xs ≡ b ∷ [])
one_mixed (more (inl e) none) = inl (ap (λ v. v ∷ []) e)
one_mixed (more (inr e) none) = inr (ap (λ v. v ∷ []) e)

-- A record of the bytes b, bs at the end of p, where zeros stand: its first byte is still zero, or it is whole and the stores go on.
abbrev Half : List ℕ → List ℕ → List ℕ → List ℕ → ℕ → List DiskStore → List ℕ → List ℕ → Type 0
Half img p z bs b ws img' log' = ((img' ≡ img) × ((xs : List ℕ) × (log' ≡ p ++ 0 ∷ xs))) ⊎ Cuts img (p ++ b ∷ (bs ++ z)) ws img' log'

module _ (img p z bs : List ℕ) (b e : ℕ) (h : e ≡ length p) where
  first_put : (x : ℕ) (ys : List ℕ) → over (p ++ 0 ∷ ys) e (x ∷ []) ≡ p ++ x ∷ ys
  first_put x ys = over_behind p (0 ∷ []) ys (x ∷ []) e h refl

  old_first : (ys : List ℕ) → take 1 (drop e (p ++ 0 ∷ ys)) ≡ 0 ∷ []
  old_first ys = ap (take 1) (drop_at p (0 ∷ ys) e (sym h))

  behind_put : (xs : List ℕ) → length xs ≡ length bs → over (p ++ 0 ∷ (zeros (length bs) ++ z)) (e + 1) xs ≡ p ++ 0 ∷ (xs ++ z)
  behind_put xs l =
      let q = p ++ 0 ∷ [] in
      ap (λ y. over y (e + 1) xs) (sym (append_assoc p (0 ∷ []) (zeros (length bs) ++ z)))
      ∙ over_behind q (zeros (length bs)) z xs (e + 1) (ap (λ n. n + 1) h ∙ sym (length-append p (0 ∷ []))) (l ∙ sym (length_zeros (length bs)))
      ∙ append_assoc p (0 ∷ []) (xs ++ z)

  -- the store of the first byte
  cut_first : {ws : List DiskStore} {img' log' : List ℕ} → Cuts img (p ++ 0 ∷ (bs ++ z)) (log_store e (b ∷ []) ∷ ws) img' log' → Half img p z bs b ws img' log'
  cut_first stop = inl (refl, (bs ++ z, refl))
  cut_first {ws} (torn_log xs m) =
      ⊎_elim
      (λ k. inl (refl, (bs ++ z, ap (over (p ++ 0 ∷ (bs ++ z)) e) k ∙ first_put 0 (bs ++ z))))
      (λ k. inr (subst (Cuts img (p ++ b ∷ (bs ++ z)) ws img) (sym (ap (over (p ++ 0 ∷ (bs ++ z)) e) k ∙ first_put b (bs ++ z))) stop))
      (one_mixed (subst (λ y. Mixed xs y (b ∷ [])) (old_first (bs ++ z)) m))
  cut_first {ws} {img'} {log'} (whole_log c) = inr (subst (λ y. Cuts img y ws img' log') (first_put b (bs ++ z)) c)

  -- the store of all behind it, then that
  cut_record : {ws : List DiskStore} {img' log' : List ℕ} → Cuts img (p ++ 0 ∷ (zeros (length bs) ++ z)) (log_store (e + 1) bs ∷ log_store e (b ∷ []) ∷ ws) img' log'
      → Half img p z bs b ws img' log'
  cut_record stop = inl (refl, (zeros (length bs) ++ z, refl))
  cut_record (torn_log xs m) = inl (refl, (xs ++ z, behind_put xs (mixed_length m)))
  cut_record {ws} {img'} {log'} (whole_log c) = cut_first (subst (λ y. Cuts img y (log_store e (b ∷ []) ∷ ws) img' log') (behind_put bs refl) c)

-- what is left of a log with the whole records rs while the records qs were appended
pub record Torn (rs qs : List LogRecord) (log : List ℕ) : Type 0 where
  pub done : List LogRecord
  pub left : List LogRecord
  pub split : qs ≡ done ++ left
  pub rest : List ℕ
  pub is : log ≡ encode_records (rs ++ done) ++ rest
  pub ends : ended rest ≡ true

-- the first byte of a record, and all behind it
record Bytes (r : LogRecord) : Type 0 where
  first : ℕ
  behind : List ℕ
  is : encode_record r ≡ first ∷ behind
  size : log_size r ≡ suc (length behind)

bytes_of : (r : LogRecord) → Bytes r
bytes_of r = go (encode_record r) refl (length_encoded r) (two_bytes r)
  where
    go : (xs : List ℕ) → encode_record r ≡ xs → length (encode_record r) ≡ log_size r → 1 < log_size r → Bytes r
    go [] e l t = absurd (omega (arith, l, ap length e, t))
    go (x ∷ xs) e l t = record { first = x; behind = xs; is = e; size = omega (arith, l, ap length e) }

ended_zero : (xs : List ℕ) → ended (0 ∷ xs) ≡ true
unfolding ended
ended_zero xs = refl

pub ended_zeros : (k : ℕ) → ended (zeros k) ≡ true
unfolding ended
ended_zeros zero = refl
ended_zeros (suc k) = refl

-- power fails while records are appended to a log with k zeros behind its own
pub cut_records : (img : List ℕ) (qs rs : List LogRecord) (k : ℕ) → end_of qs ≤ k → (e : ℕ) → e ≡ end_of rs → (img' log' : List ℕ)
    → Cuts img (encode_records rs ++ zeros k) (records_stores e qs) img' log' → (img' ≡ img) × Torn rs qs log'
unfolding records_stores
cut_records img [] rs k h e q img' log' c = none_left c
  where
    none_left : {img' log' : List ℕ} → Cuts img (encode_records rs ++ zeros k) [] img' log' → (img' ≡ img) × Torn rs [] log'
    none_left stop = (refl, record { done = []; left = []; split = refl; rest = zeros k; is = ap (λ z. encode_records z ++ zeros k) (sym (append-nil rs)); ends = ended_zeros k })
cut_records img (r ∷ qs) rs k h e q img' log' c =
    let y = bytes_of r in
    let z = zeros (k - log_size r) in
    let P = encode_records rs in
    let room : end_of qs ≤ k - log_size r = unfold end_of sum in omega (arith, h) in
    let fits : log_size r ≤ k = unfold end_of sum in omega (arith, h) in
    let W = records_stores (e + log_size r) qs in
    let area : encode_records rs ++ zeros k ≡ P ++ 0 ∷ (zeros (length y.behind) ++ z) = ap (λ v. P ++ v) (zeros_split k (log_size r) fits ∙ ap (λ n. zeros n ++ z) y.size) in
    let parts : record_stores e r ++ W ≡ log_store (e + 1) y.behind ∷ log_store e (y.first ∷ []) ∷ W =
    unfold record_stores in ap (λ b. log_store (e + 1) (drop 1 b) ∷ log_store e (take 1 b) ∷ W) y.is in
    let c' = subst (λ ws. Cuts img (P ++ 0 ∷ (zeros (length y.behind) ++ z)) ws img' log') parts (subst (λ l. Cuts img l (record_stores e r ++ W) img' log') area c) in
    let whole : P ++ y.first ∷ (y.behind ++ z) ≡ encode_records (rs ++ r ∷ []) ++ z =
    ap (λ b. P ++ (b ++ z)) (sym y.is) ∙ sym (append_assoc P (encode_record r) z) ∙ ap (λ b. (P ++ b) ++ z) (sym (one_record r)) ∙ ap (λ b. b ++ z) (sym (records_append rs (r ∷ []))) in
    let next : e + log_size r ≡ end_of (rs ++ r ∷ []) = omega (arith, q, end_append rs (r ∷ []), one_end r) in
    ⊎_elim
    (λ t. (
      t.0,
      record {
        done = [];
        left = r ∷ qs;
        split = refl;
        rest = 0 ∷ t.1.0;
        is = t.1.1 ∙ ap (λ v. encode_records v ++ 0 ∷ t.1.0) (sym (append-nil rs));
        ends = ended_zero t.1.0;
      },
    ))
    (λ d. later (cut_records img qs (rs ++ r ∷ []) (k - log_size r) room (e + log_size r) next img' log' (subst (λ l. Cuts img l W img' log') whole d)))
    (cut_record img P z y.behind y.first e (q ∙ sym (length_records rs)) c')
  where
    later : (img' ≡ img) × Torn (rs ++ r ∷ []) qs log' → (img' ≡ img) × Torn rs (r ∷ qs) log'
    later t = (
      t.0,
      record {
        done = r ∷ t.1.done;
        left = t.1.left;
        split = ap (λ v. r ∷ v) t.1.split;
        rest = t.1.rest;
        is = t.1.is ∙ ap (λ v. encode_records v ++ t.1.rest) (append_assoc rs (r ∷ []) t.1.done);
        ends = t.1.ends;
      },
    )

-- ---- roll-forward's stores

mixed_ended : {xs ys zs : List ℕ} → Mixed xs ys zs → ended ys ≡ true → ended zs ≡ true → ended xs ≡ true
unfolding ended
mixed_ended none a b = refl
mixed_ended (more (inl e) m) a b = ap (λ v. eqb v 0) e ∙ a
mixed_ended (more (inr e) m) a b = ap (λ v. eqb v 0) e ∙ b

module _ (rs : List LogRecord) (rest : List ℕ) where
  rest_put : (xs : List ℕ) → length xs ≡ length rest → over (encode_records rs ++ rest) (end_of rs) xs ≡ encode_records rs ++ xs
  rest_put xs l =
      ap (λ v. over (encode_records rs ++ v) (end_of rs) xs) (sym (append-nil rest)) ∙ over_behind (encode_records rs) rest [] xs (end_of rs) (sym (length_records rs)) l
      ∙ ap (λ v. encode_records rs ++ v) (append-nil xs)

  pub zeroed : (n : ℕ) → n ≡ length (encode_records rs ++ rest) → n - end_of rs ≡ length rest
  zeroed n h = omega (arith, h, length-append (encode_records rs) rest, length_records rs)

  old_rest : (k : ℕ) → k ≡ length rest → take k (drop (end_of rs) (encode_records rs ++ rest)) ≡ rest
  old_rest k h = ap (take k) (drop_at (encode_records rs) rest (end_of rs) (length_records rs)) ∙ ap (λ v. take k v) (sym (append-nil rest)) ∙ take_at rest [] k (sym h)

  -- power fails while the aborts qs are put behind the whole records rs
  pub cut_forward : (img : List ℕ) (qs : List LogRecord) (n : ℕ) → n ≡ length (encode_records rs ++ rest) → ended rest ≡ true → end_of rs + end_of qs ≤ n → (img' log' : List ℕ)
      → Cuts img (encode_records rs ++ rest) (forward_stores n (end_of rs) qs) img' log' → (img' ≡ img) × Torn rs qs log'
  unfolding forward_stores
  cut_forward img qs n h t f img' log' c = go c
    where
      left : length (zeros (n - end_of rs)) ≡ length rest
      left = length_zeros (n - end_of rs) ∙ zeroed n h

      nothing_done : {log : List ℕ} (xs : List ℕ) → ended xs ≡ true → log ≡ encode_records rs ++ xs → Torn rs qs log
      nothing_done xs d e = record { done = []; left = qs; split = refl; rest = xs; is = e ∙ ap (λ v. encode_records v ++ xs) (sym (append-nil rs)); ends = d }

      go : {img' log' : List ℕ} → Cuts img (encode_records rs ++ rest) (log_store (end_of rs) (zeros (n - end_of rs)) ∷ records_stores (end_of rs) qs) img' log'
          → (img' ≡ img) × Torn rs qs log'
      go stop = (refl, nothing_done rest t refl)
      go (torn_log xs m) = (
        refl,
        nothing_done xs (mixed_ended (subst (λ o. Mixed xs o (zeros (n - end_of rs))) (old_rest (length (zeros (n - end_of rs))) left) m) t (ended_zeros (n - end_of rs)))
            (rest_put xs (mixed_length m ∙ left)),
      )
      go {img'} {log'} (whole_log c) =
          cut_records img qs rs (n - end_of rs) (omega (arith, f)) (end_of rs) refl img' log'
          (subst (λ l. Cuts img l (records_stores (end_of rs) qs) img' log') (rest_put (zeros (n - end_of rs)) left) c)

  -- and where it does not: zeros, and the aborts over them
  pub forward_log : (qs : List LogRecord) (n : ℕ) → n ≡ length (encode_records rs ++ rest) → end_of rs + end_of qs ≤ n
      → over (take (end_of rs) (encode_records rs ++ rest) ++ zeros (n - end_of rs)) (end_of rs) (encode_records qs) ≡ encode_records (rs ++ qs) ++ zeros (n - end_of rs - end_of qs)
  forward_log qs n h f =
      let k = n - end_of rs in
      let Z = zeros (k - end_of qs) in
      let fits : end_of qs ≤ n - end_of rs = omega (arith, f) in
      ap (λ v. over (v ++ zeros k) (end_of rs) (encode_records qs)) (take_at (encode_records rs) rest (end_of rs) (length_records rs))
      ∙ ap (λ v. over (encode_records rs ++ v) (end_of rs) (encode_records qs)) (zeros_split k (end_of qs) fits)
      ∙ over_behind (encode_records rs) (zeros (end_of qs)) Z (encode_records qs) (end_of rs) (sym (length_records rs)) (length_records qs ∙ sym (length_zeros (end_of qs)))
      ∙ sym (append_assoc (encode_records rs) (encode_records qs) Z) ∙ ap (λ v. v ++ Z) (sym (records_append rs qs))
