-- A log, record by record: its front (`log_next`, `log_ended`, `log_none`; `log_split`, `log_empty` from what was read), and the laws of whole logs.
use Rattle.basics.proofs.Kit.{◌≡◌, refl, sym, ap, ◌∙◌, true, false, some, none, Option, List, [], ◌∷◌, ◌++◌, append_assoc, ℕ, zero, suc, ◌+◌, ◌≤◌, ◌<◌, length, drop, get_or, arith}
use Rattle.basics.proofs.Kit.{length-drop, length-append, drop_at}
use Rattle.basics.specs.Basics.{if'◌then◌else◌, sum}
use Rattle.basics.proofs.Facts.{by, by-option, never, clash}
use Rattle.basics.proofs.Elements.{all_drop, pos_not_zero}
use Rattle.block_forms.specs.Tuple.{Byte}
use Rattle.block_forms.specs.Spell.{zeros}
use Rattle.log_records.specs.Records.{LogRecord, RecordFits, log_size, encode_record, encode_records, decode_record, ended, followed_by, read_records, read_log, end_of}
use Rattle.log_records.specs.Laws.{Read, LogOfRecords, RecordsOfLog, ZerosAppended}
use Rattle.log_records.proofs.Spelling.{two_bytes, length_encoded}
use Rattle.log_records.proofs.Bytewise.{kind_first, kind_pos}
use Rattle.log_records.proofs.Laws.{decode_encode, encode_decode}

-- ---- the front of a log, whatever the fuel

read_ended : (n : ℕ) (xs : List ℕ) → ended xs ≡ true → read_records n xs ≡ some []
unfolding read_records if'◌then◌else◌
read_ended zero xs h = rw h
read_ended (suc n) xs h = rw (h, read_records)

-- what is read from the record at the front on
abbrev from_front : ℕ → List ℕ → Option LogRecord → Option (List LogRecord)
from_front n xs o = elim o [ none ↦ none | some r ↦ followed_by r (read_records n (drop (log_size r) xs)) ]

module _ (n : ℕ) (xs : List ℕ) (h : ended xs ≡ false) where
  read_going : {o : Option LogRecord} → decode_record xs ≡ o → read_records (suc n) xs ≡ from_front n xs o
  unfolding read_records
  read_going e = ap (λ b. elim b [ true ↦ some [] | false ↦ from_front n xs (decode_record xs) ]) h ∙ ap (from_front n xs) e

no_bytes : (n m : ℕ) (xs : List ℕ) → length xs ≤ 0 → read_records n xs ≡ read_records m xs
unfolding ended
no_bytes n m [] h = read_ended n [] refl ∙ sym (read_ended m [] refl)
no_bytes n m (x ∷ xs) h = absurd (omega arith)

-- more fuel than bytes is never seen
fuel : (n m : ℕ) (xs : List ℕ) → length xs ≤ n → length xs ≤ m → read_records n xs ≡ read_records m xs
fuel zero m xs hn hm = no_bytes 0 m xs hn
fuel (suc n) zero xs hn hm = no_bytes (suc n) 0 xs hm
fuel (suc n) (suc m) xs hn hm =
    by (ended xs) (λ h. read_ended (suc n) xs h ∙ sym (read_ended (suc m) xs h))
    (λ h. by-option (decode_record xs) (λ e. read_going n xs h e ∙ sym (read_going m xs h e))
    (λ r e.
    let short : (length (drop (log_size r) xs) ≤ n) × (length (drop (log_size r) xs) ≤ m) = simp length-drop (omega (arith, two_bytes r)) in
    read_going n xs h e ∙ ap (followed_by r) (fuel n m (drop (log_size r) xs) short.0 short.1) ∙ sym (read_going m xs h e)))

-- ---- the front of a log

module _ (xs : List ℕ) where
  pub log_ended : ended xs ≡ true → read_log xs ≡ some []
  unfolding read_log
  log_ended h = read_ended (length xs) xs h

  pub log_next : (r : LogRecord) → ended xs ≡ false → decode_record xs ≡ some r → read_log xs ≡ followed_by r (read_log (drop (log_size r) xs))
  unfolding read_log
  log_next r h e =
      let n = length xs in
      let d = length-drop (log_size r) xs in
      let more : length (drop (log_size r) xs) ≤ length xs = omega arith in
      fuel n (suc n) xs (omega arith) (omega arith) ∙ read_going n xs h e
      ∙ ap (followed_by r) (fuel n (length (drop (log_size r) xs)) (drop (log_size r) xs) more (omega arith))

  pub log_none : ended xs ≡ false → decode_record xs ≡ none → read_log xs ≡ none
  unfolding read_log
  log_none h e = fuel (length xs) (suc (length xs)) xs (omega arith) (omega arith) ∙ read_going (length xs) xs h e

-- what was read of a log whose first record is r
pub record LogFront (xs : List ℕ) (r : LogRecord) (rs : List LogRecord) : Type 0 where
  pub going : ended xs ≡ false
  pub first : decode_record xs ≡ some r
  pub behind : read_log (drop (log_size r) xs) ≡ some rs

followed : (r : LogRecord) (o : Option (List LogRecord)) {qs : List LogRecord} → followed_by r o ≡ some qs
    → (rs : List LogRecord) × (o ≡ some rs) × (qs ≡ r ∷ rs)
unfolding followed_by
followed r none e = never e
followed r (some rs) e = (rs, refl, cc)

pub log_empty : (xs : List ℕ) → read_log xs ≡ some [] → ended xs ≡ true
log_empty xs e =
    by (ended xs) (λ h. h)
    (λ h. by-option (decode_record xs) (λ d. never (sym (log_none xs h d) ∙ e))
    (λ r d. let f = followed r (read_log (drop (log_size r) xs)) (sym (log_next xs r h d) ∙ e) in clash cc))

pub log_split : (xs : List ℕ) (r : LogRecord) (rs : List LogRecord) → read_log xs ≡ some (r ∷ rs) → LogFront xs r rs
log_split xs r rs e =
    by (ended xs) (λ h. let z = sym (log_ended xs h) ∙ e in clash cc)
    (λ h. by-option (decode_record xs) (λ d. never (sym (log_none xs h d) ∙ e))
    (λ q d.
    let f = followed q (read_log (drop (log_size q) xs)) (sym (log_next xs q h d) ∙ e) in
    let a : r ≡ q = cc in
    let b : rs ≡ f.0 = cc in
    rw (a, b) (record { going = h; first = d; behind = f.1 })))

-- ---- whole logs

pub not_ended : (xs : List ℕ) → 0 < get_or xs 0 0 → ended xs ≡ false
unfolding ended
not_ended [] h = absurd (omega arith)
not_ended (x ∷ xs) h = pos_not_zero x h

-- a record's first byte is not zero
pub record_going : (r : LogRecord) → RecordFits r → (rest : List ℕ) → ended (encode_record r ++ rest) ≡ false
record_going r f rest = not_ended (encode_record r ++ rest) (omega (arith, kind_first r f rest, kind_pos r))

pub log_of_records : LogOfRecords
unfolding encode_records followed_by
log_of_records [] f rest h = log_ended rest h
log_of_records (r ∷ rs) f rest h =
    let R = encode_records rs ++ rest in
    rw (append_assoc (encode_record r) (encode_records rs) rest, log_next (encode_record r ++ R) r (record_going r f.0 R) (decode_encode r f.0 R))
    (rw (drop_at (encode_record r) R (log_size r) (length_encoded r), log_of_records rs f.1 rest h))

pub length_records : (rs : List LogRecord) → length (encode_records rs) ≡ end_of rs
unfolding encode_records end_of sum
length_records [] = refl
length_records (r ∷ rs) = rw (length-append (encode_record r) (encode_records rs), length_encoded r) (ap (λ n. log_size r + n) (length_records rs))

pub records_append : (rs qs : List LogRecord) → encode_records (rs ++ qs) ≡ encode_records rs ++ encode_records qs
unfolding encode_records
records_append [] qs = refl
records_append (r ∷ rs) qs = rw (records_append rs qs) (sym (append_assoc (encode_record r) (encode_records rs) (encode_records qs)))

-- what is behind a record that was read
pub read_behind : (xs : List ℕ) (r : LogRecord) (d : Read xs r) → drop (log_size r) xs ≡ d.rest
read_behind xs r d = ap (drop (log_size r)) d.is ∙ drop_at (encode_record r) d.rest (log_size r) (length_encoded r)

pub records_of_log : RecordsOfLog
unfolding encode_records
records_of_log xs b [] e = record { fit = tt; rest = xs; is = refl; ends = log_empty xs e }
records_of_log xs b (r ∷ rs) e =
    let s = log_split xs r rs e in
    let d = encode_decode xs b r s.first in
    let more = records_of_log (drop (log_size r) xs) (all_drop Byte (log_size r) xs b) rs s.behind in
    let q : d.rest ≡ encode_records rs ++ more.rest = sym (read_behind xs r d) ∙ more.is in
    record {
      fit = (d.fits, more.fit);
      rest = more.rest;
      is = d.is ∙ ap (λ z. encode_record r ++ z) q ∙ sym (append_assoc (encode_record r) (encode_records rs) more.rest);
      ends = more.ends;
    }

pub ended_more : (xs : List ℕ) (n : ℕ) → ended xs ≡ true → ended (xs ++ zeros n) ≡ true
unfolding ended
ended_more [] zero h = refl
ended_more [] (suc n) h = refl
ended_more (x ∷ xs) n h = h

pub zeros_appended : ZerosAppended
zeros_appended xs b rs e n =
    let d = records_of_log xs b rs e in
    rw (d.is, append_assoc (encode_records rs) d.rest (zeros n)) (log_of_records rs d.fit (d.rest ++ zeros n) (ended_more d.rest n d.ends))
