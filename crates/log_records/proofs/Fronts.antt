-- The record at the front of any bytes, byte by byte: what a short record, a tuple or a delete asks of the bytes, and what is then read.
use Rattle.basics.proofs.Kit.{◌≡◌, refl, sym, ap, ◌∙◌, List, [], ◌∷◌, ◌++◌, append_assoc, append-nil, ℕ, ◌+◌, ◌*◌, ◌%◌, ◌/◌, ◌≤◌, ◌<◌, length, take, drop, get_or, arith}
use Rattle.basics.proofs.Kit.{length-append, take-append-drop, ⊎_elim, ◌⊎◌, inl, inr, suc}
use Rattle.basics.specs.Basics.{if'◌then◌else◌}
use Rattle.basics.specs.Lists.{tab}
use Rattle.basics.proofs.Facts.{by-option}
use Rattle.basics.proofs.Elements.{all_take, all_drop}
use Rattle.basics.proofs.Tabs.{tab_part}
use Rattle.basics.proofs.Overs.{length_part}
use Rattle.block_forms.specs.Limits.{payload_limit, transaction_limit}
use Rattle.block_forms.specs.Numbers.{be4, num4}
use Rattle.block_forms.specs.Tuple.{Byte, AllBytes}
use Rattle.block_forms.proofs.Spelled.{bytes_at}
use Rattle.log_records.specs.Records.{LogRecord, opened_by, committed_by, aborted_by, inserted_by, replaced_by, deleted_by, mark_of, RecordFits, PlaceFits, PayloadFits}
use Rattle.log_records.specs.Records.{short_fields, tuple_fields, log_fields, log_size, encode_record, decode_record, ended}
use Rattle.log_records.specs.Laws.{Read}
use Rattle.log_records.specs.Bytes.{place_bytes, transaction_of, length_of}
use Rattle.log_records.specs.Kinds.{number_of}
use Rattle.log_records.specs.Entries.{entry_as, entry_of, entry_in, TupleFront}
use Rattle.log_records.specs.declared.Kind.{Kind}
use Rattle.log_records.specs.declared.Change.TheVariants.{Open, Insert, Replace, Delete, Commit, Abort}
use Rattle.log_records.specs.declared.Entry.TheVariants.{End, Malformed, Call}
use Rattle.log_records.proofs.Spelling.{two_bytes, length_encoded}
use Rattle.log_records.proofs.Bytewise.{short_bytes_lem, tuple_bytes, delete_bytes, kind_of, kind_first, kind_pos}
use Rattle.log_records.proofs.Laws.{decode_encode, encode_decode}
use Rattle.log_records.proofs.Logs.{not_ended}

-- ---- any record

-- no record is read whose bytes these are not
pub read_none : (xs : List ℕ) → AllBytes xs → ((r : LogRecord) → Read xs r → kind_of r ≡ get_or xs 0 0 / 16 → ⊥) → entry_of (decode_record xs) ≡ Malformed
unfolding entry_of
read_none xs b f =
    by-option (decode_record xs) (λ e. ap entry_of e)
    (λ r e.
    let d = encode_decode xs b r e in
    absurd (f r d (sym (ap (λ z. get_or z 0 0 / 16) d.is ∙ kind_first r d.fits d.rest))))

pub read_some : (xs : List ℕ) (r : LogRecord) (rest : List ℕ) → RecordFits r → encode_record r ++ rest ≡ xs → entry_of (decode_record xs) ≡ entry_as r
unfolding entry_of
read_some xs r rest f e = ap (λ z. entry_of (decode_record z)) (sym e) ∙ ap entry_of (decode_encode r f rest)

pub read_length : (xs : List ℕ) (r : LogRecord) → Read xs r → log_size r ≤ length xs
read_length xs r d = omega (arith, ap length d.is, length-append (encode_record r) d.rest, length_encoded r)

-- bytes, the first n one by one
pub split_front : (n : ℕ) (xs : List ℕ) → n ≤ length xs → tab (λ k. get_or xs k 0) 0 n ++ drop n xs ≡ xs
split_front n xs h = ap (λ z. z ++ drop n xs) (tab_part xs 0 0 n (omega arith)) ∙ take-append-drop n xs

-- ---- open, commit, abort

module _ (xs : List ℕ) (b : AllBytes xs) where
  pub transaction_fits : transaction_of xs < transaction_limit
  transaction_fits = omega (arith, bytes_at xs b 1)

  pub short_none : length xs < 2 → entry_of (decode_record xs) ≡ Malformed
  short_none h = read_none xs b (λ r d k. omega (arith, read_length xs r d, two_bytes r))

  short_some : (n : ℕ) (r : LogRecord) → RecordFits r → log_fields r ≡ short_fields n (transaction_of xs) → n < 16 → get_or xs 0 0 / 16 ≡ n → 2 ≤ length xs
      → entry_of (decode_record xs) ≡ entry_as r
  short_some n r f e hn k h =
      let x : n * 16 + transaction_of xs / 256 ≡ get_or xs 0 0 = omega (arith, bytes_at xs b 1) in
      let y : transaction_of xs % 256 ≡ get_or xs 1 0 = omega (arith, bytes_at xs b 1) in
      read_some xs r (drop 2 xs) f
      (ap (λ z. z ++ drop 2 xs) (short_bytes_lem r n (transaction_of xs) e hn transaction_fits) ∙ (λ i. x i ∷ y i ∷ drop 2 xs) ∙ split_front 2 xs h)

  pub open_some : {tx : ℕ} → get_or xs 0 0 / 16 ≡ 1 → 2 ≤ length xs → tx ≡ transaction_of xs → entry_of (decode_record xs) ≡ Call (Open tx)
  unfolding log_fields entry_as
  open_some k h e = rw e (short_some 1 (opened_by (transaction_of xs)) transaction_fits refl (omega arith) k h)

  pub commit_some : {tx : ℕ} → get_or xs 0 0 / 16 ≡ 5 → 2 ≤ length xs → tx ≡ transaction_of xs → entry_of (decode_record xs) ≡ Call (Commit tx)
  unfolding log_fields entry_as
  commit_some k h e = rw e (short_some 5 (committed_by (transaction_of xs)) transaction_fits refl (omega arith) k h)

  pub abort_some : {tx : ℕ} → get_or xs 0 0 / 16 ≡ 6 → 2 ≤ length xs → tx ≡ transaction_of xs → entry_of (decode_record xs) ≡ Call (Abort tx)
  unfolding log_fields entry_as
  abort_some k h e = rw e (short_some 6 (aborted_by (transaction_of xs)) transaction_fits refl (omega arith) k h)

-- ---- insert, replace, delete

pub four_back : (a b c d : ℕ) → a < 256 → b < 256 → c < 256 → d < 256 → be4 (a * 16777216 + b * 65536 + c * 256 + d) ≡ a ∷ b ∷ c ∷ d ∷ []
unfolding be4
four_back a b c d ha hb hc hd =
    let v = a * 16777216 + b * 65536 + c * 256 + d in
    let p : (a * 16777216 + b * 65536 + c * 256 + d) / 16777216 % 256 ≡ a = omega arith in
    let q : (a * 16777216 + b * 65536 + c * 256 + d) / 65536 % 256 ≡ b = omega arith in
    let r : (a * 16777216 + b * 65536 + c * 256 + d) / 256 % 256 ≡ c = omega arith in
    let s : (a * 16777216 + b * 65536 + c * 256 + d) % 256 ≡ d = omega arith in
    λ i. p i ∷ q i ∷ r i ∷ s i ∷ []

-- the bytes before a payload, or of a delete
pub record PlaceFront (xs : List ℕ) : Type 0 where
  pub whole : 8 + length_of xs ≤ length xs
  pub zero : get_or xs 3 0 % 128 ≡ 0
  pub limit : length_of xs ≤ payload_limit

-- bytes that start with a record's have such a front
place_front_lem : (xs : List ℕ) (n tx t k : ℕ) (bs rest : List ℕ) → length bs ≤ payload_limit → xs ≡ (place_bytes n tx t (length bs) k ++ bs) ++ rest
    → PlaceFront xs × (length_of xs ≡ length bs)
unfolding be4
place_front_lem xs n tx t k bs rest h e =
    let l : length_of xs ≡ length bs = rw e (omega arith) in
    let z : get_or xs 3 0 % 128 ≡ 0 = rw e (omega arith) in
    let w : length xs ≡ 8 + length bs + length rest = rw (e, length-append bs rest) (omega arith) in
    (record { whole = omega arith; zero = z; limit = omega arith }, l)

tuple_front : (xs : List ℕ) (r : LogRecord) → Read xs r → 2 ≤ kind_of r → kind_of r ≤ 3 → PlaceFront xs
unfolding log_fields
tuple_front xs (opened_by tx) d l m = absurd (omega arith)
tuple_front xs (committed_by tx) d l m = absurd (omega arith)
tuple_front xs (aborted_by tx) d l m = absurd (omega arith)
tuple_front xs (inserted_by tx t k bs) d l m =
    let e = tuple_bytes (inserted_by tx t k bs) 2 tx t k bs refl (omega arith) d.fits.0 d.fits.1 in
    (place_front_lem xs 2 tx t k bs d.rest d.fits.1.limit (d.is ∙ ap (λ z. z ++ d.rest) e)).0
tuple_front xs (replaced_by tx t k bs) d l m =
    let e = tuple_bytes (replaced_by tx t k bs) 3 tx t k bs refl (omega arith) d.fits.0 d.fits.1 in
    (place_front_lem xs 3 tx t k bs d.rest d.fits.1.limit (d.is ∙ ap (λ z. z ++ d.rest) e)).0
tuple_front xs (deleted_by tx t k) d l m = absurd (omega arith)
tuple_front xs (mark_of l txs) d a m = absurd (omega arith)

delete_front : (xs : List ℕ) (r : LogRecord) → Read xs r → kind_of r ≡ 4 → PlaceFront xs × (length_of xs ≡ 0)
delete_front xs (opened_by tx) d k = absurd (omega arith)
delete_front xs (committed_by tx) d k = absurd (omega arith)
delete_front xs (aborted_by tx) d k = absurd (omega arith)
delete_front xs (inserted_by tx t k bs) d q = absurd (omega arith)
delete_front xs (replaced_by tx t k bs) d q = absurd (omega arith)
delete_front xs (deleted_by tx t k) d q =
    let e = delete_bytes tx t k d.fits ∙ sym (append-nil (place_bytes 4 tx t 0 k)) in
    place_front_lem xs 4 tx t k [] d.rest (omega arith) (d.is ∙ ap (λ z. z ++ d.rest) e)
delete_front xs (mark_of l txs) d k = absurd (omega arith)

module _ (xs : List ℕ) (b : AllBytes xs) where
  pub tuple_none : (k : Kind) → TupleFront xs k → (PlaceFront xs → ⊥) → entry_of (decode_record xs) ≡ Malformed
  tuple_none k t f =
      let n : number_of k ≡ 2 ⊎ number_of k ≡ 3 = ⊎_elim (λ e. inl (ap number_of e)) (λ e. inr (ap number_of e)) t.tuple in
      read_none xs b (λ r d e. f (tuple_front xs r d (omega (arith, t.first)) (omega (arith, t.first))))

  pub delete_none : get_or xs 0 0 / 16 ≡ 4 → (PlaceFront xs → length_of xs ≡ 0 → ⊥) → entry_of (decode_record xs) ≡ Malformed
  delete_none k f = read_none xs b (λ r d e. let p = delete_front xs r d (e ∙ k) in f p.0 p.1)

module _ (xs : List ℕ) (b : AllBytes xs) (f : PlaceFront xs) where
  num4_fits : num4 xs 4 < 4294967296
  unfolding num4
  num4_fits = omega (arith, bytes_at xs b 4, bytes_at xs b 5, bytes_at xs b 6, bytes_at xs b 7)

  place_fits : PlaceFits (transaction_of xs) (get_or xs 2 0 / 32) (num4 xs 4)
  place_fits = record { transaction = transaction_fits xs b; table = omega (arith, bytes_at xs b 2); key = num4_fits }

  -- the first eight bytes are these fields
  place_spelled : (n : ℕ) → get_or xs 0 0 / 16 ≡ n → place_bytes n (transaction_of xs) (get_or xs 2 0 / 32) (length_of xs) (num4 xs 4) ++ drop 8 xs ≡ xs
  unfolding num4
  place_spelled n k =
      let x0 : n * 16 + transaction_of xs / 256 ≡ get_or xs 0 0 = omega (arith, bytes_at xs b 1) in
      let x1 : transaction_of xs % 256 ≡ get_or xs 1 0 = omega (arith, bytes_at xs b 1) in
      let x2 : get_or xs 2 0 / 32 * 32 + length_of xs / 2 ≡ get_or xs 2 0 = omega (arith, bytes_at xs b 3) in
      let x3 : length_of xs % 2 * 128 ≡ get_or xs 3 0 = omega (arith, bytes_at xs b 3, f.zero) in
      let key = four_back (get_or xs 4 0) (get_or xs 5 0) (get_or xs 6 0) (get_or xs 7 0) (bytes_at xs b 4) (bytes_at xs b 5) (bytes_at xs b 6) (bytes_at xs b 7) in
      (λ i. x0 i ∷ x1 i ∷ x2 i ∷ x3 i ∷ (key i ++ drop 8 xs)) ∙ split_front 8 xs (omega (arith, f.whole))

  -- the payload behind them
  abbrev pub payload_of : List ℕ
  payload_of = take (length_of xs) (drop 8 xs)

  payload_length : length payload_of ≡ length_of xs
  payload_length = length_part (length_of xs) 8 xs f.whole

  payload_fits : PayloadFits payload_of
  payload_fits = record { limit = omega (arith, payload_length, f.limit); bytes = all_take Byte (length_of xs) (drop 8 xs) (all_drop Byte 8 xs b) }

  tuple_spelled : (n : ℕ) (r : LogRecord) → log_fields r ≡ tuple_fields n (transaction_of xs) (get_or xs 2 0 / 32) (num4 xs 4) payload_of → n < 16
      → get_or xs 0 0 / 16 ≡ n → encode_record r ++ drop (length_of xs) (drop 8 xs) ≡ xs
  tuple_spelled n r e hn k =
      let rest = drop (length_of xs) (drop 8 xs) in
      let H = place_bytes n (transaction_of xs) (get_or xs 2 0 / 32) (length_of xs) (num4 xs 4) in
      rw (tuple_bytes r n (transaction_of xs) (get_or xs 2 0 / 32) (num4 xs 4) payload_of e hn place_fits payload_fits, payload_length)
      (append_assoc H payload_of rest ∙ ap (λ z. H ++ z) (take-append-drop (length_of xs) (drop 8 xs)) ∙ place_spelled n k)

  pub insert_some : {tx t k n : ℕ} → get_or xs 0 0 / 16 ≡ 2 → tx ≡ transaction_of xs → t ≡ get_or xs 2 0 / 32 → k ≡ num4 xs 4 → n ≡ length_of xs
      → entry_of (decode_record xs) ≡ Call (Insert tx t k n)
  unfolding log_fields entry_as
  insert_some h a b c d =
      let r = inserted_by (transaction_of xs) (get_or xs 2 0 / 32) (num4 xs 4) payload_of in
      rw (a, b, c, d, ← payload_length) (read_some xs r (drop (length_of xs) (drop 8 xs)) (place_fits, payload_fits) (tuple_spelled 2 r refl (omega arith) h))

  pub replace_some : {tx t k n : ℕ} → get_or xs 0 0 / 16 ≡ 3 → tx ≡ transaction_of xs → t ≡ get_or xs 2 0 / 32 → k ≡ num4 xs 4 → n ≡ length_of xs
      → entry_of (decode_record xs) ≡ Call (Replace tx t k n)
  unfolding log_fields entry_as
  replace_some h a b c d =
      let r = replaced_by (transaction_of xs) (get_or xs 2 0 / 32) (num4 xs 4) payload_of in
      rw (a, b, c, d, ← payload_length) (read_some xs r (drop (length_of xs) (drop 8 xs)) (place_fits, payload_fits) (tuple_spelled 3 r refl (omega arith) h))

  pub delete_some : {tx t k : ℕ} → get_or xs 0 0 / 16 ≡ 4 → length_of xs ≡ 0 → tx ≡ transaction_of xs → t ≡ get_or xs 2 0 / 32 → k ≡ num4 xs 4
      → entry_of (decode_record xs) ≡ Call (Delete tx t k)
  unfolding entry_as
  delete_some h l a b c =
      let r = deleted_by (transaction_of xs) (get_or xs 2 0 / 32) (num4 xs 4) in
      rw (a, b, c)
      (read_some xs r (drop 8 xs) place_fits
      (ap (λ z. z ++ drop 8 xs) (delete_bytes (transaction_of xs) (get_or xs 2 0 / 32) (num4 xs 4) place_fits)
      ∙ ap (λ n. place_bytes 4 (transaction_of xs) (get_or xs 2 0 / 32) n (num4 xs 4) ++ drop 8 xs) (sym l) ∙ place_spelled 4 h))

-- ---- the front of any bytes

kind_most : (r : LogRecord) → kind_of r ≤ 7
kind_most (opened_by tx) = omega arith
kind_most (inserted_by tx t k bs) = omega arith
kind_most (replaced_by tx t k bs) = omega arith
kind_most (deleted_by tx t k) = omega arith
kind_most (committed_by tx) = omega arith
kind_most (aborted_by tx) = omega arith
kind_most (mark_of l txs) = omega arith

-- no record has another kind
pub other_none : (xs : List ℕ) → AllBytes xs → (get_or xs 0 0 / 16 ≡ 0) ⊎ (7 < get_or xs 0 0 / 16) → entry_of (decode_record xs) ≡ Malformed
other_none xs b h =
    read_none xs b (λ r d k. ⊎_elim (λ (z : get_or xs 0 0 / 16 ≡ 0). omega (arith, kind_pos r)) (λ (z : 7 < get_or xs 0 0 / 16). omega (arith, kind_most r)) h)

pub front_end : (xs : List ℕ) → (length xs ≡ 0) ⊎ (get_or xs 0 0 ≡ 0) → entry_in xs ≡ End
unfolding entry_in ended if'◌then◌else◌
front_end [] h = refl
front_end (x ∷ xs) h = ⊎_elim (λ (z : suc (length xs) ≡ 0). absurd (omega arith)) (λ (z : x ≡ 0). rw z) h

pub front_going : (xs : List ℕ) → 0 < get_or xs 0 0 → entry_in xs ≡ entry_of (decode_record xs)
unfolding entry_in if'◌then◌else◌
front_going xs h = rw (not_ended xs h)
