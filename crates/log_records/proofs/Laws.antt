-- One reading and one spelling of a record (`decode_encode`, `encode_decode`), and its bytes (`record_bytes_lem`).
use Rattle.basics.proofs.Kit.{◌≡◌, refl, sym, ap, ◌∙◌, true, some, ◌&&◌, List, [], ◌∷◌, ◌++◌, append-nil, ℕ, ◌*◌, ◌%◌, ◌<◌, subst, length, take, drop, eqb, arith}
use Rattle.basics.proofs.Kit.{take-append_seam, take-append-drop, leb-true, le-leb}
use Rattle.basics.specs.Basics.{if'◌then◌else◌}
use Rattle.basics.proofs.Facts.{by, by-option, never, and_true}
use Rattle.basics.proofs.Elements.{some_eq, all_take, all_drop}
use Rattle.block_bits.specs.Bits.{bits_in, field}
use Rattle.block_bits.specs.Fields.{get_all, widths, values}
use Rattle.block_bits.proofs.Blocks.{field_lt}
use Rattle.block_forms.specs.Limits.{payload_limit, transaction_limit}
use Rattle.block_forms.specs.Numbers.{be4, same}
use Rattle.block_forms.specs.Tuple.{Byte, AllBytes}
use Rattle.block_forms.specs.Block.{payload_fields, entry_fields}
use Rattle.block_forms.specs.Decode.{kind, read_entries}
use Rattle.block_forms.proofs.Same.{same_eq, same_refl}
use Rattle.block_forms.proofs.Laws.{values_entries, fit_entries, entries_all, entries_fit}
use Rattle.image_rows.specs.Rows.{open_limit}
use Rattle.log_records.specs.Records.{LogRecord, opened_by, committed_by, aborted_by, inserted_by, replaced_by, deleted_by, mark_of, RecordFits, PlaceFits, PayloadFits, MarkFits}
use Rattle.log_records.specs.Records.{short_fields, tuple_fields, delete_fields, mark_fields, log_fields, encode_record}
use Rattle.log_records.specs.Records.{transaction_in, table_in, key_in, payload_in, fields_read, within_limits, starts_with, record_spelled, decode_record}
use Rattle.log_records.specs.Laws.{RecordBytes, DecodeOfEncode, Read, EncodeOfDecode}
use Rattle.log_records.proofs.Spelling.{two_bytes, length_encoded, bytes_encoded, fields_back}
use Rattle.log_records.proofs.Bytewise.{tuple_bytes, kind_first, kind_pos}

-- ---- what is spelled is read back

-- kind and transaction
short_back : (r : LogRecord) (n tx : ℕ) → log_fields r ≡ short_fields n tx → n < 16 → tx < transaction_limit → (rest : List ℕ)
    → (kind (encode_record r ++ rest) ≡ n) × (transaction_in (encode_record r ++ rest) ≡ tx)
unfolding kind transaction_in short_fields
short_back r n tx e hn h rest = let got = fields_back r (short_fields n tx) [] e (hn, (h, tt)) rest in (cc, cc)

-- what is read of bytes that start with an insert's or a replace's
record TupleBack (xs : List ℕ) (n tx t k : ℕ) (bs : List ℕ) : Type 0 where
  kind_is : kind xs ≡ n
  transaction_is : transaction_in xs ≡ tx
  table_is : table_in xs ≡ t
  key_is : key_in xs ≡ k
  payload_is : payload_in xs ≡ bs

tuple_back : (r : LogRecord) (n tx t k : ℕ) (bs rest : List ℕ) → log_fields r ≡ tuple_fields n tx t k bs → n < 16 → PlaceFits tx t k → PayloadFits bs
    → TupleBack (encode_record r ++ rest) n tx t k bs
unfolding kind transaction_in table_in key_in payload_in tuple_fields be4
tuple_back r n tx t k bs rest e hn p q =
    let front : List (ℕ × ℕ) = (4, n) ∷ (12, tx) ∷ (3, t) ∷ (6, length bs) ∷ (7, 0) ∷ (32, k) ∷ [] in
    let got = fields_back r front (payload_fields bs) e (hn, (p.transaction, (p.table, (omega (arith, q.limit), (omega arith, (p.key, tt)))))) rest in
    let len : field (bits_in (encode_record r ++ rest)) 19 6 ≡ length bs = cc in record {
      kind_is = cc;
      transaction_is = cc;
      table_is = cc;
      key_is = cc;
      payload_is = rw (len, tuple_bytes r n tx t k bs e hn p q) (take-append_seam bs rest);
    }

-- a mark's fields in front of its last zero bits
abbrev pub mark_front : ℕ → List ℕ → List (ℕ × ℕ)
mark_front l txs = (4, 7) ∷ (7, length txs) ∷ (5, 0) ∷ (32, l) ∷ entry_fields txs

mark_back : (l : ℕ) (txs rest : List ℕ) → MarkFits l txs
    → get_all (bits_in (encode_record (mark_of l txs) ++ rest)) 0 (widths (mark_front l txs)) ≡ values (mark_front l txs)
unfolding log_fields mark_fields
mark_back l txs rest f =
    fields_back (mark_of l txs) (mark_front l txs) ((4 * (length txs % 2), 0) ∷ []) refl
    (omega arith, (omega (arith, f.count), (omega arith, (f.level, fit_entries txs f.transactions)))) rest

-- its transactions
pub mark_entries : (l : ℕ) (txs rest : List ℕ) → MarkFits l txs → read_entries (encode_record (mark_of l txs) ++ rest) 48 (length txs) ≡ txs
mark_entries l txs rest f =
    let e = mark_back l txs rest f in
    let got : get_all (bits_in (encode_record (mark_of l txs) ++ rest)) 48 (widths (entry_fields txs)) ≡ values (entry_fields txs) = cc in
    entries_all txs (encode_record (mark_of l txs) ++ rest) 48 ∙ got ∙ values_entries txs

fields_read_lem : (r : LogRecord) → RecordFits r → (rest : List ℕ) → fields_read (encode_record r ++ rest) ≡ some r
unfolding fields_read kind transaction_in table_in key_in if'◌then◌else◌ log_fields delete_fields
fields_read_lem (opened_by tx) f rest = let e = short_back (opened_by tx) 1 tx refl (omega arith) f rest in rw (e.0, e.1)
fields_read_lem (committed_by tx) f rest = let e = short_back (committed_by tx) 5 tx refl (omega arith) f rest in rw (e.0, e.1)
fields_read_lem (aborted_by tx) f rest = let e = short_back (aborted_by tx) 6 tx refl (omega arith) f rest in rw (e.0, e.1)
fields_read_lem (inserted_by tx t k bs) f rest =
    let e = tuple_back (inserted_by tx t k bs) 2 tx t k bs rest refl (omega arith) f.0 f.1 in
    rw (e.kind_is, e.transaction_is, e.table_is, e.key_is, e.payload_is)
fields_read_lem (replaced_by tx t k bs) f rest =
    let e = tuple_back (replaced_by tx t k bs) 3 tx t k bs rest refl (omega arith) f.0 f.1 in
    rw (e.kind_is, e.transaction_is, e.table_is, e.key_is, e.payload_is)
fields_read_lem (deleted_by tx t k) f rest =
    let B = bits_in (encode_record (deleted_by tx t k) ++ rest) in
    let e = fields_back (deleted_by tx t k) (delete_fields tx t k) [] refl (omega arith, (f.transaction, (f.table, (omega arith, (f.key, tt))))) rest in
    let a : field B 0 4 ≡ 4 = cc in
    let b : field B 4 12 ≡ tx = cc in
    let c : field B 16 3 ≡ t = cc in
    let d : field B 32 32 ≡ k = cc in
    rw (a, b, c, d)
fields_read_lem (mark_of l txs) f rest =
    let B = bits_in (encode_record (mark_of l txs) ++ rest) in
    let e = mark_back l txs rest f in
    let a : field B 0 4 ≡ 7 = cc in
    let b : field B 4 7 ≡ length txs = cc in
    let c : field B 16 32 ≡ l = cc in
    rw (a, b, c, mark_entries l txs rest f)

within : (r : LogRecord) → RecordFits r → within_limits r ≡ true
unfolding within_limits
within (opened_by tx) f = refl
within (committed_by tx) f = refl
within (aborted_by tx) f = refl
within (inserted_by tx t k bs) f = le-leb (length bs) payload_limit f.1.limit
within (replaced_by tx t k bs) f = le-leb (length bs) payload_limit f.1.limit
within (deleted_by tx t k) f = refl
within (mark_of l txs) f = le-leb (length txs) open_limit f.count

pub decode_encode : DecodeOfEncode
unfolding decode_record record_spelled starts_with if'◌then◌else◌
decode_encode r f rest =
    rw (fields_read_lem r f rest, within r f, take-append_seam (encode_record r) rest, same_refl (encode_record r))

-- ---- one spelling, and what is read is in range

place_fits : (xs : List ℕ) → PlaceFits (transaction_in xs) (table_in xs) (key_in xs)
unfolding transaction_in table_in key_in
place_fits xs = record { transaction = field_lt xs 4 12; table = field_lt xs 16 3; key = field_lt xs 32 32 }

payload_bytes : (xs : List ℕ) → AllBytes xs → AllBytes (payload_in xs)
unfolding payload_in
payload_bytes xs b = all_take Byte (field (bits_in xs) 19 6) (drop 8 xs) (all_drop Byte 8 xs b)

-- in range, if within the limits
abbrev Ranged : LogRecord → Type 0
Ranged r = within_limits r ≡ true → RecordFits r

ranged : (xs : List ℕ) → AllBytes xs → (r : LogRecord) → fields_read xs ≡ some r → Ranged r
unfolding fields_read within_limits transaction_in if'◌then◌else◌
ranged xs b r e =
    by (eqb (kind xs) 1) (λ h. subst Ranged (some_eq (rw h at e)) (λ w. field_lt xs 4 12))
    (λ h1. by (eqb (kind xs) 2) (λ h. subst Ranged (some_eq (rw (h1, h) at e)) (λ w. (place_fits xs, record { limit = leb-true _ _ w; bytes = payload_bytes xs b })))
    (λ h2. by (eqb (kind xs) 3) (λ h. subst Ranged (some_eq (rw (h1, h2, h) at e)) (λ w. (place_fits xs, record { limit = leb-true _ _ w; bytes = payload_bytes xs b })))
    (λ h3. by (eqb (kind xs) 4) (λ h. subst Ranged (some_eq (rw (h1, h2, h3, h) at e)) (λ w. place_fits xs))
    (λ h4. by (eqb (kind xs) 5) (λ h. subst Ranged (some_eq (rw (h1, h2, h3, h4, h) at e)) (λ w. field_lt xs 4 12))
    (λ h5. by (eqb (kind xs) 6) (λ h. subst Ranged (some_eq (rw (h1, h2, h3, h4, h5, h) at e)) (λ w. field_lt xs 4 12))
    (λ h6. by (eqb (kind xs) 7)
    (λ h. subst Ranged (some_eq (rw (h1, h2, h3, h4, h5, h6, h) at e))
    (λ w. record { level = field_lt xs 16 32; count = leb-true _ _ w; transactions = entries_fit xs 48 (field (bits_in xs) 4 7) }))
    (λ h. never (rw (h1, h2, h3, h4, h5, h6, h) at e))))))))

pub encode_decode : EncodeOfDecode
unfolding decode_record record_spelled starts_with if'◌then◌else◌
encode_decode xs b r e =
    by-option (fields_read xs)
    (λ h. never (rw h at e))
    (λ q h.
    by (within_limits q && same (encode_record q) (take (length (encode_record q)) xs))
    (λ t.
    let s : q ≡ r = some_eq (rw (h, t) at e) in
    let w = and_true (within_limits q) (same (encode_record q) (take (length (encode_record q)) xs)) t in
    let p = same_eq (encode_record q) (take (length (encode_record q)) xs) w.1 in
    let k : xs ≡ encode_record q ++ drop (length (encode_record q)) xs =
    sym (take-append-drop (length (encode_record q)) xs) ∙ ap (λ z. z ++ drop (length (encode_record q)) xs) (sym p) in
    subst (Read xs) s (record { fits = ranged xs b q h w.0; rest = drop (length (encode_record q)) xs; is = k }))
    (λ t. never (rw (h, t) at e)))

-- ---- a record's bytes

pub record_bytes_lem : RecordBytes
record_bytes_lem r f =
    let k = kind_first r f [] in
    (length_encoded r, two_bytes r, bytes_encoded r, omega (arith, rw (append-nil (encode_record r)) at k, kind_pos r))
