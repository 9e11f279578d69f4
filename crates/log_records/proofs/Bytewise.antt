-- A record byte by byte: its bytes are its fields, most significant bit first.
use Rattle.basics.proofs.Kit.{◌≡◌, refl, sym, ap, ◌∙◌, List, [], ◌∷◌, ◌++◌, append_assoc, ℕ, ◌+◌, ◌*◌, ◌%◌, ◌/◌, ◌<◌, length, get_or, arith}
use Rattle.basics.proofs.Elements.{all_append}
use Rattle.block_bits.specs.Bits.{bits_of, bits_in}
use Rattle.block_bits.proofs.Numbers.{bits_of_add, bits_of_mod, bits_of_digits}
use Rattle.block_bits.proofs.Blocks.{bits_in_append}
use Rattle.block_bits.proofs.RoundTrip.{same_bits}
use Rattle.block_forms.specs.Limits.{transaction_limit}
use Rattle.block_forms.specs.Numbers.{be4}
use Rattle.block_forms.specs.Tuple.{Byte, AllBytes}
use Rattle.block_forms.specs.Spell.{spell}
use Rattle.block_forms.proofs.Spelled.{bytes_at, length_spell, spell_bits, bits_bytes, bytes_of_bits}
use Rattle.block_forms.proofs.Tuples.{be4_bytes}
use Rattle.block_forms.proofs.Bitwise.{be4_bits, payload_bits}
use Rattle.log_records.specs.Records.{LogRecord, opened_by, committed_by, aborted_by, inserted_by, replaced_by, deleted_by, mark_of, RecordFits, PlaceFits, PayloadFits}
use Rattle.log_records.specs.Records.{short_fields, tuple_fields, delete_fields, mark_fields, log_fields, encode_record}
use Rattle.log_records.specs.Bytes.{short_bytes, place_bytes, mark_bytes, last_fields, entry_bytes}
use Rattle.log_records.proofs.Spelling.{total_last, bytes_encoded, bits_encoded}

-- bytes that spell a record are its bytes
pub encoded_is : (r : LogRecord) (s : List ℕ) → AllBytes s → bits_in s ≡ spell (log_fields r) → encode_record r ≡ s
encoded_is r s b e = same_bits (encode_record r) s (bytes_at (encode_record r) (bytes_encoded r)) (bytes_at s b) (bits_encoded r ∙ sym e)

-- ---- bits

bits_of_two : (a b : ℕ) (s : List ℕ) → bits_in (a ∷ b ∷ s) ≡ (bits_of 8 a ++ bits_of 8 b) ++ bits_in s
unfolding bits_in
bits_of_two a b s = sym (append_assoc (bits_of 8 a) (bits_of 8 b) (bits_in s))

-- kind 4, transaction 12
short_bits : (n tx : ℕ) → tx < transaction_limit → bits_of 8 (n * 16 + tx / 256) ++ bits_of 8 (tx % 256) ≡ bits_of 4 n ++ bits_of 12 tx
short_bits n tx h =
    let high : tx / 256 < 16 = omega arith in
    let parts : bits_of 12 tx ≡ bits_of 4 (tx / 256) ++ bits_of 8 tx = bits_of_add 4 8 tx in
    rw (bits_of_digits 4 4 n (tx / 256) high, bits_of_mod 8 tx, parts) (append_assoc (bits_of 4 n) (bits_of 4 (tx / 256)) (bits_of 8 tx))

-- table 3, payload length 6, seven zero bits
length_bits : (t n : ℕ) → n < 64 → bits_of 8 (t * 32 + n / 2) ++ bits_of 8 (n % 2 * 128) ≡ bits_of 3 t ++ (bits_of 6 n ++ bits_of 7 0)
length_bits t n h =
    let high : n / 2 < 32 = omega arith in
    let parts : bits_of 6 n ≡ bits_of 5 (n / 2) ++ bits_of 1 n = bits_of_add 5 1 n in
    let e : n % 2 * 128 ≡ n % 2 * 128 + 0 = omega arith in
    let last : bits_of 8 (n % 2 * 128) ≡ bits_of 1 n ++ bits_of 7 0 =
    ap (bits_of 8) e ∙ bits_of_digits 1 7 (n % 2) 0 (omega arith) ∙ ap (λ (l : List ℕ). l ++ bits_of 7 0) (bits_of_mod 1 n) in
    rw (bits_of_digits 3 5 t (n / 2) high, last, parts) (simp append_assoc)

-- kind 4, count 7, five zero bits
count_bits : (n : ℕ) → n < 128 → bits_of 8 (7 * 16 + n / 8) ++ bits_of 8 (n % 8 * 32) ≡ bits_of 4 7 ++ (bits_of 7 n ++ bits_of 5 0)
count_bits n h =
    let high : n / 8 < 16 = omega arith in
    let parts : bits_of 7 n ≡ bits_of 4 (n / 8) ++ bits_of 3 n = bits_of_add 4 3 n in
    let e : n % 8 * 32 ≡ n % 8 * 32 + 0 = omega arith in
    let last : bits_of 8 (n % 8 * 32) ≡ bits_of 3 n ++ bits_of 5 0 =
    ap (bits_of 8) e ∙ bits_of_digits 3 5 (n % 8) 0 (omega arith) ∙ ap (λ (l : List ℕ). l ++ bits_of 5 0) (bits_of_mod 3 n) in
    rw (bits_of_digits 4 4 7 (n / 8) high, last, parts) (simp append_assoc)

-- ---- records

-- kind and transaction
pub short_bytes_lem : (r : LogRecord) (n tx : ℕ) → log_fields r ≡ short_fields n tx → n < 16 → tx < transaction_limit → encode_record r ≡ short_bytes n tx
unfolding short_fields spell bits_in
short_bytes_lem r n tx e hn h =
    encoded_is r (short_bytes n tx) (omega arith, (omega arith, tt))
    (bits_of_two (n * 16 + tx / 256) (tx % 256) [] ∙ rw (short_bits n tx h, e) (append_assoc (bits_of 4 n) (bits_of 12 tx) []))

place_bits : (n tx t len k : ℕ) (s : List ℕ) → PlaceFits tx t k → len < 64
    → bits_in (place_bytes n tx t len k ++ s) ≡ bits_of 4 n ++ (bits_of 12 tx ++ (bits_of 3 t ++ (bits_of 6 len ++ (bits_of 7 0 ++ (bits_of 32 k ++ bits_in s)))))
place_bits n tx t len k s p h =
    rw (
      bits_of_two (n * 16 + tx / 256) (tx % 256) ((t * 32 + len / 2) ∷ len % 2 * 128 ∷ (be4 k ++ s)),
      bits_of_two (t * 32 + len / 2) (len % 2 * 128) (be4 k ++ s),
      bits_in_append (be4 k) s,
      be4_bits k,
      short_bits n tx p.transaction,
      length_bits t len h,
    )
    (simp append_assoc)

place_all : (n tx t len k : ℕ) (s : List ℕ) → n < 16 → PlaceFits tx t k → len < 64 → AllBytes s → AllBytes (place_bytes n tx t len k ++ s)
place_all n tx t len k s hn p h b =
    (omega (arith, p.transaction), (omega arith, (omega (arith, p.table), (omega arith, all_append Byte (be4 k) s (be4_bytes k) b))))

-- an insert or a replace
pub tuple_bytes : (r : LogRecord) (n tx t k : ℕ) (bs : List ℕ) → log_fields r ≡ tuple_fields n tx t k bs → n < 16 → PlaceFits tx t k → PayloadFits bs
    → encode_record r ≡ place_bytes n tx t (length bs) k ++ bs
unfolding tuple_fields spell
tuple_bytes r n tx t k bs e hn p q =
    let h : length bs < 64 = omega (arith, q.limit) in
    encoded_is r (place_bytes n tx t (length bs) k ++ bs) (place_all n tx t (length bs) k bs hn p h q.bytes)
    (place_bits n tx t (length bs) k bs p h ∙ rw (e, payload_bits bs))

-- a delete
pub delete_bytes : (tx t k : ℕ) → PlaceFits tx t k → encode_record (deleted_by tx t k) ≡ place_bytes 4 tx t 0 k
unfolding log_fields delete_fields spell bits_in be4
delete_bytes tx t k p =
    let zero : bits_of 13 0 ≡ bits_of 6 0 ++ bits_of 7 0 = bits_of_add 6 7 0 in
    encoded_is (deleted_by tx t k) (place_bytes 4 tx t 0 k) (place_all 4 tx t 0 k [] (omega arith) p (omega arith) tt)
    (place_bits 4 tx t 0 k [] p (omega arith) ∙ rw zero (simp append_assoc))

pub entry_all : (txs : List ℕ) → AllBytes (entry_bytes txs)
unfolding entry_bytes
entry_all txs = bytes_of_bits ((3 * length txs + 1) / 2) (spell (last_fields txs)) (spell_bits (last_fields txs))

pub entry_bits : (txs : List ℕ) → bits_in (entry_bytes txs) ≡ spell (last_fields txs)
unfolding entry_bytes
entry_bits txs =
    let l : length (spell (last_fields txs)) ≡ 8 * ((3 * length txs + 1) / 2) = length_spell (last_fields txs) ∙ omega (arith, total_last txs) in
    bits_bytes ((3 * length txs + 1) / 2) (spell (last_fields txs)) l (spell_bits (last_fields txs))

-- a mark
pub mark_bytes_lem : (l : ℕ) (txs : List ℕ) → length txs < 128 → encode_record (mark_of l txs) ≡ mark_bytes (length txs) l ++ entry_bytes txs
unfolding log_fields mark_fields spell
mark_bytes_lem l txs h =
    let n = length txs in
    let all : AllBytes (mark_bytes (length txs) l ++ entry_bytes txs) =
    (omega arith, (omega arith, all_append Byte (be4 l) (entry_bytes txs) (be4_bytes l) (entry_all txs))) in
    encoded_is (mark_of l txs) (mark_bytes n l ++ entry_bytes txs) all
    (rw (bits_of_two (7 * 16 + n / 8) (n % 8 * 32) (be4 l ++ entry_bytes txs), bits_in_append (be4 l) (entry_bytes txs), be4_bits l, entry_bits txs, count_bits n h)
    (simp append_assoc))

-- ---- kinds

-- a record's kind
abbrev pub kind_of : LogRecord → ℕ
kind_of (opened_by tx) = 1
kind_of (inserted_by tx t k bs) = 2
kind_of (replaced_by tx t k bs) = 3
kind_of (deleted_by tx t k) = 4
kind_of (committed_by tx) = 5
kind_of (aborted_by tx) = 6
kind_of (mark_of l txs) = 7

-- the kind stands in the first byte
pub kind_first : (r : LogRecord) → RecordFits r → (rest : List ℕ) → get_or (encode_record r ++ rest) 0 0 / 16 ≡ kind_of r
unfolding log_fields
kind_first (opened_by tx) f rest = rw (short_bytes_lem (opened_by tx) 1 tx refl (omega arith) f) (omega arith)
kind_first (inserted_by tx t k bs) f rest =
    rw (tuple_bytes (inserted_by tx t k bs) 2 tx t k bs refl (omega arith) f.0 f.1) (omega (arith, f.0.transaction))
kind_first (replaced_by tx t k bs) f rest =
    rw (tuple_bytes (replaced_by tx t k bs) 3 tx t k bs refl (omega arith) f.0 f.1) (omega (arith, f.0.transaction))
kind_first (deleted_by tx t k) f rest = rw (delete_bytes tx t k f) (omega (arith, f.transaction))
kind_first (committed_by tx) f rest = rw (short_bytes_lem (committed_by tx) 5 tx refl (omega arith) f) (omega arith)
kind_first (aborted_by tx) f rest = rw (short_bytes_lem (aborted_by tx) 6 tx refl (omega arith) f) (omega arith)
kind_first (mark_of l txs) f rest = let h : length txs < 128 = omega (arith, f.count) in rw (mark_bytes_lem l txs h) (omega arith)

pub kind_pos : (r : LogRecord) → 0 < kind_of r
kind_pos (opened_by tx) = omega arith
kind_pos (inserted_by tx t k bs) = omega arith
kind_pos (replaced_by tx t k bs) = omega arith
kind_pos (deleted_by tx t k) = omega arith
kind_pos (committed_by tx) = omega arith
kind_pos (aborted_by tx) = omega arith
kind_pos (mark_of l txs) = omega arith
