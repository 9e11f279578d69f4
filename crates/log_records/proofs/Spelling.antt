-- A record's bytes: how many they are, and that their bits are the record's fields.
use Rattle.basics.proofs.Kit.{◌≡◌, refl, ◌∙◌, List, [], ◌∷◌, ◌++◌, ℕ, ◌+◌, ◌*◌, ◌%◌, ◌/◌, ◌<◌, append_assoc, append-nil, ◌^◌, length, arith}
use Rattle.block_bits.specs.Bits.{bits_of, bits_in, field}
use Rattle.block_bits.specs.Fields.{get_all, widths, values, total, Fit}
use Rattle.block_bits.proofs.Blocks.{bits_in_append}
use Rattle.block_forms.specs.Tuple.{AllBytes}
use Rattle.block_forms.specs.Spell.{spell}
use Rattle.block_forms.specs.Block.{payload_fields, entry_fields}
use Rattle.block_forms.proofs.Spelled.{length_spell, spell_bits, bits_bytes, length_bytes_of, bytes_of_bits, spell_append, get_spelled}
use Rattle.block_forms.proofs.Laws.{total_entries}
use Rattle.log_records.specs.Records.{LogRecord, opened_by, committed_by, aborted_by, inserted_by, replaced_by, deleted_by, mark_of}
use Rattle.log_records.specs.Records.{short_fields, tuple_fields, delete_fields, mark_fields, log_fields, log_size, encode_record}
use Rattle.log_records.specs.Bytes.{last_fields}
use Rattle.log_records.specs.Entries.{change_is, entry_as, change_size, mark_size}
use Rattle.log_records.specs.declared.Change.{Change}
use Rattle.log_records.specs.declared.Change.TheVariants.{Open, Insert, Replace, Delete, Commit, Abort}
use Rattle.log_records.specs.declared.Entry.TheVariants.{Call}

-- ---- sizes

total_append : (fs gs : List (ℕ × ℕ)) → total (fs ++ gs) ≡ total fs + total gs
total_append [] gs = omega arith
total_append (f ∷ fs) gs = omega (arith, total_append fs gs)

total_payload : (bs : List ℕ) → total (payload_fields bs) ≡ 8 * length bs
unfolding payload_fields
total_payload [] = refl
total_payload (b ∷ bs) = omega (arith, total_payload bs)

total_tuple : (n tx t k : ℕ) (bs : List ℕ) → total (tuple_fields n tx t k bs) ≡ 8 * (8 + length bs)
unfolding tuple_fields
total_tuple n tx t k bs = omega (arith, total_payload bs)

pub total_last : (txs : List ℕ) → total (last_fields txs) ≡ 12 * length txs + 4 * (length txs % 2)
total_last txs = omega (arith, total_append (entry_fields txs) ((4 * (length txs % 2), 0) ∷ []), total_entries txs)

total_mark : (l : ℕ) (txs : List ℕ) → total (mark_fields l txs) ≡ 8 * mark_size (length txs)
unfolding mark_fields mark_size
total_mark l txs = omega (arith, total_last txs)

eighth : {n k : ℕ} → n ≡ 8 * k → n / 8 ≡ k
eighth e = omega arith

pub tuple_size : (n tx t k : ℕ) (bs : List ℕ) → total (tuple_fields n tx t k bs) / 8 ≡ 8 + length bs
tuple_size n tx t k bs = eighth (total_tuple n tx t k bs)

-- a mark takes as many bytes as the code says
pub mark_size_lem : (l : ℕ) (txs : List ℕ) → log_size (mark_of l txs) ≡ mark_size (length txs)
unfolding log_size log_fields
mark_size_lem l txs = eighth (total_mark l txs)

-- so does a change's record
pub size_of_change : (c : Change) (bs : List ℕ) → entry_as (change_is c bs) ≡ Call c → log_size (change_is c bs) ≡ change_size c
unfolding log_size log_fields change_is change_size short_fields delete_fields entry_as
size_of_change (Open tx) bs e = refl
size_of_change (Insert tx t k n) bs e = let h : length bs ≡ n = cc in rw (← h) (tuple_size 2 tx t k bs)
size_of_change (Replace tx t k n) bs e = let h : length bs ≡ n = cc in rw (← h) (tuple_size 3 tx t k bs)
size_of_change (Delete tx t k) bs e = refl
size_of_change (Commit tx) bs e = refl
size_of_change (Abort tx) bs e = refl

-- ---- bits

-- a record is a whole number of bytes, two at least
whole : (r : LogRecord) → (total (log_fields r) ≡ 8 * log_size r) × (1 < log_size r)
unfolding log_fields log_size short_fields delete_fields mark_size
whole (opened_by tx) = (refl, omega arith)
whole (committed_by tx) = (refl, omega arith)
whole (aborted_by tx) = (refl, omega arith)
whole (inserted_by tx t k bs) = (omega (arith, total_tuple 2 tx t k bs), omega (arith, total_tuple 2 tx t k bs))
whole (replaced_by tx t k bs) = (omega (arith, total_tuple 3 tx t k bs), omega (arith, total_tuple 3 tx t k bs))
whole (deleted_by tx t k) = (refl, omega arith)
whole (mark_of l txs) = (omega (arith, total_mark l txs), omega (arith, total_mark l txs))

pub two_bytes : (r : LogRecord) → 1 < log_size r
two_bytes r = (whole r).1

pub length_encoded : (r : LogRecord) → length (encode_record r) ≡ log_size r
unfolding encode_record
length_encoded r = length_bytes_of (log_size r) (spell (log_fields r))

pub bytes_encoded : (r : LogRecord) → AllBytes (encode_record r)
unfolding encode_record
bytes_encoded r = bytes_of_bits (log_size r) (spell (log_fields r)) (spell_bits (log_fields r))

pub bits_encoded : (r : LogRecord) → bits_in (encode_record r) ≡ spell (log_fields r)
unfolding encode_record
bits_encoded r = bits_bytes (log_size r) (spell (log_fields r)) (length_spell (log_fields r) ∙ (whole r).0) (spell_bits (log_fields r))

-- ---- fields

-- the first fields of a record that was written, whatever stands behind it
pub fields_back : (r : LogRecord) (fs gs : List (ℕ × ℕ)) → log_fields r ≡ fs ++ gs → Fit fs → (rest : List ℕ)
    → get_all (bits_in (encode_record r ++ rest)) 0 (widths fs) ≡ values fs
fields_back r fs gs e fit rest =
    rw (bits_in_append (encode_record r) rest, bits_encoded r, e, spell_append fs gs, append_assoc (spell fs) (spell gs) (bits_in rest))
    (get_spelled fs [] (spell gs ++ bits_in rest) fit)

-- one field of a record that was written, behind the fields ps
pub field_back : (r : LogRecord) (ps gs : List (ℕ × ℕ)) (w v : ℕ) → log_fields r ≡ ps ++ (w, v) ∷ gs → v < 2 ^ w → (rest : List ℕ)
    → field (bits_in (encode_record r ++ rest)) (total ps) w ≡ v
unfolding spell
field_back r ps gs w v e h rest =
    let got = get_spelled ((w, v) ∷ []) (spell ps) (spell gs ++ bits_in rest) (h, tt) in
    let all : bits_in (encode_record r ++ rest) ≡ spell ps ++ ((bits_of w v ++ []) ++ (spell gs ++ bits_in rest)) =
    rw (bits_in_append (encode_record r) rest, bits_encoded r, e, spell_append ps ((w, v) ∷ gs), append-nil (bits_of w v)) (simp append_assoc) in
    rw (all, ← length_spell ps) (cc)
