-- Worked cases of the redo log's records, in bytes. All are proved in proofs/ by computation.
use Rattle.std.specs.Prelude.{ℕ, ◌≡◌, List, [], ◌∷◌, ◌++◌}
use Rattle.std.proofs.Math.Option.{none, some}
use Rattle.basics.specs.Basics.{basics}
use Rattle.block_bits.specs.Bits.{bits_of, number, bits_in, field}
use Rattle.block_forms.specs.Numbers.{same}
use Rattle.block_forms.specs.Spell.{zeros, spell, bytes_of}
use Rattle.block_forms.specs.Block.{payload_fields, entry_fields}
use Rattle.block_forms.specs.Decode.{kind, read_entries}
use Rattle.log_records.specs.Records.{LogRecord, opened_by, committed_by, aborted_by, inserted_by, replaced_by, deleted_by, mark_of}
use Rattle.log_records.specs.Records.{short_fields, tuple_fields, delete_fields, mark_fields, log_fields, log_size, encode_record, encode_records}
use Rattle.log_records.specs.Records.{transaction_in, table_in, key_in, payload_in, fields_read, within_limits, starts_with, record_spelled, decode_record}
use Rattle.log_records.specs.Records.{ended, followed_by, read_records, read_log, end_of, is_mark, from_mark}

-- a log of four records, with a mark of level 9 among them
abbrev pub four_records : List LogRecord
four_records = opened_by 0x123 ∷ mark_of 9 (0x123 ∷ []) ∷ inserted_by 0x123 7 0x01020304 (0xAA ∷ 0xBB ∷ []) ∷ committed_by 0x123 ∷ []

-- what is read of bytes, and what is spelled by them
pub record LogCases : Type 0 where
  -- kind and transaction
  pub opened : encode_record (opened_by 0x123) ≡ 0x11 ∷ 0x23 ∷ []
  pub committed : encode_record (committed_by 0xFFF) ≡ 0x5F ∷ 0xFF ∷ []
  pub aborted : encode_record (aborted_by 0) ≡ 0x60 ∷ 0x00 ∷ []
  -- table and payload length share the third and fourth byte
  pub inserted : encode_record (inserted_by 1 7 0x01020304 (0xAA ∷ 0xBB ∷ 0xCC ∷ [])) ≡ 0x20 ∷ 0x01 ∷ 0xE1 ∷ 0x80 ∷ 1 ∷ 2 ∷ 3 ∷ 4 ∷ 0xAA ∷ 0xBB ∷ 0xCC ∷ []
  pub replaced : encode_record (replaced_by 0x100 0 0 []) ≡ 0x31 ∷ 0 ∷ 0 ∷ 0 ∷ 0 ∷ 0 ∷ 0 ∷ 0 ∷ []
  pub deleted : encode_record (deleted_by 2 5 0xFFFFFFFF) ≡ 0x40 ∷ 0x02 ∷ 0xA0 ∷ 0x00 ∷ 0xFF ∷ 0xFF ∷ 0xFF ∷ 0xFF ∷ []
  -- a count that is even, none, and one that is odd: four zero bits at the end
  pub mark_none : encode_record (mark_of 9 []) ≡ 0x70 ∷ 0x00 ∷ 0 ∷ 0 ∷ 0 ∷ 9 ∷ []
  pub mark_three : encode_record (mark_of 9 (0x001 ∷ 0x23F ∷ 0xFFE ∷ [])) ≡ 0x70 ∷ 0x60 ∷ 0 ∷ 0 ∷ 0 ∷ 9 ∷ 0x00 ∷ 0x12 ∷ 0x3F ∷ 0xFF ∷ 0xE0 ∷ []
  -- records, and zeros behind them or none
  pub whole : read_log (encode_records four_records ++ zeros 3) ≡ some four_records
  pub full : read_log (encode_records four_records) ≡ some four_records
  pub end : end_of four_records ≡ 22
  pub empty : read_log (zeros 4) ≡ some []
  pub from_mark_lem : from_mark 9 (opened_by 1 ∷ mark_of 9 [] ∷ mark_of 9 (2 ∷ []) ∷ mark_of 8 [] ∷ []) ≡ some (mark_of 9 (2 ∷ []) ∷ mark_of 8 [] ∷ [])
  -- a record that is cut: its first byte is not written yet, and what stands behind it is not looked at
  pub cut : read_log (0x11 ∷ 0x23 ∷ 0x00 ∷ 0x01 ∷ 0xE1 ∷ 0x80 ∷ 1 ∷ 2 ∷ 3 ∷ 4 ∷ 0xAA ∷ []) ≡ some (opened_by 0x123 ∷ [])
  -- kind 0 or above 7 in a first byte that is not zero
  pub kind_none : read_log (0x01 ∷ 0x23 ∷ []) ≡ none
  pub kind_over : read_log (0x11 ∷ 0x23 ∷ 0x80 ∷ 0x00 ∷ []) ≡ none
  -- a zero bit that is not zero: the last of an insert, the first and the last of a delete, the last behind a mark's count and at its end
  pub insert_bit : read_log (0x20 ∷ 0x01 ∷ 0x00 ∷ 0x01 ∷ 0 ∷ 0 ∷ 0 ∷ 0 ∷ []) ≡ none
  pub delete_first : read_log (0x40 ∷ 0x01 ∷ 0x10 ∷ 0x00 ∷ 0 ∷ 0 ∷ 0 ∷ 0 ∷ []) ≡ none
  pub delete_last : read_log (0x40 ∷ 0x01 ∷ 0x00 ∷ 0x01 ∷ 0 ∷ 0 ∷ 0 ∷ 0 ∷ []) ≡ none
  pub mark_bit : read_log (0x70 ∷ 0x01 ∷ 0 ∷ 0 ∷ 0 ∷ 9 ∷ []) ≡ none
  pub mark_last : read_log (0x70 ∷ 0x20 ∷ 0 ∷ 0 ∷ 0 ∷ 9 ∷ 0x12 ∷ 0x31 ∷ []) ≡ none
  -- a payload of 63 bytes, and a mark of 65 transactions, though all their bytes are there
  pub payload_over : read_log (0x20 ∷ 0x01 ∷ 0x1F ∷ 0x80 ∷ 0 ∷ 0 ∷ 0 ∷ 0 ∷ zeros 63) ≡ none
  pub count_over : read_log (0x78 ∷ 0x20 ∷ 0 ∷ 0 ∷ 0 ∷ 9 ∷ zeros 98) ≡ none
  -- a record that runs past the area: its second byte, its payload or its last transaction is not there
  pub short_past : read_log (0x11 ∷ []) ≡ none
  pub payload_past : read_log (0x20 ∷ 0x01 ∷ 0x01 ∷ 0x00 ∷ 0 ∷ 0 ∷ 0 ∷ 0 ∷ 0xAA ∷ []) ≡ none
  pub mark_past : read_log (0x70 ∷ 0x20 ∷ 0 ∷ 0 ∷ 0 ∷ 9 ∷ 0x12 ∷ []) ≡ none

-- opens all that the cases compute: `unfolding log_cases`
unfoldable pub log_cases : ℕ
unfolding basics bits_of number bits_in field same spell bytes_of payload_fields entry_fields kind read_entries short_fields tuple_fields delete_fields mark_fields log_fields log_size
    encode_record encode_records transaction_in table_in key_in payload_in fields_read within_limits starts_with record_spelled decode_record ended followed_by read_records read_log end_of
    is_mark from_mark
log_cases = 0
