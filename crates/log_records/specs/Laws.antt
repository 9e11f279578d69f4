-- The laws of the redo log's records, proved in proofs/.
use Rattle.std.specs.Prelude.{ℕ, ◌<◌, ◌≡◌, true, List, ◌++◌, length, get_or}
use Rattle.std.proofs.Math.Option.{some}
use Rattle.basics.specs.Basics.{AllOf}
use Rattle.block_forms.specs.Tuple.{AllBytes}
use Rattle.block_forms.specs.Spell.{zeros}
use Rattle.log_records.specs.Records.{LogRecord, RecordFits, log_size, encode_record, encode_records, decode_record, ended, read_log}

-- a record has as many bytes as its size says, two at least, and its first byte is not zero
abbrev pub RecordBytes : Type 0
RecordBytes = (r : LogRecord) → RecordFits r → (length (encode_record r) ≡ log_size r) × (1 < log_size r) × AllBytes (encode_record r) × (0 < get_or (encode_record r) 0 0)

-- one reading: a record that was written is read back, whatever stands behind it
abbrev pub DecodeOfEncode : Type 0
DecodeOfEncode = (r : LogRecord) → RecordFits r → (rest : List ℕ) → decode_record (encode_record r ++ rest) ≡ some r

-- what is read: its fields are in range, and these very bytes spell it
pub record Read (xs : List ℕ) (r : LogRecord) : Type 0 where
  pub fits : RecordFits r
  pub rest : List ℕ
  pub is : xs ≡ encode_record r ++ rest

-- one spelling: every bit of a record that is read is determined
abbrev pub EncodeOfDecode : Type 0
EncodeOfDecode = (xs : List ℕ) → AllBytes xs → (r : LogRecord) → decode_record xs ≡ some r → Read xs r

-- records that were written, and behind them the area's end or a byte that is zero, are read back
abbrev pub LogOfRecords : Type 0
LogOfRecords = (rs : List LogRecord) → AllOf RecordFits rs → (rest : List ℕ) → ended rest ≡ true → read_log (encode_records rs ++ rest) ≡ some rs

-- what is read of a log: its records are in range, its first bytes spell them, and there it ends
pub record ReadLog (xs : List ℕ) (rs : List LogRecord) : Type 0 where
  pub fit : AllOf RecordFits rs
  pub rest : List ℕ
  pub is : xs ≡ encode_records rs ++ rest
  pub ends : ended rest ≡ true

-- a log that is read is the records read and what is no record
abbrev pub RecordsOfLog : Type 0
RecordsOfLog = (xs : List ℕ) → AllBytes xs → (rs : List LogRecord) → read_log xs ≡ some rs → ReadLog xs rs

-- zeros appended to the area change no record: a longer copy may be lent
abbrev pub ZerosAppended : Type 0
ZerosAppended = (xs : List ℕ) → AllBytes xs → (rs : List LogRecord) → read_log xs ≡ some rs → (n : ℕ) → read_log (xs ++ zeros n) ≡ some rs
