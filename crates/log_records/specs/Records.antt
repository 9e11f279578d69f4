-- The redo log: what a record says, its fields and its bytes, and what any bytes are as a log.
use Rattle.std.specs.Prelude.{ℕ, zero, suc, ◌*◌, ◌/◌, ◌%◌, ◌<◌, ◌≤◌, Bool, true, false, ◌&&◌, List, [], ◌∷◌, ◌++◌, length, take, drop, leb, eqb}
use Rattle.std.proofs.Math.Option.{Option, none, some}
use Rattle.basics.specs.Basics.{if'◌then◌else◌, sum, AllOf}
use Rattle.block_bits.specs.Bits.{bits_in, field}
use Rattle.block_bits.specs.Fields.{total}
use Rattle.block_forms.specs.Limits.{payload_limit, transaction_limit}
use Rattle.block_forms.specs.Tuple.{AllBytes}
use Rattle.block_forms.specs.Spell.{spell, bytes_of}
use Rattle.block_forms.specs.Block.{payload_fields, entry_fields}
use Rattle.block_forms.specs.Numbers.{same}
use Rattle.block_forms.specs.Decode.{kind, read_entries}
use Rattle.image_rows.specs.Rows.{open_limit}

-- ---- records

-- A transaction was opened, committed or aborted; it inserted, replaced or deleted a tuple, of that table, key and payload; or a mark: a checkpoint
-- of that level began while these transactions were open without writes.
pub data LogRecord : Type 0 where
  opened_by committed_by aborted_by : ℕ → LogRecord
  inserted_by replaced_by : ℕ → ℕ → ℕ → List ℕ → LogRecord
  deleted_by : ℕ → ℕ → ℕ → LogRecord
  mark_of : ℕ → List ℕ → LogRecord

-- a transaction is 0 to 4,095, a table 0 to 7, and a key has 32 bits
pub record PlaceFits (tx t k : ℕ) : Type 0 where
  pub transaction : tx < transaction_limit
  pub table : t < 8
  pub key : k < 4294967296

-- a payload is within the limit
pub record PayloadFits (bs : List ℕ) : Type 0 where
  pub limit : length bs ≤ payload_limit
  pub bytes : AllBytes bs

-- a level has 32 bits, and at most 64 transactions are open
pub record MarkFits (l : ℕ) (txs : List ℕ) : Type 0 where
  pub level : l < 4294967296
  pub count : length txs ≤ open_limit
  pub transactions : AllOf (λ tx. tx < transaction_limit) txs

-- every field of a record is in its range
abbrev pub RecordFits : LogRecord → Type 0
RecordFits (opened_by tx) = tx < transaction_limit
RecordFits (committed_by tx) = tx < transaction_limit
RecordFits (aborted_by tx) = tx < transaction_limit
RecordFits (inserted_by tx t k bs) = PlaceFits tx t k × PayloadFits bs
RecordFits (replaced_by tx t k bs) = PlaceFits tx t k × PayloadFits bs
RecordFits (deleted_by tx t k) = PlaceFits tx t k
RecordFits (mark_of l txs) = MarkFits l txs

-- ---- fields and bytes

-- kind 4, transaction 12
unfoldable pub short_fields : ℕ → ℕ → List (ℕ × ℕ)
short_fields n tx = (4, n) ∷ (12, tx) ∷ []

-- kind 4, transaction 12, table 3, payload length 6, seven zero bits, key 32, payload
unfoldable pub tuple_fields : ℕ → ℕ → ℕ → ℕ → List ℕ → List (ℕ × ℕ)
tuple_fields n tx t k bs = (4, n) ∷ (12, tx) ∷ (3, t) ∷ (6, length bs) ∷ (7, 0) ∷ (32, k) ∷ payload_fields bs

-- kind 4, transaction 12, table 3, thirteen zero bits, key 32
unfoldable pub delete_fields : ℕ → ℕ → ℕ → List (ℕ × ℕ)
delete_fields tx t k = (4, 4) ∷ (12, tx) ∷ (3, t) ∷ (13, 0) ∷ (32, k) ∷ []

-- kind 4, count 7, five zero bits, level 32, transactions of 12, zero bits to a whole byte
unfoldable pub mark_fields : ℕ → List ℕ → List (ℕ × ℕ)
mark_fields l txs = (4, 7) ∷ (7, length txs) ∷ (5, 0) ∷ (32, l) ∷ (entry_fields txs ++ (4 * (length txs % 2), 0) ∷ [])

-- the fields of a record: the kind is never zero, and so a record's first byte is not either
unfoldable pub log_fields : LogRecord → List (ℕ × ℕ)
log_fields (opened_by tx) = short_fields 1 tx
log_fields (inserted_by tx t k bs) = tuple_fields 2 tx t k bs
log_fields (replaced_by tx t k bs) = tuple_fields 3 tx t k bs
log_fields (deleted_by tx t k) = delete_fields tx t k
log_fields (committed_by tx) = short_fields 5 tx
log_fields (aborted_by tx) = short_fields 6 tx
log_fields (mark_of l txs) = mark_fields l txs

-- how many bytes a record takes
unfoldable pub log_size : LogRecord → ℕ
log_size r = total (log_fields r) / 8

-- the bytes of a record: its fields, most significant bit first
unfoldable pub encode_record : LogRecord → List ℕ
encode_record r = bytes_of (log_size r) (spell (log_fields r))

-- the bytes of records one after another
unfoldable pub encode_records : List LogRecord → List ℕ
encode_records [] = []
encode_records (r ∷ rs) = encode_record r ++ encode_records rs

-- ---- what any bytes are. As a block, a record is what it spells: its fields are read, and it is accepted only if these very bytes spell it.

-- the transaction behind the kind
unfoldable pub transaction_in : List ℕ → ℕ
transaction_in xs = field (bits_in xs) 4 12

-- a tuple's table
unfoldable pub table_in : List ℕ → ℕ
table_in xs = field (bits_in xs) 16 3

-- a tuple's key
unfoldable pub key_in : List ℕ → ℕ
key_in xs = field (bits_in xs) 32 32

-- a tuple's payload
unfoldable pub payload_in : List ℕ → List ℕ
payload_in xs = take (field (bits_in xs) 19 6) (drop 8 xs)

-- what the fields at the front of xs give, by their kind; none for another kind
unfoldable pub fields_read : List ℕ → Option LogRecord
fields_read xs =
    if' eqb (kind xs) 1 then some (opened_by (transaction_in xs))
    else if' eqb (kind xs) 2 then some (inserted_by (transaction_in xs) (table_in xs) (key_in xs) (payload_in xs))
    else if' eqb (kind xs) 3 then some (replaced_by (transaction_in xs) (table_in xs) (key_in xs) (payload_in xs))
    else if' eqb (kind xs) 4 then some (deleted_by (transaction_in xs) (table_in xs) (key_in xs))
    else if' eqb (kind xs) 5 then some (committed_by (transaction_in xs))
    else if' eqb (kind xs) 6 then some (aborted_by (transaction_in xs))
    else if' eqb (kind xs) 7 then some (mark_of (field (bits_in xs) 16 32) (read_entries xs 48 (field (bits_in xs) 4 7)))
    else none

-- a payload and the count of open transactions are within their limits
unfoldable pub within_limits : LogRecord → Bool
within_limits (opened_by tx) = true
within_limits (committed_by tx) = true
within_limits (aborted_by tx) = true
within_limits (inserted_by tx t k bs) = leb (length bs) payload_limit
within_limits (replaced_by tx t k bs) = leb (length bs) payload_limit
within_limits (deleted_by tx t k) = true
within_limits (mark_of l txs) = leb (length txs) open_limit

-- the bytes xs start with bs
unfoldable pub starts_with : List ℕ → List ℕ → Bool
starts_with bs xs = same bs (take (length bs) xs)

-- the record, if the bytes xs start with its bytes
unfoldable pub record_spelled : List ℕ → Option LogRecord → Option LogRecord
record_spelled xs none = none
record_spelled xs (some r) = if' within_limits r && starts_with (encode_record r) xs then some r else none

-- the record at the front of xs; none where it is malformed or runs past the end
unfoldable pub decode_record : List ℕ → Option LogRecord
decode_record xs = record_spelled xs (fields_read xs)

-- the log ends where a record's first byte would be zero, or at the area's end
unfoldable pub ended : List ℕ → Bool
ended [] = true
ended (x ∷ xs) = eqb x 0

-- a record and those behind it
unfoldable pub followed_by : LogRecord → Option (List LogRecord) → Option (List LogRecord)
followed_by r none = none
followed_by r (some rs) = some (r ∷ rs)

-- the records from the front of xs on, n at most; none where one is malformed
unfoldable pub read_records : ℕ → List ℕ → Option (List LogRecord)
read_records zero xs = if' ended xs then some [] else none
read_records (suc n) xs =
    elim (ended xs) [
      | true ↦ some []
      | false ↦ elim (decode_record xs) [ none ↦ none | some r ↦ followed_by r (read_records n (drop (log_size r) xs)) ]
    ]

-- the whole records of a log, none if it is malformed. (A record takes a byte or more, so there are not more of them than bytes.)
unfoldable pub read_log : List ℕ → Option (List LogRecord)
read_log xs = read_records (length xs) xs

-- where the records of a log end
unfoldable pub end_of : List LogRecord → ℕ
end_of rs = sum log_size rs

-- ---- marks

-- r is a mark of level l
unfoldable pub is_mark : ℕ → LogRecord → Bool
is_mark l (opened_by tx) = false
is_mark l (committed_by tx) = false
is_mark l (aborted_by tx) = false
is_mark l (inserted_by tx t k bs) = false
is_mark l (replaced_by tx t k bs) = false
is_mark l (deleted_by tx t k) = false
is_mark l (mark_of m txs) = eqb m l

-- the records from the last mark of level l on, if there is one
unfoldable pub from_mark : ℕ → List LogRecord → Option (List LogRecord)
from_mark l [] = none
from_mark l (r ∷ rs) = elim (from_mark l rs) [ some qs ↦ some qs | none ↦ if' is_mark l r then some (r ∷ rs) else none ]
