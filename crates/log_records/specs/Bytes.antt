-- Records byte by byte, as the code writes and reads them: proofs/Bytewise.antt shows that these are the fields of Records.antt.
use Rattle.std.specs.Prelude.{ℕ, ◌+◌, ◌*◌, ◌/◌, ◌%◌, List, [], ◌∷◌, ◌++◌, length, get_or}
use Rattle.block_forms.specs.Numbers.{be4}
use Rattle.block_forms.specs.Spell.{spell, bytes_of}
use Rattle.block_forms.specs.Block.{entry_fields}

-- kind and transaction
abbrev pub short_bytes : ℕ → ℕ → List ℕ
short_bytes n tx = (n * 16 + tx / 256) ∷ tx % 256 ∷ []

-- behind the first byte: transaction, table, payload length, zero bits, key
abbrev pub place_rest : ℕ → ℕ → ℕ → ℕ → List ℕ
place_rest tx t len k = tx % 256 ∷ (t * 32 + len / 2) ∷ len % 2 * 128 ∷ be4 k

-- kind and transaction, table, payload length, zero bits, key; a delete is one of no payload
abbrev pub place_bytes : ℕ → ℕ → ℕ → ℕ → ℕ → List ℕ
place_bytes n tx t len k = (n * 16 + tx / 256) ∷ place_rest tx t len k

-- a mark's kind, count, zero bits and level
abbrev pub mark_bytes : ℕ → ℕ → List ℕ
mark_bytes n l = (7 * 16 + n / 8) ∷ n % 8 * 32 ∷ be4 l

-- the fields of a mark's transactions, and zero bits to a whole byte
abbrev pub last_fields : List ℕ → List (ℕ × ℕ)
last_fields txs = entry_fields txs ++ (4 * (length txs % 2), 0) ∷ []

-- the bytes of a mark's transactions
unfoldable pub entry_bytes : List ℕ → List ℕ
entry_bytes txs = bytes_of ((3 * length txs + 1) / 2) (spell (last_fields txs))

-- ---- what is read

-- the transaction in a record's first two bytes
abbrev pub transaction_of : List ℕ → ℕ
transaction_of xs = get_or xs 0 0 % 16 * 256 + get_or xs 1 0

-- a tuple's payload length
abbrev pub length_of : List ℕ → ℕ
length_of xs = get_or xs 2 0 % 32 * 2 + get_or xs 3 0 / 128

-- a mark's count
abbrev pub count_of : List ℕ → ℕ
count_of xs = get_or xs 0 0 % 16 * 8 + get_or xs 1 0 / 32
