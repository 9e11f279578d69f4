-- The numbers of the block forms, each named once.
use Rattle.std.specs.Prelude.{ℕ, ◌+◌, ◌*◌, ◌-◌}

-- a block has 512 bytes
abbrev pub block_size : ℕ
block_size = 512

-- a block's bits
abbrev pub block_bits : ℕ
block_bits = 8 * block_size

-- an image has at most 4,096 blocks, so a block number has 12 bits
abbrev pub block_limit : ℕ
block_limit = 4096

-- a payload has 0 to 40 bytes
abbrev pub payload_limit : ℕ
payload_limit = 40

-- a page's fields before its records
abbrev pub page_head_size : ℕ
page_head_size = 8

-- a block has 504 bytes for records
abbrev pub record_space : ℕ
record_space = 504

-- two pages are joined if their sizes sum to at most 336
abbrev pub join_sum : ℕ
join_sum = 336

-- a record's key, number and ninth byte
abbrev pub record_head : ℕ
record_head = 9

-- a tentative tuple's transaction and statement
abbrev pub owner_width : ℕ
owner_width = 4

-- the largest record: tentative, with the longest payload
abbrev pub most_record : ℕ
most_record = record_head + owner_width + payload_limit

-- the delete mark's bit in a record's ninth byte; below it stands the payload's length
abbrev pub mark_value : ℕ
mark_value = 64

-- the committed bit in a record's ninth byte
abbrev pub committed_value : ℕ
committed_value = 128

-- a transaction has 12 bits
abbrev pub transaction_limit : ℕ
transaction_limit = 4096

-- the largest transaction
abbrev pub most_transaction : ℕ
most_transaction = transaction_limit - 1

-- a statement has 20 bits
abbrev pub statement_limit : ℕ
statement_limit = 1048576

-- the largest statement, and the largest count of tuples written
abbrev pub most_statement : ℕ
most_statement = statement_limit - 1

-- block numbers in every directory block but the last
abbrev pub entries_per_block : ℕ
entries_per_block = 336

-- the largest 32-bit number
abbrev pub most_number : ℕ
most_number = 4294967295
