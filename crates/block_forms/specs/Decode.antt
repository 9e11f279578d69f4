-- What 512 bytes are as a block. A block is what it spells: its fields are read, and the value is accepted only if these very
-- bytes spell it, so that counts, sums and stray bits are all tested by one comparison.
use Rattle.std.specs.Prelude.{ℕ, zero, suc, ◌+◌, ◌/◌, ◌%◌, Bool, ◌&&◌, List, [], ◌∷◌, length, get_or, take, drop, ltb, leb, eqb}
use Rattle.std.proofs.Math.Option.{Option, none, some, map}
use Rattle.basics.specs.Basics.{if'◌then◌else◌}
use Rattle.block_bits.specs.Bits.{bits_in, field}
use Rattle.block_forms.specs.Limits.{payload_limit, page_head_size, record_head, mark_value, committed_value, statement_limit, entries_per_block}
use Rattle.block_forms.specs.Numbers.{num4, same}
use Rattle.block_forms.specs.Tuple.{Owner, committed, tentative, Tuple, owner_size, record_size}
use Rattle.block_forms.specs.Block.{Block, malformed, header, page, directory, encode_block}
use Rattle.block_forms.specs.declared.Header.{Header}

-- the first four bits of a block
unfoldable pub kind : List ℕ → ℕ
kind xs = field (bits_in xs) 0 4

-- the value, if these bytes spell it
unfoldable pub spelled_by : List ℕ → Block → Block
spelled_by xs b = if' same (encode_block b) xs then b else malformed

-- ---- header

-- a header's fields, each at its place
unfoldable pub read_header : List ℕ → Header
read_header xs = record {
  blocks = field (bits_in xs) 4 13;
  capacity = field (bits_in xs) 17 11;
  level = field (bits_in xs) 28 32;
  next = field (bits_in xs) 60 32;
  pages = field (bits_in xs) 92 11;
  directories = field (bits_in xs) 103 3;
  d0 = field (bits_in xs) 106 12;
  d1 = field (bits_in xs) 118 12;
  d2 = field (bits_in xs) 130 12;
  d3 = field (bits_in xs) 142 12;
}

-- the header that these bytes spell
unfoldable pub header_in : List ℕ → Block
header_in xs = spelled_by xs (header (read_header xs))

-- ---- page

-- the owner of a record whose ninth byte is f, and whose next four bytes are the number w
unfoldable pub read_owner : ℕ → ℕ → Owner
read_owner f w = if' ltb f committed_value then tentative (w / statement_limit) (w % statement_limit) else committed

-- the delete mark of a record whose ninth byte is f
unfoldable pub read_mark : ℕ → Bool
read_mark f = leb mark_value (f % committed_value)

-- the record at the front of xs: a record starts at a byte, and so do all its fields but those of its ninth byte and its owner
unfoldable pub read_tuple : List ℕ → Tuple
read_tuple xs =
    let f = get_or xs 8 0 in
    let o = read_owner f (num4 xs record_head) in
    record { key = num4 xs 0; number = num4 xs 4; owner = o; mark = read_mark f; payload = take (f % mark_value) (drop (record_head + owner_size o) xs) }

-- how many bytes the record at the front of xs takes
unfoldable pub record_length : List ℕ → ℕ
record_length xs = record_size (ltb (get_or xs 8 0) committed_value) (get_or xs 8 0 % mark_value)

-- a whole record is there, with a payload within the limit
unfoldable pub is_record : List ℕ → Bool
is_record xs = leb record_head (length xs) && (leb (get_or xs 8 0 % mark_value) payload_limit && leb (record_length xs) (length xs))

-- n records from the front on, each a whole record
unfoldable pub read_tuples : ℕ → List ℕ → Option (List Tuple)
read_tuples zero xs = some []
read_tuples (suc n) xs = if' is_record xs then map (λ ts. read_tuple xs ∷ ts) (read_tuples n (drop (record_length xs) xs)) else none

-- the first n tuples of a page's block
abbrev pub page_tuples : ℕ → List ℕ → Option (List Tuple)
page_tuples n xs = read_tuples n (drop page_head_size xs)

-- a page's table
unfoldable pub page_table : List ℕ → ℕ
page_table xs = field (bits_in xs) 4 3

-- a page's tuple count
unfoldable pub page_count : List ℕ → ℕ
page_count xs = field (bits_in xs) 7 6

-- a page's record bytes
unfoldable pub page_bytes : List ℕ → ℕ
page_bytes xs = field (bits_in xs) 13 9

-- a page's level of writing
unfoldable pub page_level : List ℕ → ℕ
page_level xs = field (bits_in xs) 22 32

-- the page of these tuples, if these bytes spell it
unfoldable pub page_spelled : List ℕ → Option (List Tuple) → Block
page_spelled xs none = malformed
page_spelled xs (some ts) = spelled_by xs (page (page_table xs) (page_level xs) ts)

-- the page that these bytes spell
unfoldable pub page_in : List ℕ → Block
page_in xs = page_spelled xs (page_tuples (page_count xs) xs)

-- ---- directory

-- n entries of 12 bits from bit at on
unfoldable pub read_entries : List ℕ → ℕ → ℕ → List ℕ
read_entries xs at zero = []
read_entries xs at (suc n) = field (bits_in xs) at 12 ∷ read_entries xs (at + 12) n

-- a directory's entry count
unfoldable pub directory_count : List ℕ → ℕ
directory_count xs = field (bits_in xs) 4 9

-- a directory's level
unfoldable pub directory_level : List ℕ → ℕ
directory_level xs = field (bits_in xs) 13 32

-- the directory that these bytes spell; more entries would not be in the block
unfoldable pub directory_in : List ℕ → Block
directory_in xs =
    if' leb (directory_count xs) entries_per_block
    then spelled_by xs (directory (directory_level xs) (read_entries xs 64 (directory_count xs)))
    else malformed

-- 1 header, 2 page, 3 directory, any other is refused
unfoldable pub decode_block : List ℕ → Block
decode_block xs =
    if' eqb (kind xs) 1 then header_in xs
    else if' eqb (kind xs) 2 then page_in xs
    else if' eqb (kind xs) 3 then directory_in xs
    else malformed
