-- The three kinds of block, what a block of each holds, its fields in order, and how a block is spelled.
use Rattle.std.specs.Prelude.{ℕ, ◌<◌, ◌≤◌, ◌≡◌, List, [], ◌∷◌, ◌++◌, length}
use Rattle.std.proofs.Math.Option.{Option, none, some}
use Rattle.basics.specs.Basics.{AllOf, one_if}
use Rattle.block_bits.specs.Fields.{Fit}
use Rattle.block_forms.specs.Limits.{block_size, block_limit, record_space, entries_per_block}
use Rattle.block_forms.specs.Tuple.{Owner, committed, tentative, Tuple, sizes, AllFit}
use Rattle.block_forms.specs.Spell.{zeros, block_of}
use Rattle.block_forms.specs.declared.Header.{Header}

-- page: table, level of writing, tuples; directory: level, block numbers
pub data Block : Type 0 where
  malformed : Block
  header : Header → Block
  page : ℕ → ℕ → List Tuple → Block
  directory : ℕ → List ℕ → Block

-- what a page's block holds
pub record PageBlock : Type 0 where
  pub table : ℕ
  pub level : ℕ
  pub tuples : List Tuple

-- what a directory's block holds
pub record DirectoryBlock : Type 0 where
  pub level : ℕ
  pub entries : List ℕ

-- ---- what a block holds, if it is of one kind

-- a header's fields
abbrev pub as_header : Block → Option Header
as_header malformed = none
as_header (header h) = some h
as_header (page t l ts) = none
as_header (directory l es) = none

-- a page's table, level and tuples
abbrev pub as_page : Block → Option PageBlock
as_page malformed = none
as_page (header h) = none
as_page (page t l ts) = some (record { table = t; level = l; tuples = ts })
as_page (directory l es) = none

-- a directory's level and entries
abbrev pub as_directory : Block → Option DirectoryBlock
as_directory malformed = none
as_directory (header h) = none
as_directory (page t l ts) = none
as_directory (directory l es) = some (record { level = l; entries = es })

-- ---- fields

-- kind 4 bits, block count 13, N 11, level 32, next number 32, page count 11, directory count 3, four directory block numbers of 12
abbrev pub header_fields : Header → List (ℕ × ℕ)
header_fields h =
    (4, 1) ∷ (13, h.blocks) ∷ (11, h.capacity) ∷ (32, h.level) ∷ (32, h.next) ∷ (11, h.pages) ∷ (3, h.directories)
    ∷ (12, h.d0) ∷ (12, h.d1) ∷ (12, h.d2) ∷ (12, h.d3) ∷ []

-- the committed bit
unfoldable pub committed_bit : Owner → ℕ
committed_bit committed = 1
committed_bit (tentative t s) = 0

-- an owner's fields: transaction 12 and statement 20 if tentative, else none
unfoldable pub owner_fields : Owner → List (ℕ × ℕ)
owner_fields committed = []
owner_fields (tentative t s) = (12, t) ∷ (20, s) ∷ []

-- a payload's bytes
unfoldable pub payload_fields : List ℕ → List (ℕ × ℕ)
payload_fields [] = []
payload_fields (b ∷ bs) = (8, b) ∷ payload_fields bs

-- key 32, number 32, committed 1, delete mark 1, payload length 6, if tentative transaction 12 and statement 20, payload
unfoldable pub record_fields : Tuple → List (ℕ × ℕ)
record_fields x =
    (32, x.key) ∷ (32, x.number) ∷ (1, committed_bit x.owner) ∷ (1, one_if x.mark) ∷ (6, length x.payload)
    ∷ (owner_fields x.owner ++ payload_fields x.payload)

-- records one after another
unfoldable pub records_fields : List Tuple → List (ℕ × ℕ)
records_fields [] = []
records_fields (x ∷ xs) = record_fields x ++ records_fields xs

-- kind 4, table 3, tuple count 6, record bytes 9, level of writing 32, ten zero bits, then records
abbrev pub page_fields : ℕ → ℕ → List Tuple → List (ℕ × ℕ)
page_fields t l ts = (4, 2) ∷ (3, t) ∷ (6, length ts) ∷ (9, sizes ts) ∷ (32, l) ∷ (10, 0) ∷ records_fields ts

-- a directory's block numbers
unfoldable pub entry_fields : List ℕ → List (ℕ × ℕ)
entry_fields [] = []
entry_fields (e ∷ es) = (12, e) ∷ entry_fields es

-- kind 4, entry count 9, level 32, nineteen zero bits, then block numbers of 12 bits
abbrev pub directory_fields : ℕ → List ℕ → List (ℕ × ℕ)
directory_fields l es = (4, 3) ∷ (9, length es) ∷ (32, l) ∷ (19, 0) ∷ entry_fields es

-- the fields of a block of any kind
abbrev pub block_fields : Block → List (ℕ × ℕ)
block_fields malformed = []
block_fields (header h) = header_fields h
block_fields (page t l ts) = page_fields t l ts
block_fields (directory l es) = directory_fields l es

-- a block of zeros, and entries enough of which the first n have room in a directory block
pub record DirectoryStart (block es : List ℕ) (n : ℕ) : Type 0 where
  pub few : n ≤ entries_per_block
  pub there : n ≤ length es
  pub size : length block ≡ block_size
  pub zero : block ≡ zeros block_size

-- the 512 bytes of a block
unfoldable pub encode_block : Block → List ℕ
encode_block b = block_of (block_fields b)

-- every entry has 12 bits
abbrev pub EntriesFit : List ℕ → Type 0
EntriesFit es = AllOf (λ e. e < block_limit) es

-- every field of a page is in its range, and its records have room
pub record PageFits (t l : ℕ) (ts : List Tuple) : Type 0 where
  pub table : t < 8
  pub level : l < 4294967296
  pub tuples : AllFit ts
  pub room : sizes ts ≤ record_space

-- every field of a directory is in its range
pub record DirectoryFits (l : ℕ) (es : List ℕ) : Type 0 where
  pub level : l < 4294967296
  pub count : length es ≤ entries_per_block
  pub entries : EntriesFit es

-- every field of the block is in its range
abbrev pub InRange : Block → Type 0
InRange malformed = ⊥
InRange (header h) = Fit (header_fields h)
InRange (page t l ts) = PageFits t l ts
InRange (directory l es) = DirectoryFits l es
