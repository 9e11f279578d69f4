-- Recovery's tests in their stages: 1, 22, 23 and 24. (Refusal 3, the memory, stands between 22 and 23.)
use Rattle.std.specs.Prelude.{ℕ, ◌-◌, ◌/◌, ◌%◌, min, Bool, ◌&&◌, List, [], ◌∷◌, ◌++◌, length, eqb, leb}
use Rattle.std.proofs.Math.Option.{Option, none, some, map}
use Rattle.basics.specs.Basics.{if'◌then◌else◌}
use Rattle.block_forms.specs.Limits.{block_size, block_limit, entries_per_block}
use Rattle.block_forms.specs.Tuple.{Tuple}
use Rattle.block_forms.specs.Block.{PageBlock, DirectoryBlock, as_page, as_directory}
use Rattle.block_forms.specs.declared.Header.{Header}
use Rattle.image_rows.specs.Rows.{Row, rows_of, rows_ok}
use Rattle.image.specs.View.{View}
-- what a header and its directories may count and name
pub use Rattle.image_header.specs.Names.{capacity_limit, numbers_of}
unfoldable pub use Rattle.image_header.specs.Names.{block_ok, is_zero, directories_for, directory_blocks, unused_numbers, counts_ok, header_ok, entries_ok}
-- what a page block may be
unfoldable pub use Rattle.image_page.specs.Page.{page_ok}

-- a stage's answer: the refusal's number, or what the image holds
pub data Stage (A : Type 0) : Type 0 where
  refuses : ℕ → Stage A
  holds : A → Stage A

-- the refusal's number, 0 if there is none
unfoldable pub refusal_of : {A : Type 0} → Stage A → ℕ
refusal_of (refuses n) = n
refusal_of (holds a) = 0

-- ---- 1: image not 2 to 4,096 whole blocks

-- n bytes are 2 to 4,096 whole blocks
unfoldable pub whole_blocks : ℕ → Bool
whole_blocks n = eqb (n % block_size) 0 && (leb 2 (n / block_size) && leb (n / block_size) block_limit)

-- ---- 22: header

-- block 0 of an image of n blocks
unfoldable pub header_test : ℕ → Option Header → Stage Header
header_test n none = refuses 22
header_test n (some h) = if' header_ok n h then holds h else refuses 22

-- ---- 23: directory

-- the entries of a directory block of level l, where p pages are still to be named
unfoldable pub entries_due : ℕ → ℕ → Option DirectoryBlock → Option (List ℕ)
entries_due l p none = none
entries_due l p (some d) = if' eqb d.level l && eqb (length d.entries) (min entries_per_block p) then some d.entries else none

-- the entries of a block, and those of the blocks after it
unfoldable pub add_entries : Option (List ℕ) → Option (List ℕ) → Option (List ℕ)
add_entries none more = none
add_entries (some es) more = map (λ fs. es ++ fs) more

-- the entries of the directory blocks ds, for p pages
unfoldable pub read_directories : View → ℕ → ℕ → List ℕ → Option (List ℕ)
read_directories v l p [] = some []
read_directories v l p (d ∷ ds) = add_entries (entries_due l p (as_directory (v d))) (read_directories v l (p - entries_per_block) ds)

-- the entries, if every directory block could be read
unfoldable pub tested_entries : Header → Option (List ℕ) → Stage (List ℕ)
tested_entries h none = refuses 23
tested_entries h (some es) = if' entries_ok h.blocks (directory_blocks h) es then holds es else refuses 23

-- the block of each page, in order
unfoldable pub directory_test : View → Header → Stage (List ℕ)
directory_test v h = tested_entries h (read_directories v h.level h.pages (directory_blocks h))

-- ---- 24: pages

-- a page of an image: the block that holds it, its table, its tuples
pub record StoredPage : Type 0 where
  pub block : ℕ
  pub table : ℕ
  pub tuples : List Tuple

-- the page that block e holds
abbrev pub stored_page : ℕ → PageBlock → StoredPage
stored_page e p = record { block = e; table = p.table; tuples = p.tuples }

-- the page at block e below a header of level l, and those after it
unfoldable pub add_page : ℕ → ℕ → Option PageBlock → Option (List StoredPage) → Option (List StoredPage)
add_page l e none more = none
add_page l e (some p) more = if' page_ok l p then map (λ ps. stored_page e p ∷ ps) more else none

-- the pages at the blocks es
unfoldable pub read_pages : View → ℕ → List ℕ → Option (List StoredPage)
read_pages v l [] = some []
read_pages v l (e ∷ es) = add_page l e (as_page (v e)) (read_pages v l es)

-- all tuples of the pages, in order
unfoldable pub rows_of_pages : List StoredPage → List Row
rows_of_pages [] = []
rows_of_pages (p ∷ ps) = rows_of p.table p.tuples ++ rows_of_pages ps

-- tables do not fall: on pages that are not empty the order of the rows says so
unfoldable pub tested_pages : Header → Option (List StoredPage) → Stage (List StoredPage)
tested_pages h none = refuses 24
tested_pages h (some ps) = if' rows_ok h.capacity h.next (rows_of_pages ps) then holds ps else refuses 24

-- the pages, in order
unfoldable pub page_test : View → Header → List ℕ → Stage (List StoredPage)
page_test v h es = tested_pages h (read_pages v h.level es)
