-- What any list of bytes is as an image: a refusal, or what it holds.
use Rattle.std.specs.Prelude.{ℕ, List, length}
use Rattle.basics.specs.Basics.{if'◌then◌else◌}
use Rattle.block_forms.specs.Block.{as_header}
use Rattle.block_forms.specs.declared.Header.{Header}
use Rattle.image.specs.View.{View, view, block_count}
use Rattle.image.specs.Stages.{Stage, refuses, holds, whole_blocks, header_test, directory_test, StoredPage, page_test}

-- the header (level, next number, N, page count, directory blocks), and the pages in order
pub record Contents : Type 0 where
  pub header : Header
  pub pages : List StoredPage

-- tests 1 and 22
unfoldable pub header_stage : List ℕ → Stage Header
header_stage bytes = if' whole_blocks (length bytes) then header_test (block_count bytes) (as_header (view bytes 0)) else refuses 1

-- test 24, by the answer of test 23
unfoldable pub pages_below : View → Header → Stage (List ℕ) → Stage (List StoredPage)
pages_below v h (refuses n) = refuses n
pages_below v h (holds es) = page_test v h es

-- tests 23 and 24, for a header that passed
unfoldable pub pages_stage : View → Header → Stage (List StoredPage)
pages_stage v h = pages_below v h (directory_test v h)

-- what the image holds, by a header that passed and the answer of tests 23 and 24
unfoldable pub with_header : Header → Stage (List StoredPage) → Stage Contents
with_header h (refuses n) = refuses n
with_header h (holds ps) = holds (record { header = h; pages = ps })

-- the tests that come after the header's
unfoldable pub after_header : View → Stage Header → Stage Contents
after_header v (refuses n) = refuses n
after_header v (holds h) = with_header h (pages_stage v h)

-- all tests but 3, as the lister makes them
unfoldable pub read_image : List ℕ → Stage Contents
read_image bytes = after_header (view bytes) (header_stage bytes)
