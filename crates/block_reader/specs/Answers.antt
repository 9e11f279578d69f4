-- What reading a block answers, and what the cursor finds in a page.
use Rattle.std.specs.Prelude.{ℕ, ◌+◌, ◌%◌, Bool, List, length, get_or, drop, Option, Some, None}
use Rattle.basics.specs.Basics.{if'◌then◌else◌, is_some}
use Rattle.block_forms.specs.Limits.{record_head, mark_value}
use Rattle.block_forms.specs.Numbers.{num4}
use Rattle.block_forms.specs.Tuple.{owner_size}
use Rattle.block_forms.specs.Block.{Block, malformed, header, page, directory, as_page}
use Rattle.block_forms.specs.Decode.{read_owner, read_mark, record_length, is_record}
use Rattle.block_forms.specs.Bytes.{owner_as}
use Rattle.block_forms.specs.declared.Record.{Record}
use Rattle.block_reader.specs.declared.Cursor.{Cursor}
use Rattle.block_reader.specs.declared.Block.{Block as BlockRead}
use Rattle.block_reader.specs.declared.Block.TheVariants.{Header as HeaderRead, Page as PageRead, Directory as DirectoryRead}

-- the record at a place of a block
unfoldable pub record_at : List ℕ → ℕ → Record
record_at xs at =
    let f = get_or xs (at + 8) 0 in
    let o = read_owner f (num4 xs (at + record_head)) in
    record {
      key = num4 xs at;
      number = num4 xs (at + 4);
      owner = owner_as o;
      mark = read_mark f;
      start = at + (record_head + owner_size o);
      len = f % mark_value;
    }

-- the record at a cursor's place, with the cursor behind it
unfoldable pub next_at : List ℕ → ℕ → Option (Record × Cursor)
next_at xs at = if' is_record (drop at xs) then Some (record_at xs at, record { at = at + record_length (drop at xs) }) else None

-- a page block
abbrev pub is_page : Block → Bool
is_page b = is_some (as_page b)

-- a page's tuples and a directory's entries are left in the block
unfoldable pub reading : Block → Option BlockRead
reading malformed = None
reading (header h) = Some (HeaderRead h)
reading (page t l ts) = Some (PageRead (record { table = t; count = length ts; level = l }))
reading (directory l es) = Some (DirectoryRead (length es) l)
