-- An image is a list of bytes; block i is its i-th 512 bytes, and what it is as a block.
use Rattle.std.specs.Prelude.{ℕ, ◌*◌, ◌/◌, List, length, take, drop}
use Rattle.block_forms.specs.Limits.{block_size}
use Rattle.block_forms.specs.Block.{Block}
use Rattle.block_forms.specs.Decode.{decode_block}

-- the bytes of block i
unfoldable pub block_at : List ℕ → ℕ → List ℕ
block_at bytes i = take block_size (drop (block_size * i) bytes)

-- how many whole blocks there are
unfoldable pub block_count : List ℕ → ℕ
block_count bytes = length bytes / block_size

-- what each block is
abbrev pub View : Type 0
View = ℕ → Block

-- each block, as its bytes are read
unfoldable pub view : List ℕ → View
view bytes i = decode_block (block_at bytes i)
