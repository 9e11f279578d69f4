-- The laws of the block forms, proved in proofs/.
use Rattle.std.specs.Prelude.{ℕ, ◌≡◌, List, length}
use Rattle.block_forms.specs.Tuple.{Tuple, sizes}
use Rattle.block_forms.specs.Block.{Block, malformed, page, PageFits, InRange, encode_block}
use Rattle.block_forms.specs.Decode.{decode_block}
use Rattle.block_forms.specs.Bytes.{part_page}

-- one reading: what is spelled is read back, for every block whose fields are in range
abbrev pub DecodeOfEncode : Type 0
DecodeOfEncode = (b : Block) → InRange b → decode_block (encode_block b) ≡ b

-- one spelling: what is read and not malformed is spelled by these very bytes
abbrev pub EncodeOfDecode : Type 0
EncodeOfDecode = (xs : List ℕ) → (decode_block xs ≡ malformed → ⊥) → encode_block (decode_block xs) ≡ xs

-- a page under construction that has all its tuples is the page
abbrev pub WholePage : Type 0
WholePage = (t l : ℕ) (ts : List Tuple) → PageFits t l ts → part_page t l (length ts) (sizes ts) ts ≡ encode_block (page t l ts)
