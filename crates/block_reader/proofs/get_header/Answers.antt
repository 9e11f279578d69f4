-- `block_reader::get_header` meets its contract: each field is read at its own bits.
use Rattle.block_forms.specs.Decode.{read_header}
use Rattle.block_reader.proofs.get_header.Goals as goal

pub returns : goal.returns
unfolding read_header
returns c = λ i. record {
  blocks = c.get32.ensures i;
  capacity = c.get32-2.ensures i;
  level = c.get32-3.ensures i;
  next = c.get32-4.ensures i;
  pages = c.get32-5.ensures i;
  directories = c.get32-6.ensures i;
  d0 = c.get32-7.ensures i;
  d1 = c.get32-8.ensures i;
  d2 = c.get32-9.ensures i;
  d3 = c.get32-10.ensures i;
}
