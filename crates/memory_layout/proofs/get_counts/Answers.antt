-- `memory_layout::get_counts` meets its contract: each number is read from its own bytes.
use Rattle.memory_layout.specs.Views.{counts_of}
use Rattle.memory_layout.proofs.get_counts.Goals as goal

pub returns : goal.returns
unfolding counts_of
returns c = λ i. record {
  rows = c.get4.ensures i;
  pages = c.get2.ensures i;
  opens = c.get4-2.ensures i;
  named = c.get4-3.ensures i;
  directories = c.get4-4.ensures i;
}
