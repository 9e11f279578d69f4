-- `memory_layout::get_head` meets its contract: each number is read from its own four bytes.
use Rattle.basics.proofs.Kit.{not, eqb}
use Rattle.memory_layout.specs.Views.{head_of}
use Rattle.memory_layout.proofs.get_head.Goals as goal

pub returns : goal.returns
unfolding head_of
returns c = λ i. record {
  capacity = c.get4.ensures i;
  blocks = c.get4-2.ensures i;
  level = c.get4-3.ensures i;
  next = c.get4-4.ensures i;
  running = not (eqb (c.get4-5.ensures i) 0);
  begun = c.get4-6.ensures i;
  taken = c.get4-7.ensures i;
}
