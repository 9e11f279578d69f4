-- `call_checkpoint::four_named` meets its contract: the four tests joined are the test of the four entries in a list.
use Rattle.basics.proofs.Kit.{arith}
use Rattle.basics.specs.Basics.{all}
use Rattle.basics.proofs.Ands.{and_yes, and_assoc}
use Rattle.call_checkpoint.specs.Counting.{is_named, four_named}
use Rattle.memory_layout.proofs.Laws.{sizes}
use Rattle.call_checkpoint.proofs.four_named.Goals as goal

pub overflow_add-i : goal.overflow_add-i
overflow_add-i c = let p = c.requires in omega (arith, p.1, sizes p.0)

pub overflow_add-i-2 : goal.overflow_add-i-2
overflow_add-i-2 c = let p = c.requires in omega (arith, p.1, sizes p.0)

pub overflow_add-i-3 : goal.overflow_add-i-3
overflow_add-i-3 c = let p = c.requires in omega (arith, p.1, sizes p.0)

pub returns : goal.returns
unfolding four_named is_named all
returns c = rw (c.get_named-a.ensures, c.get_named-b.ensures, c.get_named-c.ensures, c.get_named-d.ensures) (simp (and_assoc, and_yes))
