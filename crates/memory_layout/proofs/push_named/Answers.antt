-- `memory_layout::push_named` meets its contract: the number is written behind the list, then the count (`named_push`).
use Rattle.basics.proofs.Kit.{arith}
use Rattle.memory_layout.specs.Views.{head_of}
use Rattle.memory_layout.proofs.Laws.{known}
use Rattle.memory_layout.proofs.HeadLists.{named_push}
use Rattle.memory_layout.proofs.push_named.Goals as goal

pub named_place-a-requires : goal.named_place-a-requires
named_place-a-requires c = (c.requires.0, omega (arith, known _ c.requires.0, c.requires.1.few, c.get4-n.ensures))

pub put2-requires : goal.put2-requires
unfolding head_of
put2-requires c = omega (arith, known _ c.requires.0, c.requires.1.few, c.named_place-a.ensures, c.get4-n.ensures)

pub overflow_add-n : goal.overflow_add-n
overflow_add-n c = omega (arith, known _ c.requires.0, c.get4-n.ensures)

pub returns : goal.returns
unfolding head_of
returns c = named_push c.requires.0 c.args.b c.requires.1.fits c.get4-n.ensures c.requires.1.few c.named_place-a.ensures c.put2.ensures c.put4.ensures
