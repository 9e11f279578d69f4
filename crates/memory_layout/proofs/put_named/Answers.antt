-- `memory_layout::put_named` meets its contract: the two bytes of entry i are written, at the place that `named_place` answers (`named_set`).
use Rattle.basics.proofs.Kit.{arith}
use Rattle.memory_layout.specs.Views.{head_of}
use Rattle.memory_layout.proofs.Laws.{known}
use Rattle.memory_layout.proofs.HeadLists.{named_set}
use Rattle.memory_layout.proofs.put_named.Goals as goal

pub named_place-a-requires : goal.named_place-a-requires
named_place-a-requires c = (c.requires.0, omega (arith, known _ c.requires.0, c.requires.1.inside))

pub put2-requires : goal.put2-requires
unfolding head_of
put2-requires c = omega (arith, known _ c.requires.0, c.requires.1.inside, c.named_place-a.ensures)

pub returns : goal.returns
unfolding head_of
returns c = named_set c.requires.0 c.args.b c.requires.1.fits c.args.i c.requires.1.inside c.named_place-a.ensures c.put2.ensures
