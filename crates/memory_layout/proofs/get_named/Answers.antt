-- `memory_layout::get_named` meets its contract, by `named_at_lem` from the two bytes at the place that `named_place` answers.
use Rattle.basics.proofs.Kit.{ap, ◌∙◌, arith}
use Rattle.memory_bytes.specs.Bytes.{le2}
use Rattle.memory_layout.specs.Views.{head_of}
use Rattle.memory_layout.proofs.Laws.{known}
use Rattle.memory_layout.proofs.HeadLists.{named_at_lem}
use Rattle.memory_layout.proofs.get_named.Goals as goal

pub named_place-requires : goal.named_place-requires
named_place-requires c = (c.requires.0, omega (arith, known _ c.requires.0))

pub get2-requires : goal.get2-requires
unfolding head_of
get2-requires c = omega (arith, known _ c.requires.0, c.named_place.ensures)

pub returns : goal.returns
unfolding head_of
returns c = named_at_lem _ _ _ c.requires.0 c.requires.1 (c.get2.ensures ∙ ap (le2 c.args.m.now) c.named_place.ensures)
