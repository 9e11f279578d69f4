-- `memory_rows::places::ref_at` meets its contract, by those of `ref_place` and `get2`.
use Rattle.memory_bytes.specs.Bytes.{le2}
use Rattle.basics.proofs.Kit.{ap, ◌∙◌}
use Rattle.memory_rows.proofs.places.ref_at.Goals as goal

pub returns : goal.returns
returns c = c.get2.ensures ∙ ap (le2 c.args.m.now) c.ref_place.ensures.0
