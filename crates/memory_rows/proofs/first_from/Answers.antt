-- `memory_rows::first_from` meets its contract, by that of the search in the column of keys, which are the keys of the rows (`over_keys`).
use Rattle.memory_rows.proofs.Access.{over_keys}
use Rattle.memory_bytes.specs.Columns.{at_least}
use Rattle.basics.specs.Lists.{first_index}
use Rattle.memory_layout.specs.Places.{keys_at}
use Rattle.basics.proofs.Kit.{ap, ◌∙◌}
use Rattle.memory_rows.proofs.first_from.Goals as goal

pub returns : goal.returns
returns c = let a = c.args in
    over_keys a.m.now (first_index (at_least a.key)) a.s a.e c.requires.inside (c.keys_at.ensures ∙ ap keys_at c.capacity.ensures.is) c.first_from.ensures
