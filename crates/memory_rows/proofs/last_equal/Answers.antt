-- `memory_rows::last_equal` meets its contract, by that of the search in the column of keys, which are the keys of the rows (`over_keys`).
use Rattle.memory_rows.proofs.Access.{over_keys}
use Rattle.memory_bytes.specs.Columns.{equals}
use Rattle.basics.specs.Lists.{last_index}
use Rattle.memory_layout.specs.Places.{keys_at}
use Rattle.basics.proofs.Kit.{ap, ◌∙◌}
use Rattle.memory_rows.proofs.last_equal.Goals as goal

pub returns : goal.returns
returns c = let a = c.args in
    over_keys a.m.now (last_index (equals a.key)) a.s a.e c.requires.inside (c.keys_at.ensures ∙ ap keys_at c.capacity.ensures.is) c.last_equal.ensures
