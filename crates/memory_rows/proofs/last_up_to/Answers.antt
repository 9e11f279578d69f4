-- `memory_rows::last_up_to` meets its contract, by that of the search in the column of keys, which are the keys of the rows (`over_keys`).
use Rattle.memory_rows.proofs.Access.{over_keys}
use Rattle.memory_bytes.specs.Columns.{up_to}
use Rattle.basics.specs.Lists.{last_index}
use Rattle.memory_layout.specs.Places.{keys_at}
use Rattle.basics.proofs.Kit.{ap, ◌∙◌}
use Rattle.memory_rows.proofs.last_up_to.Goals as goal

pub returns : goal.returns
returns c = let a = c.args in
    over_keys a.m.now (last_index (up_to a.key)) a.s a.e c.requires.inside (c.keys_at.ensures ∙ ap keys_at c.capacity.ensures.is) c.last_up_to.ensures
