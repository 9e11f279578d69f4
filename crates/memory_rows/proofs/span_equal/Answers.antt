-- `memory_rows::span_equal` meets its contract, by that of the search in the column of keys, which are the keys of the rows (`covers_keys`).
use Rattle.memory_rows.proofs.Access.{covers_keys}
use Rattle.memory_layout.specs.Places.{keys_at}
use Rattle.basics.proofs.Kit.{ap, ◌∙◌}
use Rattle.memory_rows.proofs.span_equal.Goals as goal

pub returns : goal.returns
returns c = let a = c.args in
    covers_keys a.m.now c.requires.inside (c.keys_at.ensures ∙ ap keys_at c.capacity.ensures.is) c.span_equal.ensures
