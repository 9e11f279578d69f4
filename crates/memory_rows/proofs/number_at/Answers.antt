-- `memory_rows::number_at` meets its contract: the number is read from the start of the row's slot (`number_is`).
use Rattle.memory_rows.proofs.Access.{number_is}
use Rattle.memory_bytes.specs.Bytes.{le4}
use Rattle.basics.proofs.Kit.{sym, ap, ◌∙◌}
use Rattle.memory_rows.proofs.number_at.Goals as goal

pub returns : goal.returns
returns c = let m = c.args.m.now in
    c.get4.ensures ∙ ap (le4 m) c.slot_place.ensures.0 ∙ sym (number_is m c.args.i c.requires.1)
