-- `memory_rows::key_at` meets its contract: the key is read from its place in the column of keys (`key_is`).
use Rattle.memory_rows.proofs.Access.{key_is}
use Rattle.memory_bytes.specs.Bytes.{le4}
use Rattle.basics.proofs.Kit.{sym, ap, ◌∙◌}
use Rattle.memory_rows.proofs.key_at.Goals as goal

pub returns : goal.returns
returns c = let m = c.args.m.now in
    c.get4.ensures ∙ ap (le4 m) c.key_place.ensures.0 ∙ sym (key_is m c.args.i c.requires.1)
