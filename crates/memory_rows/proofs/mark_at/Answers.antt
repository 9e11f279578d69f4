-- `memory_rows::mark_at` meets its contract: the mark is read from the row's state (`mark_is`).
use Rattle.memory_rows.proofs.Access.{mark_is}
use Rattle.block_forms.specs.Decode.{read_mark}
use Rattle.basics.proofs.Kit.{sym, ap, ◌∙◌}
use Rattle.memory_rows.proofs.mark_at.Goals as goal

pub returns : goal.returns
returns c = c.mark_of.ensures ∙ ap read_mark c.state_at.ensures ∙ sym (mark_is c.args.m.now c.args.i c.requires.1)
