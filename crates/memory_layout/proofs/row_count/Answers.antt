-- `memory_layout::row_count` meets its contract: the head's count of rows is how many rows there are (`rows_length`).
use Rattle.basics.proofs.Kit.{sym, ◌∙◌}
use Rattle.memory_layout.proofs.Laws.{rows_length}
use Rattle.memory_layout.proofs.row_count.Goals as goal

pub returns : goal.returns
returns c = c.get4.ensures ∙ sym (rows_length c.args.m.now)
