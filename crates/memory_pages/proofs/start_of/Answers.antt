-- `memory_pages::start_of` meets its contract: the start that is stored is how many rows the pages before have (`starts`).
use Rattle.memory_layout.proofs.Laws.{starts, entries_length, rows_length}
use Rattle.basics.proofs.Kit.{◌∙◌, arith}
use Rattle.memory_pages.proofs.Ranges.{start_most}
use Rattle.memory_pages.proofs.start_of.Goals as goal

pub returns : goal.returns
returns c = let m = c.args.m.now in let p = c.args.p in
    (c.start_at.ensures ∙ starts m c.requires.0 p (omega (arith, entries_length m)), omega (arith, c.start_at.ensures, start_most c.requires.0 p, rows_length m))
