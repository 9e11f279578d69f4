use Rattle.memory_pages.specs.Pages.{Passed}
use Rattle.memory_bytes.specs.Bytes.{column2}
use Rattle.memory_pages.proofs.first_frozen.Given as goal

abbrev pub invariant-loop-p : goal.invariant-loop-p
invariant-loop-p l = Passed (column2 l.m l.base) l.n l.p
