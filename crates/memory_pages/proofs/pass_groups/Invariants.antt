use Rattle.basics.proofs.Kit.{◌*◌}
use Rattle.memory_pages.specs.Pages.{Passed}
use Rattle.memory_bytes.specs.Bytes.{column2}
use Rattle.memory_pages.proofs.pass_groups.Given as goal

abbrev pub invariant-loop-g : goal.invariant-loop-g
invariant-loop-g l = Passed (column2 l.m l.base) l.n (l.g * 16)
