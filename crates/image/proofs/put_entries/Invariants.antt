use Rattle.basics.proofs.Kit.{◌≡◌, take}
use Rattle.basics.specs.Lists.{over}
use Rattle.image.proofs.put_entries.Given as goal

abbrev pub invariant-loop-i : goal.invariant-loop-i
invariant-loop-i l = l.out ≡ over l.initial.out l.at (take l.i l.entries)
