use Rattle.basics.proofs.Kit.{◌≡◌, length, take, drop}
use Rattle.basics.specs.Lists.{over}
use Rattle.block_forms.proofs.copy.Given as goal

abbrev pub invariant-loop-i : goal.invariant-loop-i
invariant-loop-i l = (length l.block ≡ length l.initial.block) × (l.block ≡ over l.initial.block l.at (take l.i (drop l.start l.from)))
