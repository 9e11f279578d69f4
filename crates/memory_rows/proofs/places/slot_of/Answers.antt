-- `memory_rows::places::slot_of` meets its contract: a slot number below the capacity is answered as it is, any other as slot 0.
use Rattle.memory_layout.specs.Views.{slot_of}
use Rattle.basics.proofs.Kit.{lt-ltb, le-ltb}
use Rattle.basics.specs.Basics.{if'◌then◌else◌}
use Rattle.memory_rows.proofs.places.slot_of.Goals as goal

pub returns-then-s-c : goal.returns-then-s-c
unfolding slot_of if'◌then◌else◌
returns-then-s-c c = (simp (lt-ltb _ _ c.if-s-c.true), c.if-s-c.true)

pub returns-else-s-c : goal.returns-else-s-c
unfolding slot_of if'◌then◌else◌
returns-else-s-c c = (simp (le-ltb _ _ c.if-s-c.false), c.requires)
