-- `engine_lookup::pick` meets its contract: the committed version, or the own one by its mark.
use Rattle.memory_layout.specs.Flat.{flat_of}
use Rattle.engine_lookup.proofs.Picking.{own_inside, pick_committed, pick_marked, pick_own}
use Rattle.engine_lookup.proofs.pick.Goals as goal

pub returns-in_default : goal.returns-in_default
returns-in_default c = let a = c.args in pick_committed (flat_of a.m.now) a.visibility c.in_default.is

pub mark_at-requires : goal.mark_at-requires
mark_at-requires c = let a = c.args in (c.requires.0, own_inside (flat_of a.m.now) _ _ c.in-Some.is c.requires.1)

pub returns-then-mark_at : goal.returns-then-mark_at
returns-then-mark_at c = let a = c.args in pick_marked (flat_of a.m.now) a.visibility _ c.in-Some.is _ c.mark_at.ensures c.if-mark_at.true

pub returns-else-mark_at : goal.returns-else-mark_at
returns-else-mark_at c = let a = c.args in pick_own (flat_of a.m.now) a.visibility _ c.in-Some.is _ c.mark_at.ensures c.if-mark_at.false
