-- `image_rows::follows` meets its contract, by cases: the place rises, falls or stays; where it stays, by numbers and owners (`owner_follows`).
use Rattle.basics.proofs.Kit.{sym, ◌∙◌, le-ltb, arith}
use Rattle.std.proofs.lemmas.Grind.{common_steps}
use Rattle.image_rows.proofs.Places.{follows_rising, follows_falling, follows_there, owner_follows}
use Rattle.image_rows.proofs.follows.Goals as goal

pub returns-then-p-p2-2 : goal.returns-then-p-p2-2
returns-then-p-p2-2 c = sym (follows_rising _ _ _ _ _ _ _ c.if-p-p2-2.true)

pub returns-else-p-p2-2 : goal.returns-else-p-p2-2
returns-else-p-p2-2 c = le-ltb _ _ c.if-p-p2-2.false ∙ sym (follows_falling _ _ _ _ _ _ _ (omega (arith, c.if-p-p2.true, c.if-p-p2-2.false)))

pub returns-then-o-eq0 : goal.returns-then-o-eq0
returns-then-o-eq0 c = let a = c.args in rw (follows_there a.p a.n a.o a.p2 a.n2 a.o2 a.m2 c.if-p-p2.false, owner_follows) (grind (arith, common_steps))

pub returns-else-o-eq0 : goal.returns-else-o-eq0
returns-else-o-eq0 c = let a = c.args in rw (follows_there a.p a.n a.o a.p2 a.n2 a.o2 a.m2 c.if-p-p2.false, owner_follows) (grind (arith, common_steps))

pub returns-else-o2-gt0 : goal.returns-else-o2-gt0
returns-else-o2-gt0 c = let a = c.args in rw (follows_there a.p a.n a.o a.p2 a.n2 a.o2 a.m2 c.if-p-p2.false, owner_follows) (grind (arith, common_steps))
