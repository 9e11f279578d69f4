-- `calendar::edge_open` meets its contract: a minute that the booking does not reach is not looked at (`edge_far`).
use Rattle.basics.proofs.Kit.{◌∙◌, le-leb, arith}
use Rattle.calendar.proofs.Edges.{edge_far, edge_near}
use Rattle.calendar.proofs.edge_open.Goals as goal

pub until-requires : goal.until-requires
until-requires c = (c.requires.first, c.requires.edge)

pub returns-then-length-until : goal.returns-then-length-until
returns-then-length-until c = le-leb _ _ c.if-length-until.true ∙ edge_far _ _ _ _ (omega (arith, c.until.ensures))

pub returns-else-length-until : goal.returns-else-length-until
returns-else-length-until c = c.is_open.ensures ∙ edge_near _ _ _ _ (omega (arith, c.until.ensures))
