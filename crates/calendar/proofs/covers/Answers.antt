-- `calendar::covers` meets its contract.
use Rattle.basics.proofs.Kit.{ap}
use lib.Dec.{ltb}
use Rattle.calendar.specs.Calendar.{covers}
use Rattle.calendar.proofs.Edges.{ranged}
use Rattle.calendar.proofs.covers.Goals as goal

pub until-requires : goal.until-requires
until-requires c = ((ranged c.requires.0).starts, c.requires.1)

pub returns : goal.returns
unfolding covers
returns c = ap (λ z. ltb z c.args.h.length) c.until.ensures
