-- `engine_crossing::crosses_at` meets its contract: the three tests of a booking (`crosses_is`).
use Rattle.engine_crossing.proofs.Bookings.{crosses_is}
use Rattle.engine_crossing.proofs.crosses_at.Goals as goal

pub returns : goal.returns
returns c = crosses_is _ _ _ c.minutes_at-n.ensures.0 c.key_at-key.ensures
