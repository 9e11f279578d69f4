-- `engine_writer::is_shown` meets its contract: it is what `is_adding` is not.
use Rattle.basics.proofs.Kit.{ap, not}
use Rattle.engine_writer.proofs.is_shown.Goals as goal

pub returns : goal.returns
returns c = ap not c.is_adding.ensures
