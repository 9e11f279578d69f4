-- `engine_lookup::note_committed` meets its contract: what `or` gives.
use Rattle.basics.proofs.Kit.{ap}
use Rattle.std.specs.Prelude.{Option as Found}
use Rattle.engine_lookup.specs.Lookup.{note_committed}
use Rattle.engine_lookup.specs.declared.Visibility.{Visibility}
use Rattle.engine_lookup.proofs.note_committed.Goals as goal

pub returns : goal.returns
unfolding note_committed
returns c = ap (λ (o : Found _). let l : Visibility = record c.args.visibility { committed = o } in l) c.or.ensures
