use Rattle.image.proofs.Named.{Gathering}
use Rattle.image.specs.View.{view}
use Rattle.image.proofs.gather.Given as goal

abbrev pub invariant-loop-d : goal.invariant-loop-d
invariant-loop-d l = Gathering (view l.image) l.level l.pages l.directories l.initial.out l.d-index l.at l.out
