use Rattle.basics.proofs.Kit.{take}
use Rattle.call_recovery.specs.Loading.{pages_at, Loads}
use Rattle.image.specs.View.{view}
use Rattle.call_recovery.proofs.load_pages.Given as goal

abbrev pub invariant-loop-e : goal.invariant-loop-e
invariant-loop-e l = Loads (pages_at (view l.image) (take l.e-index l.entries)) l.initial.m l.m
