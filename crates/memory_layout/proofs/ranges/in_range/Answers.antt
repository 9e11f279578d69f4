-- `memory_layout::in_range` meets its contract: the eleven tests, joined from the left, are the definition's list of tests.
use Rattle.basics.proofs.Kit.{[], ◌∷◌}
use Rattle.basics.proofs.Elements.{joined_every}
use Rattle.memory_layout.specs.Store.{in_range}
use Rattle.memory_layout.proofs.ranges.in_range.Goals as goal

pub returns : goal.returns
unfolding in_range
returns c = joined_every _ (_ ∷ _ ∷ _ ∷ _ ∷ _ ∷ _ ∷ _ ∷ _ ∷ _ ∷ _ ∷ [])
