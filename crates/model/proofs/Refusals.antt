-- The runs that meet the refusals of make and of the calls, by computation.
use Rattle.basics.proofs.Kit.{refl}
use Rattle.model.specs.Cases.{Refusals, cases}

pub refusals_given : Refusals
unfolding cases
refusals_given = record { calls = refl; crowded = refl; last_numbers = refl; makes = refl }
