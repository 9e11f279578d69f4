-- The worked cases of deleting and inserting again, by computation.
use Rattle.basics.proofs.Kit.{refl}
use Rattle.model.specs.RebookCases.{RebookCases, rebook_cases}

pub rebook_cases_hold : RebookCases
unfolding rebook_cases
rebook_cases_hold = record {
  rebooking = refl;
  every_version = refl;
  stored = refl;
  recovered = refl;
  goes_on = refl;
  newest_left = refl;
  mark_between = refl;
  mark_first = refl;
  everywhere = refl;
  own_booking = refl;
  withdrawn_again = refl;
  mark_committed = refl;
  given_back = refl;
  committed_left = refl;
  others_wait = refl;
  free_then = refl;
  frozen = refl;
  frozen_block = refl;
  thawed = refl;
}
