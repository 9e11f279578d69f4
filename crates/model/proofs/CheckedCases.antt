-- The worked cases of the checked insert, by computation.
use Rattle.basics.proofs.Kit.{refl}
use Rattle.model.specs.CheckedCases.{CheckedCases, checked_cases}

pub checked_cases_hold : CheckedCases
unfolding checked_cases
checked_cases_hold = record {
  morning = refl;
  evening = refl;
  days = refl;
  inserted = refl;
  read = refl;
  no_rows = refl;
  no_length = refl;
  bad_rows = refl;
  order = refl;
  recovered = refl;
  everywhere = refl;
}
