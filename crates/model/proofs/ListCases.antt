-- The worked cases of list, by computation.
use Rattle.basics.proofs.Kit.{refl}
use Rattle.model.specs.ListCases.{ListCases, list_cases}

pub list_cases_hold : ListCases
unfolding list_cases
list_cases_hold = record {
  nothing_open = refl;
  opened_rising = refl;
  opened_falling = refl;
  opened_between = refl;
  first_and_last = refl;
  sixty_four = refl;
  closed = refl;
  opened_again = refl;
  longer = refl;
  long_enough = refl;
  too_short = refl;
  recovered = refl;
  twice_listed = refl;
  twice_too_short = refl;
}
