-- The worked cases of crossing, by computation.
use Rattle.basics.proofs.Kit.{refl}
use Rattle.model.specs.CrossingCases.{CrossingCases, crossing_cases}

pub crossing_cases_hold : CrossingCases
unfolding crossing_cases
crossing_cases_hold = record {
  ends_there = refl;
  starts_there = refl;
  last_minute = refl;
  first_minute = refl;
  covers = refl;
  inside = refl;
  no_length = refl;
  one_byte = refl;
  no_byte = refl;
  long = refl;
  long_end = refl;
  last_key = refl;
  past_last_key = refl;
  own_longer = refl;
  committed_shorter = refl;
  own_shorter = refl;
  committed_longer = refl;
  own_mark = refl;
  other_mark = refl;
  not_committed = refl;
  rising = refl;
  order = refl;
  no_interval = refl;
  replies = refl;
}
