-- The worked commits and aborts by place, by computation.
use Rattle.basics.proofs.Kit.{refl}
use Rattle.model.specs.PlaceCases.{PlaceCases, place_cases}

pub place_cases_hold : PlaceCases
unfolding place_cases
place_cases_hold = record {
  close = refl;
  closed = refl;
  abort = refl;
  aborted = refl;
  close_frozen = refl;
  closed_frozen = refl;
  aborted_frozen = refl;
  removed_before = refl;
  two_tables = refl;
  scattered_runs = refl;
}
