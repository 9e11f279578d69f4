-- The worked cases, by computation.
use mathlib.Core.Path.{refl}
use Rattle.log_records.specs.Cases.{LogCases, log_cases}

pub cases : LogCases
unfolding log_cases
cases = record {
  opened = refl;
  committed = refl;
  aborted = refl;
  inserted = refl;
  replaced = refl;
  deleted = refl;
  mark_none = refl;
  mark_three = refl;
  whole = refl;
  full = refl;
  end = refl;
  empty = refl;
  from_mark_lem = refl;
  cut = refl;
  kind_none = refl;
  kind_over = refl;
  insert_bit = refl;
  delete_first = refl;
  delete_last = refl;
  mark_bit = refl;
  mark_last = refl;
  payload_over = refl;
  count_over = refl;
  short_past = refl;
  payload_past = refl;
  mark_past = refl;
}
