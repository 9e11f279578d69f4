-- The worked cases, by computation.
use mathlib.Core.Path.{refl}
use Rattle.calendar.specs.Cases.{CalendarCases, calendar_cases}

pub cases : CalendarCases
unfolding calendar_cases
cases = record {
  bytes = refl;
  rows_none = refl;
  rows_most = refl;
  rows_more = refl;
  row_cut = refl;
  row_half = refl;
  row_short = refl;
  row_last = refl;
  start_over = refl;
  length_over = refl;
  length_none = refl;
  closed = refl;
  nothing = refl;
  whole = refl;
  wraps = refl;
  wraps_again = refl;
  wraps_monday = refl;
  wraps_before = refl;
  wraps_behind = refl;
  touches = refl;
  touches_last = refl;
  gap_before = refl;
  gap_first = refl;
  gap_alone = refl;
  gap_inside = refl;
  gap_behind = refl;
  long = refl;
  long_closed = refl;
  almost_week = refl;
  week_closed = refl;
  last_minute = refl;
  past_minute = refl;
  every_minute = refl;
  last_key = refl;
  last_key_past = refl;
  longest = refl;
  longest_closed = refl;
}
