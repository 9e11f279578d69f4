-- Worked cases of calendars, and of bookings against them, minute by minute. All are proved in proofs/ by computation.
use Rattle.std.specs.Prelude.{ℕ, zero, suc, ◌≡◌, true, false, List, [], ◌∷◌, ◌++◌}
use Rattle.basics.specs.Basics.{basics}
use Rattle.calendar.specs.Calendar.{rows_of, in_range, is_calendar, until, covers, is_open, open_throughout}
use Rattle.calendar.specs.declared.Hours.{Hours}

-- a row
abbrev pub row : ℕ → ℕ → Hours
row s l = record { start = s; length = l }

-- that many rows of minute 0, in bytes
unfoldable pub many_rows : ℕ → List ℕ
many_rows zero = []
many_rows (suc n) = 0 ∷ 0 ∷ 0 ∷ 1 ∷ many_rows n

-- Monday 00:00 to 10:00 and 10:00 to 20:00; the same with 10:00 to 10:01 closed
unfoldable pub touching : List Hours
touching = row 0 600 ∷ row 600 600 ∷ []

unfoldable pub gap : List Hours
gap = row 0 600 ∷ row 601 599 ∷ []

-- Sunday 23:50 to Monday 00:10
unfoldable pub midnight : List Hours
midnight = row 10070 20 ∷ []

-- the week in two rows, and without its last minute
unfoldable pub whole_week : List Hours
whole_week = row 0 5040 ∷ row 5040 5040 ∷ []

unfoldable pub minute_less : List Hours
minute_less = row 0 5040 ∷ row 5040 5039 ∷ []

-- when these bookings, by first minute and length, are open throughout
pub record CalendarCases : Type 0 where
  -- four bytes a row, high byte first
  pub bytes : rows_of (0x27 ∷ 0x5F ∷ 0x27 ∷ 0x60 ∷ 0 ∷ 1 ∷ 0 ∷ 2 ∷ []) ≡ row 10079 10080 ∷ row 1 2 ∷ []
  -- 32 rows are a calendar, and none is one; 33 are not
  pub rows_none : is_calendar [] ≡ true
  pub rows_most : is_calendar (many_rows 32) ≡ true
  pub rows_more : is_calendar (many_rows 33) ≡ false
  -- a last row of one, two or three bytes
  pub row_cut : is_calendar (many_rows 1 ++ 0 ∷ []) ≡ false
  pub row_half : is_calendar (many_rows 1 ++ 0 ∷ 0 ∷ []) ≡ false
  pub row_short : is_calendar (many_rows 1 ++ 0 ∷ 0 ∷ 0 ∷ []) ≡ false
  -- start 10,079 and 10,080; length 10,080, 10,081 and 0
  pub row_last : is_calendar (0x27 ∷ 0x5F ∷ 0x27 ∷ 0x60 ∷ []) ≡ true
  pub start_over : is_calendar (0x27 ∷ 0x60 ∷ 0 ∷ 1 ∷ []) ≡ false
  pub length_over : is_calendar (0 ∷ 0 ∷ 0x27 ∷ 0x61 ∷ []) ≡ false
  pub length_none : is_calendar (0 ∷ 0 ∷ 0 ∷ 0 ∷ []) ≡ false
  -- no rows: every minute is closed, and only what has no minute is open throughout
  pub closed : open_throughout [] 0 1 ≡ false
  pub nothing : open_throughout [] 0 0 ≡ true
  -- one row of the whole week
  pub whole : open_throughout (row 0 10080 ∷ []) 5000 10080 ≡ true
  -- a row that wraps past Sunday, in its own week and in the next ones
  pub wraps : open_throughout midnight 10070 20 ≡ true
  pub wraps_again : open_throughout midnight 20155 15 ≡ true
  pub wraps_monday : open_throughout midnight 0 10 ≡ true
  pub wraps_before : open_throughout midnight 10069 2 ≡ false
  pub wraps_behind : open_throughout midnight 10070 21 ≡ false
  -- two rows that touch, and a gap of one minute between them
  pub touches : open_throughout touching 0 1200 ≡ true
  pub touches_last : open_throughout touching 0 1201 ≡ false
  pub gap_before : open_throughout gap 0 600 ≡ true
  pub gap_first : open_throughout gap 0 601 ≡ false
  pub gap_alone : open_throughout gap 600 1 ≡ false
  pub gap_inside : open_throughout gap 0 1200 ≡ false
  pub gap_behind : open_throughout gap 601 599 ≡ true
  -- a booking longer than a week in a week that is open throughout, and in one that is closed for its last minute
  pub long : open_throughout whole_week 1234 12000 ≡ true
  pub long_closed : open_throughout minute_less 1234 12000 ≡ false
  pub almost_week : open_throughout minute_less 0 10079 ≡ true
  pub week_closed : open_throughout minute_less 0 10080 ≡ false
  -- start 10,079: the last minute of Sunday, and of length 10,080 all minutes
  pub last_minute : open_throughout (row 10079 1 ∷ []) 10079 1 ≡ true
  pub past_minute : open_throughout (row 10079 1 ∷ []) 10079 2 ≡ false
  pub every_minute : open_throughout (row 10079 10080 ∷ []) 0 10081 ≡ true
  -- the last key is minute 255 of its week: alone, and with the longest booking
  pub last_key : open_throughout (row 255 1 ∷ []) 4294967295 1 ≡ true
  pub last_key_past : open_throughout (row 255 1 ∷ []) 4294967295 2 ≡ false
  pub longest : open_throughout whole_week 4294967295 65535 ≡ true
  pub longest_closed : open_throughout minute_less 4294967295 65535 ≡ false

-- unfolds all definitions that these cases compute with: `unfolding calendar_cases`
unfoldable pub calendar_cases : ℕ
unfolding basics rows_of in_range is_calendar until covers is_open open_throughout many_rows touching gap midnight whole_week minute_less
calendar_cases = 0
