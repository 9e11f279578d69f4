-- Worked cases of the checked insert: a dish that is open on weekdays from 06:00 to 22:00, and the refusals in order. Which minutes of a booking
-- count is in the cases of the calendar itself. All are proved in proofs/ by computation.
use Rattle.std.specs.Prelude.{ℕ, ◌/◌, ◌%◌, ◌≡◌, true, List, [], ◌∷◌, ◌++◌, replicate}
use Rattle.calendar.specs.Calendar.{minutes, rows_of, in_range, is_calendar, until, covers, is_open, open_throughout}
use Rattle.model.specs.State.{Answer, refused, done, filled}
use Rattle.model.specs.Checked.{checked_rules}
use Rattle.model.specs.Calls.{Call, transacts, runs, begins, after_calls}
use Rattle.model.specs.Calls as calls
use Rattle.model.specs.Recover.{fresh_store, made_image}
use Rattle.model.specs.CrashRecovery.{log}
use Rattle.model.specs.Cases.{opens, inserts, commits, reads, answers, recovered_after, answers_in, cut_everywhere, cases}

-- a transaction inserts, with table, key, payload and the dish's calendar
abbrev pub checks : ℕ → ℕ → ℕ → List ℕ → List ℕ → Call
checks tx t k bs hours = transacts (calls.inserts_checked tx t k bs hours)

-- a row of a calendar: start and length
unfoldable pub hours_row : ℕ → ℕ → List ℕ
hours_row s l = s / 256 ∷ s % 256 ∷ l / 256 ∷ l % 256 ∷ []

-- Monday to Friday, from 06:00 to 22:00
unfoldable pub weekdays : List ℕ
weekdays = hours_row 360 960 ++ hours_row 1800 960 ++ hours_row 3240 960 ++ hours_row 4680 960 ++ hours_row 6120 960

-- transaction 5 books that dish, table 0, from minute k on for n minutes, fewer than 256
abbrev pub books : ℕ → ℕ → Call
books k n = checks 5 0 k (0 ∷ n ∷ []) weekdays

-- what is answered of these bookings on an empty store, with 5 open
unfoldable pub booked : List Call → List Answer
booked cs = answers cs (after_calls (opens 5 ∷ []) (fresh_store 16 8))

-- a booking of Monday 06:00, committed; a checkpoint; one of Tuesday 06:00; another checkpoint
unfoldable pub stored : List Call
stored = opens 5 ∷ books 360 30 ∷ commits 5 ∷ begins ∷ runs 9 8192 ∷ opens 5 ∷ books 1800 30 ∷ begins ∷ runs 9 8192 ∷ []

-- what the calls give
pub record CheckedCases : Type 0 where
  -- Monday 06:00 and a minute before it; the half hour up to 22:00 and a minute past it
  pub morning : booked (books 360 30 ∷ books 359 30 ∷ []) ≡ done ∷ refused 28 ∷ []
  pub evening : booked (books 1290 30 ∷ books 1291 30 ∷ []) ≡ done ∷ refused 28 ∷ []
  -- Friday, Saturday, Sunday, and Monday a week later
  pub days : booked (books 7000 30 ∷ books 8000 30 ∷ books 9500 30 ∷ books 10440 30 ∷ []) ≡ done ∷ refused 28 ∷ refused 28 ∷ done ∷ []
  -- accepted, it is an insert like any other
  pub inserted : after_calls (opens 5 ∷ books 360 30 ∷ []) (fresh_store 16 8) ≡ after_calls (opens 5 ∷ inserts 5 0 360 (0 ∷ 30 ∷ []) ∷ []) (fresh_store 16 8)
  pub read : booked (books 360 30 ∷ reads 5 0 360 9 ∷ []) ≡ done ∷ filled 2 (0 ∷ 30 ∷ []) ∷ []
  -- a dish without rows is closed; without a length it is 27 all the same
  pub no_rows : booked (checks 5 0 360 (0 ∷ 30 ∷ []) [] ∷ checks 5 0 360 (0 ∷ []) [] ∷ []) ≡ refused 28 ∷ refused 27 ∷ []
  -- a payload of no byte, of one, and of length 0
  pub no_length : booked (checks 5 0 360 [] weekdays ∷ checks 5 0 360 (9 ∷ []) weekdays ∷ books 360 0 ∷ []) ≡ refused 27 ∷ refused 27 ∷ refused 27 ∷ []
  -- 33 rows, a row out of range, a row of three bytes
  pub bad_rows : booked (checks 5 0 360 (0 ∷ 30 ∷ []) (replicate 132 1) ∷ checks 5 0 360 (0 ∷ 30 ∷ []) (weekdays ++ hours_row 0 0)
      ∷ checks 5 0 360 (0 ∷ 30 ∷ []) (weekdays ++ 0 ∷ 0 ∷ 1 ∷ []) ∷ []) ≡ refused 26 ∷ refused 26 ∷ refused 26 ∷ []
  -- of several refusals the first is given: 10, 26, 27, 28, 6, 7, 11, and then those of the key
  pub order : booked (checks 4096 8 0 [] (0 ∷ []) ∷ checks 4096 0 0 [] (0 ∷ []) ∷ checks 4096 0 0 [] weekdays ∷ checks 4096 0 0 (0 ∷ 30 ∷ []) weekdays
      ∷ checks 4096 0 360 (0 ∷ 30 ∷ replicate 39 0) weekdays ∷ checks 6 0 360 (0 ∷ 30 ∷ replicate 39 0) weekdays
      ∷ checks 5 0 360 (0 ∷ 30 ∷ replicate 39 0) weekdays ∷ books 360 30 ∷ books 360 30 ∷ opens 6 ∷ checks 6 0 360 (0 ∷ 30 ∷ []) weekdays ∷ [])
      ≡ refused 10 ∷ refused 26 ∷ refused 27 ∷ refused 28 ∷ refused 6 ∷ refused 7 ∷ refused 11 ∷ done ∷ refused 13 ∷ done ∷ refused 12 ∷ []
  -- it is part of every run: after a restart it is read, and wherever the run is cut recovery gives what it must
  pub recovered : answers_in (recovered_after stored) (reads 5 0 360 9 ∷ reads 5 0 1800 9 ∷ books 360 30 ∷ books 3240 30 ∷ [])
      ≡ filled 2 (0 ∷ 30 ∷ []) ∷ filled 2 (0 ∷ 30 ∷ []) ∷ refused 13 ∷ done ∷ []
  pub everywhere : cut_everywhere (fresh_store 16 8) (made_image (replicate 8192 0xFF) 8) [] (log [] [] (fresh_store 16 8) stored) ≡ true

-- unfolds all definitions that these cases compute with: `unfolding checked_cases`
unfoldable pub checked_cases : ℕ
unfolding cases minutes rows_of in_range is_calendar until covers is_open open_throughout checked_rules hours_row weekdays booked stored
checked_cases = 0
