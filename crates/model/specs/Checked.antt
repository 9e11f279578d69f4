-- The checked insert: a booking is taken only if its dish is open for every minute of it. Each table is one dish, whose calendar is lent with the call.
use Rattle.std.specs.Prelude.{ℕ, not, List, [], ◌∷◌, eqb}
use Rattle.calendar.specs.Calendar.{minutes, rows_of, is_calendar, open_throughout}
use Rattle.model.specs.State.{Store, Outcome}
use Rattle.model.specs.Transactions.{Test, ◌when◌, unless, no_table, insert_call}

-- 26 over 32 rows, or one out of range
unfoldable pub no_calendar : List ℕ → Test
no_calendar hours = 26 when not (is_calendar hours)

-- 27 the payload is under two bytes or gives length 0
unfoldable pub no_length : List ℕ → Test
no_length bs = 27 when eqb (minutes bs) 0

-- 28 some minute of the booking is closed
unfoldable pub some_closed : ℕ → List ℕ → List ℕ → Test
some_closed k bs hours = 28 when not (open_throughout (rows_of hours) k (minutes bs))

-- the tests before those of the insert
unfoldable pub hours_tests : ℕ → ℕ → List ℕ → List ℕ → List Test
hours_tests t k bs hours = no_table t ∷ no_calendar hours ∷ no_length bs ∷ some_closed k bs hours ∷ []

-- insert, for a booking that the calendar allows
unfoldable pub insert_checked_call : ℕ → ℕ → ℕ → List ℕ → List ℕ → Store → Outcome
insert_checked_call tx t k bs hours s = unless (hours_tests t k bs hours) s (insert_call tx t k bs s)

-- unfolds the definitions of the checked insert: `unfolding checked_rules`
unfoldable pub checked_rules : ℕ
unfolding no_calendar no_length some_closed hours_tests insert_checked_call
checked_rules = 0
