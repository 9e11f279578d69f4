-- Bookings, and the weekly calendar of a dish: which minutes are open, and when a booking is open throughout.
use Rattle.std.specs.Prelude.{ℕ, ◌+◌, ◌*◌, ◌-◌, ◌%◌, ◌<◌, ◌≡◌, Bool, true, ◌&&◌, ◌||◌, List, [], ◌∷◌, length, get_or, leb, ltb, eqb}
use Rattle.basics.specs.Basics.{any, all, every, from}
use Rattle.calendar.specs.declared.Hours.{Hours}

-- ---- bookings

-- a booking's length in minutes: the first two bytes of its payload, high byte first; a shorter payload has none
unfoldable pub minutes : List ℕ → ℕ
minutes [] = 0
minutes (b ∷ []) = 0
minutes (b ∷ c ∷ bs) = 256 * b + c

-- ---- rows

-- the minutes of a week, from Monday 00:00 UTC on
abbrev pub week : ℕ
week = 10080

-- the most rows of a calendar
abbrev pub row_limit : ℕ
row_limit = 32

-- the bytes of a row
abbrev pub row_size : ℕ
row_size = 4

-- Four bytes a row: its start and its length, two bytes each, high byte first. Fewer bytes than four at the end are no row.
unfoldable pub rows_of : List ℕ → List Hours
rows_of [] = []
rows_of (a ∷ []) = []
rows_of (a ∷ b ∷ []) = []
rows_of (a ∷ b ∷ c ∷ []) = []
rows_of (a ∷ b ∷ c ∷ d ∷ bs) = record { start = 256 * a + b; length = 256 * c + d } ∷ rows_of bs

-- the row in four bytes
abbrev pub row_in : List ℕ → Hours
row_in row = record { start = 256 * get_or row 0 0 + get_or row 1 0; length = 256 * get_or row 2 0 + get_or row 3 0 }

-- a row's start is 0 to 10,079, its length 1 to 10,080
unfoldable pub in_range : Hours → Bool
in_range h = every (ltb h.start week ∷ ltb 0 h.length ∷ leb h.length week ∷ [])

-- a calendar: at most 32 rows, the last one whole, each in range
unfoldable pub is_calendar : List ℕ → Bool
is_calendar bs = every (leb (length bs) (row_limit * row_size) ∷ eqb (length bs % row_size) 0 ∷ all in_range (rows_of bs) ∷ [])

-- ---- minutes

-- how many minutes after minute a of the week minute b comes, past Sunday where b is before a
unfoldable pub until : ℕ → ℕ → ℕ
until a b = (b + week - a) % week

-- the row covers minute u of the week
unfoldable pub covers : ℕ → Hours → Bool
covers u h = ltb (until h.start u) h.length

-- some row covers minute u, counted from a Monday midnight
unfoldable pub is_open : List Hours → ℕ → Bool
is_open hs u = any (covers (u % week)) hs

-- every minute of a booking that starts at minute k and lasts n minutes is open
unfoldable pub open_throughout : List Hours → ℕ → ℕ → Bool
open_throughout hs k n = all (is_open hs) (from k n)

-- ---- the same, told at few minutes

-- the minute of the week just behind a row
unfoldable pub end_of : Hours → ℕ
end_of h = (h.start + h.length) % week

-- the booking that starts at minute f of the week and lasts n minutes does not reach minute e of the week, or that is open
unfoldable pub edge_open : List Hours → ℕ → ℕ → ℕ → Bool
edge_open hs f n e = leb n (until f e) || is_open hs e

-- its first minute is open, and so is every minute that it has just behind a row
unfoldable pub open_at_edges : List Hours → ℕ → ℕ → Bool
open_at_edges hs k n = edge_open hs (k % week) n (k % week) && all (λ h. edge_open hs (k % week) n (end_of h)) hs

-- where rows are in range, these minutes tell it for every minute, however long the booking is
abbrev pub ToldAtEdges : Type 0
ToldAtEdges = (hs : List Hours) → all in_range hs ≡ true → (k n : ℕ) → open_throughout hs k n ≡ open_at_edges hs k n

-- ---- what the code asks for

-- rows that are a calendar, and two minutes of the week
pub record EdgeAsked (hours : List ℕ) (f e : ℕ) : Type 0 where
  pub rows : is_calendar hours ≡ true
  pub first : f < week
  pub edge : e < week
