-- Worked cases of the call crossing: where a booking meets an interval, which version counts, and the refusals in order. All are proved
-- in proofs/ by computation.
use Rattle.std.specs.Prelude.{ℕ, ◌≡◌, List, [], ◌∷◌, length}
use Rattle.model.specs.State.{Answer, refused, done, filled}
use Rattle.model.specs.Crossing.{key_bytes, crossing_rules}
use Rattle.model.specs.Calls.{Call, transacts, call, after_calls}
use Rattle.model.specs.Calls as calls
use Rattle.model.specs.Recover.{fresh_store}
use Rattle.model.specs.Cases.{opens, inserts, replaces, deletes, commits, answers, cases}

-- a transaction asks for the bookings of a table that cross the interval from first up to end, with a reply of that length
abbrev pub crossings : ℕ → ℕ → ℕ → ℕ → ℕ → Call
crossings tx t first end room = transacts (calls.crossings tx t first end room)

-- it books in table 0 from minute k on, for n minutes, fewer than 256
abbrev pub books : ℕ → ℕ → ℕ → Call
books tx k n = inserts tx 0 k (0 ∷ n ∷ [])

-- what transaction tx is answered on table 0, with ample reply, after these calls on an empty store with 5, 6 and 7 open
unfoldable pub crossed : ℕ → List Call → ℕ → ℕ → Answer
crossed tx cs first end = (call (crossings tx 0 first end 64) (after_calls (opens 5 ∷ opens 6 ∷ opens 7 ∷ cs) (fresh_store 16 8))).answer

-- these keys
unfoldable pub found : List ℕ → Answer
found ks = filled (length ks) (key_bytes ks)

-- a booking from 100 up to 130
unfoldable pub half_hour : List Call
half_hour = books 6 100 30 ∷ []

-- a committed one, which transaction 6 replaces by one of n minutes
unfoldable pub replaced : ℕ → List Call
replaced n = books 5 100 30 ∷ commits 5 ∷ replaces 6 0 100 (0 ∷ n ∷ []) ∷ []

-- a committed one, which transaction 6 deletes
unfoldable pub deleted : List Call
deleted = books 5 100 30 ∷ commits 5 ∷ deletes 6 0 100 ∷ []

-- two bookings of table 0, the later one first, and one of table 1 between them
unfoldable pub several : List Call
several = books 6 0x01020304 9 ∷ inserts 6 1 200 (0 ∷ 30 ∷ []) ∷ books 6 100 30 ∷ []

-- what the calls give
pub record CrossingCases : Type 0 where
  -- it ends where the interval starts; it starts where the interval ends
  pub ends_there : crossed 6 half_hour 130 140 ≡ found []
  pub starts_there : crossed 6 half_hour 90 100 ≡ found []
  -- its last minute is the interval's first; its first minute is the interval's last
  pub last_minute : crossed 6 half_hour 129 140 ≡ found (100 ∷ [])
  pub first_minute : crossed 6 half_hour 90 101 ≡ found (100 ∷ [])
  -- it covers the interval whole; it is inside
  pub covers : crossed 6 half_hour 110 120 ≡ found (100 ∷ [])
  pub inside : crossed 6 half_hour 90 140 ≡ found (100 ∷ [])
  -- length 0, a payload of one byte and one of none: no minute
  pub no_length : crossed 6 (books 6 100 0 ∷ []) 90 140 ≡ found []
  pub one_byte : crossed 6 (inserts 6 0 100 (30 ∷ []) ∷ []) 90 140 ≡ found []
  pub no_byte : crossed 6 (inserts 6 0 100 [] ∷ []) 90 140 ≡ found []
  -- the length has its high byte first, and bytes behind it do not count: 256 minutes, up to 356
  pub long : crossed 6 (inserts 6 0 100 (1 ∷ 0 ∷ 9 ∷ []) ∷ []) 355 360 ≡ found (100 ∷ [])
  pub long_end : crossed 6 (inserts 6 0 100 (1 ∷ 0 ∷ 9 ∷ []) ∷ []) 356 360 ≡ found []
  -- two minutes from the last key on: its end passes 2^32
  pub last_key : crossed 6 (books 6 4294967295 2 ∷ []) 4294967295 4294967296 ≡ filled 1 (0xFF ∷ 0xFF ∷ 0xFF ∷ 0xFF ∷ [])
  pub past_last_key : crossed 6 (books 6 4294967295 2 ∷ []) 4294967296 4294967297 ≡ filled 1 (0xFF ∷ 0xFF ∷ 0xFF ∷ 0xFF ∷ [])
  -- replaced by a longer one: its transaction sees that, another one the committed
  pub own_longer : crossed 6 (replaced 60) 140 150 ≡ found (100 ∷ [])
  pub committed_shorter : crossed 7 (replaced 60) 140 150 ≡ found []
  -- replaced by a shorter one
  pub own_shorter : crossed 6 (replaced 10) 120 130 ≡ found []
  pub committed_longer : crossed 7 (replaced 10) 120 130 ≡ found (100 ∷ [])
  -- a delete mark hides the booking from its transaction, and not from another
  pub own_mark : crossed 6 deleted 110 120 ≡ found []
  pub other_mark : crossed 7 deleted 110 120 ≡ found (100 ∷ [])
  -- a tentative booking of another transaction is not seen
  pub not_committed : crossed 7 half_hour 110 120 ≡ found []
  -- the keys rise, four bytes each, high byte first; table 1 has no part in it
  pub rising : crossed 6 several 0 4294967296 ≡ filled 2 (0 ∷ 0 ∷ 0 ∷ 100 ∷ 1 ∷ 2 ∷ 3 ∷ 4 ∷ [])
  -- of several refusals the first is given: 6, 7, 10, 25
  pub order : answers (opens 6 ∷ crossings 4096 8 1 1 0 ∷ crossings 7 8 1 1 0 ∷ crossings 6 8 1 1 0 ∷ crossings 6 0 1 1 0 ∷ []) (fresh_store 16 8)
      ≡ done ∷ refused 6 ∷ refused 7 ∷ refused 10 ∷ refused 25 ∷ []
  -- an end equal to the start, with a reply of 0 and an ample one; below it; both 0; both 2^64 - 1
  pub no_interval : answers (opens 6 ∷ books 6 100 30 ∷ crossings 6 0 110 110 0 ∷ crossings 6 0 110 110 64 ∷ crossings 6 0 120 110 0 ∷ crossings 6 0 0 0 0
      ∷ crossings 6 0 18446744073709551615 18446744073709551615 0 ∷ []) (fresh_store 16 8)
      ≡ done ∷ done ∷ refused 25 ∷ refused 25 ∷ refused 25 ∷ refused 25 ∷ refused 25 ∷ []
  -- two keys need a reply of 8 bytes; none needs a reply of 0
  pub replies : answers (opens 6 ∷ books 6 100 30 ∷ books 6 200 9 ∷ crossings 6 0 0 300 7 ∷ crossings 6 0 0 300 8 ∷ crossings 6 0 300 400 0 ∷ []) (fresh_store 16 8)
      ≡ done ∷ done ∷ done ∷ refused 21 ∷ found (100 ∷ 200 ∷ []) ∷ filled 0 [] ∷ []

-- unfolds all definitions that these cases compute with: `unfolding crossing_cases`
unfoldable pub crossing_cases : ℕ
unfolding cases crossing_rules crossed found half_hour replaced deleted several
crossing_cases = 0
