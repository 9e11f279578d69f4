-- Bookings that cross an interval of minutes: the keys of those that a transaction sees in a table.
use Rattle.std.specs.Prelude.{ℕ, ◌+◌, ◌/◌, ◌%◌, Bool, List, [], ◌∷◌, ◌++◌, length, leb, ltb, eqb}
use Rattle.std.proofs.Math.Option.{Option, none, some}
use Rattle.basics.specs.Basics.{if'◌then◌else◌, every, keep}
use Rattle.calendar.specs.Calendar.{minutes}
use Rattle.block_forms.specs.Tuple.{Tuple}
use Rattle.image_rows.specs.Rows.{Row}
use Rattle.model.specs.State.{Page, Store, Outcome}
use Rattle.model.specs.Sight.{seen_of}
use Rattle.model.specs.Transactions.{Test, ◌when◌, unless, replied, not_open, no_table, Placed, all_runs, each_run, rows_in}

-- ---- bookings

-- The booking runs from its key up to, not including, key + length, which may pass 32 bits: it shares a minute with the interval from first
-- up to, not including, end. One of length 0 shares none.
unfoldable pub crosses : ℕ → ℕ → Tuple → Bool
crosses first end x =
    every (ltb 0 (minutes x.payload) ∷ ltb x.key end ∷ ltb first (x.key + minutes x.payload) ∷ [])

-- ---- run by run

-- the live rows of a run, if it is of table t; else none
unfoldable pub rows_of_table : ℕ → List Placed → List Row
rows_of_table t run = keep (λ r. eqb r.0 t) (rows_in run)

-- the key of the version that is seen, if that crosses
unfoldable pub key_if : ℕ → ℕ → Option Row → List ℕ
key_if first end none = []
key_if first end (some r) = if' crosses first end r.1 then r.1.key ∷ [] else []

-- the key of a run of table t of which transaction tx sees a version that crosses
unfoldable pub key_of_run : ℕ → ℕ → ℕ → ℕ → List Placed → List ℕ
key_of_run tx t first end run = key_if first end (seen_of tx (rows_of_table t run))

-- the keys of all runs
unfoldable pub crossing_keys : ℕ → ℕ → ℕ → ℕ → List Page → List ℕ
crossing_keys tx t first end ps = each_run (key_of_run tx t first end) (all_runs ps)

-- ---- the call

-- 25 the interval's end is not above its start
unfoldable pub no_interval : ℕ → ℕ → Test
no_interval first end = 25 when leb end first

-- four bytes a key, high byte first
unfoldable pub key_bytes : List ℕ → List ℕ
key_bytes [] = []
key_bytes (k ∷ ks) = k / 16777216 % 256 ∷ k / 65536 % 256 ∷ k / 256 % 256 ∷ k % 256 ∷ key_bytes ks

-- how many keys there are, and the keys
unfoldable pub keys_reply : ℕ → ℕ → ℕ → ℕ → ℕ → Store → Outcome
keys_reply tx t first end room s = let ks = crossing_keys tx t first end s.pages in replied room (length ks) (key_bytes ks) s

-- crossing: the keys of the bookings that cross
unfoldable pub crossing_call : ℕ → ℕ → ℕ → ℕ → ℕ → Store → Outcome
crossing_call tx t first end room s = unless (not_open tx s ++ (no_table t ∷ no_interval first end ∷ [])) s (keys_reply tx t first end room s)

-- unfolds the definitions of crossing: `unfolding crossing_rules`
unfoldable pub crossing_rules : ℕ
unfolding minutes crosses rows_of_table key_if key_of_run crossing_keys no_interval key_bytes keys_reply crossing_call
crossing_rules = 0
