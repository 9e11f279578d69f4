-- All tuples of an image in order, each with its table; and the tests of refusal 24 that look at them.
use Rattle.std.specs.Prelude.{ℕ, Bool, true, false, not, ◌&&◌, ◌||◌, List, [], ◌∷◌, map, length, eqb, ltb, leb}
use Rattle.basics.specs.Basics.{if'◌then◌else◌, all, every, paired, how_many, is_empty, is_in, distinct}
use Rattle.block_forms.specs.Tuple.{Owner, committed, tentative, Tuple, is_tentative}

-- a tuple with its table
abbrev pub Row : Type 0
Row = ℕ × Tuple

-- the tuples of a page of table t
unfoldable pub rows_of : ℕ → List Tuple → List Row
rows_of t [] = []
rows_of t (x ∷ xs) = (t, x) ∷ rows_of t xs

-- the tuple's number
unfoldable pub number : Row → ℕ
number r = r.1.number

-- written by transaction tx
unfoldable pub is_by : ℕ → Owner → Bool
is_by tx committed = false
is_by tx (tentative u s) = eqb u tx

-- a row written by transaction tx
unfoldable pub is_own : ℕ → Row → Bool
is_own tx r = is_by tx r.1.owner

-- a version of key k of table t
unfoldable pub is_at : ℕ → ℕ → Row → Bool
is_at t k r = eqb r.0 t && eqb r.1.key k

-- by table, then key
unfoldable pub is_lower : Row → Row → Bool
is_lower r s = ltb r.0 s.0 || (eqb r.0 s.0 && ltb r.1.key s.1.key)

-- of one key: a committed version stands first, and all tentative ones are of one transaction
unfoldable pub owner_after : Owner → Owner → Bool
owner_after committed committed = false
owner_after committed (tentative u s) = true
owner_after (tentative t r) committed = false
owner_after (tentative t r) (tentative u s) = eqb t u

-- s may come right after r: a newer version of the same key; or a higher key, whose first version is no delete mark
unfoldable pub follows : Row → Row → Bool
follows r s =
    if' is_at s.0 s.1.key r
    then (ltb r.1.number s.1.number && owner_after r.1.owner s.1.owner)
    else (is_lower r s && not s.1.mark)

-- the first of all is no delete mark
unfoldable pub starts_well : List Row → Bool
starts_well [] = true
starts_well (r ∷ rs) = not r.1.mark

-- a delete mark is tentative and has no payload
unfoldable pub mark_ok : Row → Bool
mark_ok r = not r.1.mark || (is_tentative r.1.owner && is_empty r.1.payload)

-- its number is below n
unfoldable pub is_below : ℕ → Row → Bool
is_below n r = ltb (number r) n

-- written by transaction tx before number n
unfoldable pub earlier_by : ℕ → ℕ → Row → Bool
earlier_by tx n r = is_own tx r && ltb (number r) n

-- a tentative tuple's statement is how many tuples its transaction wrote before
unfoldable pub statement_is : List Row → ℕ → Owner → Bool
statement_is rs n committed = true
statement_is rs n (tentative t s) = eqb s (how_many (earlier_by t n) rs)

-- the statement of one row among all, rs
unfoldable pub statement_ok : List Row → Row → Bool
statement_ok rs r = statement_is rs (number r) r.1.owner

-- the tuple's transaction too, if it is tentative
unfoldable pub add_owner : Owner → List ℕ → List ℕ
add_owner committed ts = ts
add_owner (tentative t s) ts = if' is_in t ts then ts else t ∷ ts

-- the transactions of the tentative tuples, each once
unfoldable pub transactions : List Row → List ℕ
transactions [] = []
transactions (r ∷ rs) = add_owner r.1.owner (transactions rs)

-- at most 64 transactions are open
abbrev pub open_limit : ℕ
open_limit = 64

-- what all rows of a store must be, where it holds at most cap and the next number is next
unfoldable pub rows_ok : ℕ → ℕ → List Row → Bool
rows_ok cap next rs =
    every (
    paired follows rs
    ∷ starts_well rs
    ∷ distinct (map number rs)
    ∷ all (is_below next) rs
    ∷ leb (length rs) cap
    ∷ leb (length (transactions rs)) open_limit
    ∷ all mark_ok rs
    ∷ all (statement_ok rs) rs
    ∷ [])

-- opens all of this module: `unfolding row_rules`
unfoldable pub row_rules : ℕ
unfolding rows_of number is_by is_own is_at is_lower owner_after follows starts_well mark_ok is_below earlier_by statement_is statement_ok add_owner transactions rows_ok
row_rules = 0
