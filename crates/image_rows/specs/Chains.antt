-- A hash table over a column of keys, as the code builds it: each row names the row before it in its bucket. And what the tests of statements ask of it.
use Rattle.std.specs.Prelude.{ℕ, zero, suc, ◌-◌, ◌%◌, ◌≤◌, ◌<◌, ◌≡◌, Bool, false, not, ◌&&◌, ◌||◌, List, length, get_or, eqb, ltb}
use Rattle.basics.specs.Basics.{if'◌then◌else◌, all, how_many}
use Rattle.basics.specs.Lists.{tab}
use Rattle.block_forms.specs.Limits.{statement_limit}

-- the rows of an image, at most
abbrev pub row_limit : ℕ
row_limit = 1024

-- the buckets of the hash table
abbrev pub bucket_count : ℕ
bucket_count = 1013

-- 1 + the index of the last of the first n numbers that passes; 0 if none does
unfoldable pub last_by : (ℕ → Bool) → List ℕ → ℕ → ℕ
last_by f xs zero = 0
last_by f xs (suc n) = if' f (get_or xs n 0) then suc n else last_by f xs n

-- the bucket of a key; 0 is no key, and has one of its own
unfoldable pub bucket_of : ℕ → ℕ
bucket_of x = if' eqb x 0 then bucket_count else x % bucket_count

-- x is in bucket b
unfoldable pub in_bucket : ℕ → ℕ → Bool
in_bucket b x = eqb (bucket_of x) b

-- each of the first n rows names the last row before it in its bucket
unfoldable pub Chained : List ℕ → List ℕ → ℕ → Type 0
Chained xs links n = (k : ℕ) → k < n → get_or links k 0 ≡ last_by (in_bucket (bucket_of (get_or xs k 0))) xs k

-- the hash table of the first n rows: the last row of each bucket, and the row before each
pub record Table (xs heads links : List ℕ) (n : ℕ) : Type 0 where
  pub rows : n ≤ length xs
  pub buckets : length heads ≡ suc bucket_count
  pub linked : n ≤ length links
  pub head : (b : ℕ) → b ≤ bucket_count → get_or heads b 0 ≡ last_by (in_bucket b) xs n
  pub chain : Chained xs links n

-- a hash table of n rows may be made: they are not too many, keys and links have room for them, and no row is linked yet
pub record Linkable (xs heads links : List ℕ) (n : ℕ) : Type 0 where
  pub few : n ≤ row_limit
  pub rows : n ≤ length xs
  pub linked : n ≤ length links
  pub empty : Table xs heads links 0

-- row i is one of the first n, and the hash table is theirs
pub record TableRow (ns xs heads links : List ℕ) (n i : ℕ) : Type 0 where
  pub inside : i < n
  pub numbers : n ≤ length ns
  pub table : Table xs heads links n

-- where to look for x: the chain that ends at row j - 1 is its bucket's
pub record Chain (xs links : List ℕ) (j x : ℕ) : Type 0 where
  pub rows : j ≤ length xs
  pub linked : j ≤ length links
  pub last : last_by (in_bucket (bucket_of x)) xs j ≡ j
  pub chain : Chained xs links j

-- the key of row i is 0, or stands in no row before
unfoldable pub is_new : List ℕ → ℕ → Bool
is_new xs i = eqb (get_or xs i 0) 0 || eqb (last_by (eqb (get_or xs i 0)) xs i) 0

-- every key of the first n rows but 0 is there once
unfoldable pub keys_once : List ℕ → ℕ → Bool
keys_once xs n = all (is_new xs) (tab (λ i. i) 0 n)

-- row j - 1 is there, and its number is below v
unfoldable pub is_there_below : List ℕ → ℕ → ℕ → Bool
is_there_below ns v zero = false
is_there_below ns v (suc j) = ltb (get_or ns j 0) v

-- row i is its transaction's statement 0 or committed, or the statement before has a lower number
unfoldable pub is_next : List ℕ → List ℕ → ℕ → ℕ → Bool
is_next ns os n i =
    eqb ((get_or os i 0 - 1) % statement_limit) 0 || is_there_below ns (get_or ns i 0) (last_by (eqb (get_or os i 0 - 1)) os n)

-- the statements of each transaction rise with the numbers
unfoldable pub statements_rise : List ℕ → List ℕ → ℕ → Bool
statements_rise ns os n = all (is_next ns os n) (tab (λ i. i) 0 n)

-- an owner's code of statement 0 of some transaction
unfoldable pub is_start : ℕ → Bool
is_start o = not (eqb o 0) && eqb ((o - 1) % statement_limit) 0

-- how many of the first n rows are a transaction's statement 0
unfoldable pub starts : List ℕ → ℕ → ℕ
starts os n = how_many is_start (tab (λ i. get_or os i 0) 0 n)
