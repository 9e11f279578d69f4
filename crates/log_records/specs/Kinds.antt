-- The kinds of records by their numbers.
use Rattle.std.specs.Prelude.{ℕ, ◌≡◌, ◌<◌, ◌⊎◌, Result, MatchResult}
use Rattle.log_records.specs.declared.Kind.{Kind}
use Rattle.log_records.specs.declared.Kind.TheVariants.{Open, Insert, Replace, Delete, Commit, Abort, Mark}
use Rattle.log_records.specs.declared.UnknownKind.{UnknownKind}

-- a kind's number
abbrev pub number_of : Kind → ℕ
number_of Open = 1
number_of Insert = 2
number_of Replace = 3
number_of Delete = 4
number_of Commit = 5
number_of Abort = 6
number_of Mark = 7

-- of a transaction alone
abbrev pub IsShort : Kind → Type 0
IsShort k = (k ≡ Open) ⊎ ((k ≡ Commit) ⊎ (k ≡ Abort))

-- of a payload
abbrev pub IsTuple : Kind → Type 0
IsTuple k = (k ≡ Insert) ⊎ (k ≡ Replace)

-- the kind with number n, or that there is none
abbrev pub HasNumber : ℕ → Result Kind UnknownKind → Type 0
HasNumber n r = MatchResult r (λ k. number_of k ≡ n) (λ e. (n ≡ 0) ⊎ (7 < n))
