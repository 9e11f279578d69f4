-- Worked cases of the call list: the order, whatever was opened first, and the length of the reply. All are proved in proofs/ by computation.
use Rattle.std.specs.Prelude.{ℕ, ◌-◌, ◌≡◌, false, List, [], ◌∷◌, map, length}
use Rattle.basics.specs.Basics.{from}
use Rattle.model.specs.State.{idle, Store, Answer, refused, filled}
use Rattle.model.specs.Transactions.{listing}
use Rattle.model.specs.Calls.{Call, begins, runs, call, after_calls}
use Rattle.model.specs.Recover.{fresh_store}
use Rattle.model.specs.Cases.{opens, inserts, commits, aborts, lists, recovered_after, answers_in, cases}

-- what list is answered, with a reply of that length, after these calls on an empty store
unfoldable pub listed_after : ℕ → List Call → Answer
listed_after room cs = (call (lists room) (after_calls cs (fresh_store 16 8))).answer

-- these numbers
unfoldable pub numbers : List ℕ → Answer
numbers txs = filled (length txs) (listing txs)

-- 7 and 5 write in this order, and 9 does not; checkpoint
unfoldable pub seven_then_five : List Call
seven_then_five = opens 9 ∷ opens 7 ∷ opens 5 ∷ inserts 7 0 1 [] ∷ inserts 5 0 2 [] ∷ begins ∷ runs 9 8192 ∷ []

-- transaction 7 is open twice, at both ends of the list: no run comes to this store, but a memory may hold it
unfoldable pub open_twice : Store
open_twice =
    record {
      blocks = 16;
      capacity = 2;
      level = 0;
      next = 0;
      pages = [];
      active = record { transaction = 7; written = 1 } ∷ record { transaction = 5; written = 0 } ∷ record { transaction = 7; written = 0 } ∷ [];
      used = λ b. false;
      taken = 0;
      checkpoint = idle;
    }

-- what the rules give
pub record ListCases : Type 0 where
  -- the order is that of the numbers, whatever was opened first; two bytes each, high byte first
  pub nothing_open : listed_after 0 [] ≡ filled 0 []
  pub opened_rising : listed_after 6 (opens 5 ∷ opens 7 ∷ opens 300 ∷ []) ≡ filled 3 (0 ∷ 5 ∷ 0 ∷ 7 ∷ 1 ∷ 44 ∷ [])
  pub opened_falling : listed_after 6 (opens 300 ∷ opens 7 ∷ opens 5 ∷ []) ≡ filled 3 (0 ∷ 5 ∷ 0 ∷ 7 ∷ 1 ∷ 44 ∷ [])
  pub opened_between : listed_after 6 (opens 5 ∷ opens 300 ∷ opens 7 ∷ []) ≡ filled 3 (0 ∷ 5 ∷ 0 ∷ 7 ∷ 1 ∷ 44 ∷ [])
  pub first_and_last : listed_after 4 (opens 4095 ∷ opens 0 ∷ []) ≡ filled 2 (0 ∷ 0 ∷ 15 ∷ 255 ∷ [])
  -- 64 of them, the highest first
  pub sixty_four : listed_after 128 (map (λ i. opens (63 - i)) (from 0 64)) ≡ numbers (from 0 64)
  -- a transaction that was closed is not listed; opened again, it has its place
  pub closed : listed_after 6 (opens 9 ∷ opens 7 ∷ opens 5 ∷ commits 7 ∷ []) ≡ numbers (5 ∷ 9 ∷ [])
  pub opened_again : listed_after 6 (opens 7 ∷ opens 9 ∷ opens 5 ∷ aborts 7 ∷ opens 7 ∷ []) ≡ numbers (5 ∷ 7 ∷ 9 ∷ [])
  -- a reply that is longer, one that is just long enough, and one byte less
  pub longer : listed_after 9 (opens 7 ∷ opens 5 ∷ []) ≡ numbers (5 ∷ 7 ∷ [])
  pub long_enough : listed_after 4 (opens 7 ∷ opens 5 ∷ []) ≡ numbers (5 ∷ 7 ∷ [])
  pub too_short : listed_after 3 (opens 7 ∷ opens 5 ∷ []) ≡ refused 21
  -- after a recovery those that had written, in the same order
  pub recovered : answers_in (recovered_after seven_then_five) (lists 4 ∷ []) ≡ numbers (5 ∷ 7 ∷ []) ∷ []
  -- a number that stands twice is listed twice
  pub twice_listed : (call (lists 6) open_twice).answer ≡ numbers (5 ∷ 7 ∷ 7 ∷ [])
  pub twice_too_short : (call (lists 5) open_twice).answer ≡ refused 21

-- unfolds all definitions that these cases compute with: `unfolding list_cases`
unfoldable pub list_cases : ℕ
unfolding cases listed_after numbers seven_then_five open_twice
list_cases = 0
