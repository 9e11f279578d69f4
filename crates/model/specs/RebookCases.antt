-- Worked cases of a key that one transaction deletes and inserts again, so that a delete mark is older than the newest version: what is
-- answered, what is stored, and what is there after a cut. All are proved in proofs/ by computation.
use Rattle.std.specs.Prelude.{ℕ, ◌≡◌, Bool, true, false, List, [], ◌∷◌, ◌++◌, replicate, drop}
use Rattle.block_forms.specs.Block.{page}
use Rattle.block_forms.specs.Tuple.{Owner, committed, tentative}
use Rattle.image_rows.specs.Rows.{Row, rows_ok}
use Rattle.image.specs.Stages.{Stage, refuses, holds}
use Rattle.model.specs.State.{Store, Answer, refused, done, count, filled}
use Rattle.model.specs.Sight.{held}
use Rattle.model.specs.Calls.{Call, begins, steps, runs, after_calls}
use Rattle.model.specs.Recover.{fresh_store, made_image}
use Rattle.model.specs.CrashRecovery.{log}
use Rattle.model.specs.Cases.{opens, inserts, deletes, commits, aborts, reads, lists, answers, writes, recovered_after, answers_in, cut_everywhere, cases}

-- ---- runs on key 7 of table 0

-- a transaction books the window, with a payload of one byte
abbrev pub books : ℕ → ℕ → Call
books tx b = inserts tx 0 7 (b ∷ [])

-- it withdraws it
abbrev pub withdraws : ℕ → Call
withdraws tx = deletes tx 0 7

-- it reads it, with ample reply
abbrev pub looks : ℕ → Call
looks tx = reads tx 0 7 9

-- a read answers that payload
abbrev pub shows : ℕ → Answer
shows b = filled 1 (b ∷ [])

-- a version of the key, with its number
unfoldable pub version : ℕ → Owner → Bool → List ℕ → Row
version n o m bs = (0, record { key = 7; number = n; owner = o; mark = m; payload = bs })

-- the answers of a list of calls on an empty store of 16 blocks, N 64
unfoldable pub answered : List Call → List Answer
answered cs = answers cs (fresh_store 16 64)

-- the tuples held after it
unfoldable pub held_after : List Call → List Row
held_after cs = held (after_calls cs (fresh_store 16 64)).pages

-- the tuples held after a recovery and a list of calls
unfoldable pub held_in : Stage Store → List Call → List Row
held_in (refuses n) cs = []
held_in (holds s) cs = held (after_calls cs s).pages

-- a committed booking, which transaction 6 withdraws and books anew
unfoldable pub rebooked : List Call
rebooked = opens 5 ∷ books 5 0x41 ∷ commits 5 ∷ opens 6 ∷ withdraws 6 ∷ looks 6 ∷ books 6 0x42 ∷ looks 6 ∷ []

-- its three versions: the booking, the mark, the new booking
unfoldable pub three_versions : List Row
three_versions = version 0 committed false (0x41 ∷ []) ∷ version 1 (tentative 6 0) true [] ∷ version 2 (tentative 6 1) false (0x42 ∷ []) ∷ []

-- a checkpoint of it; then the window is withdrawn again, and power fails in the next checkpoint, whose page is stored and whose header is not
unfoldable pub cut_later : List Call
cut_later = rebooked ++ (begins ∷ runs 9 8192 ∷ withdraws 6 ∷ begins ∷ steps 8192 ∷ [])

-- the same change while the booking's page is frozen
unfoldable pub rebooked_frozen : List Call
rebooked_frozen = opens 5 ∷ books 5 0x41 ∷ commits 5 ∷ begins ∷ opens 6 ∷ withdraws 6 ∷ books 6 0x42 ∷ looks 6 ∷ commits 6 ∷ steps 8192 ∷ []

-- ---- what the rules give

-- the answers, and the versions that are left
pub record RebookCases : Type 0 where
  -- the new payload is read, and every version is held
  pub rebooking : answered rebooked ≡ done ∷ done ∷ done ∷ done ∷ done ∷ refused 14 ∷ done ∷ shows 0x42 ∷ []
  pub every_version : held_after rebooked ≡ three_versions
  -- the image keeps every version, and so does a restart; the transaction goes on, and its commit leaves the newest alone
  pub stored : answered cut_later ≡ answered rebooked ++ (count 3 ∷ count 3 ∷ done ∷ count 3 ∷ count 2 ∷ [])
  pub recovered : held_in (recovered_after cut_later) [] ≡ three_versions
  pub goes_on : answers_in (recovered_after cut_later) (lists 2 ∷ looks 6 ∷ books 6 0x43 ∷ opens 7 ∷ books 7 0x51 ∷ commits 6 ∷ looks 7 ∷ [])
      ≡ filled 1 (0 ∷ 6 ∷ []) ∷ shows 0x42 ∷ refused 13 ∷ done ∷ refused 12 ∷ done ∷ shows 0x42 ∷ []
  pub newest_left : held_in (recovered_after cut_later) (commits 6 ∷ []) ≡ version 2 committed false (0x42 ∷ []) ∷ []
  -- recovery's tests take a mark between two versions, and no mark that is the first of its key
  pub mark_between : rows_ok 64 3 three_versions ≡ true
  pub mark_first : rows_ok 64 3 (drop 1 three_versions) ≡ false
  -- wherever this run is cut, recovery gives what it must
  pub everywhere : cut_everywhere (fresh_store 16 64) (made_image (replicate 8192 0xFF) 64) [] (log [] [] (fresh_store 16 64) cut_later) ≡ true
  -- a booking that is tentative itself is withdrawn and booked anew
  pub own_booking : answered (opens 6 ∷ books 6 0x41 ∷ withdraws 6 ∷ looks 6 ∷ books 6 0x42 ∷ looks 6 ∷ commits 6 ∷ opens 7 ∷ looks 7 ∷ [])
      ≡ done ∷ done ∷ done ∷ refused 14 ∷ done ∷ shows 0x42 ∷ done ∷ done ∷ shows 0x42 ∷ []
  -- it is withdrawn again, and booked again; a window that is booked meets 13, one that is withdrawn 14
  pub withdrawn_again : answered (rebooked ++ (withdraws 6 ∷ looks 6 ∷ withdraws 6 ∷ books 6 0x43 ∷ looks 6 ∷ books 6 0x44 ∷ []))
      ≡ answered rebooked ++ (done ∷ refused 14 ∷ refused 14 ∷ done ∷ shows 0x43 ∷ refused 13 ∷ [])
  -- committed with the mark as the newest, nothing is left
  pub mark_committed : held_after (rebooked ++ (withdraws 6 ∷ commits 6 ∷ [])) ≡ []
  -- an abort gives the committed booking back
  pub given_back : answered (rebooked ++ (aborts 6 ∷ opens 6 ∷ looks 6 ∷ books 6 0x43 ∷ [])) ≡ answered rebooked ++ (done ∷ done ∷ shows 0x41 ∷ refused 13 ∷ [])
  pub committed_left : held_after (rebooked ++ (aborts 6 ∷ [])) ≡ version 0 committed false (0x41 ∷ []) ∷ []
  -- another transaction's insert is 12 all the while, 13 before and after; it reads the committed booking
  pub others_wait : answered (opens 5 ∷ books 5 0x41 ∷ commits 5 ∷ opens 6 ∷ opens 7 ∷ books 7 0x51
      ∷ withdraws 6 ∷ books 7 0x52 ∷ books 6 0x42 ∷ books 7 0x53 ∷ withdraws 6 ∷ books 7 0x54 ∷ looks 7 ∷ books 6 0x43 ∷ books 7 0x55 ∷ aborts 6 ∷ books 7 0x56 ∷ [])
      ≡ done ∷ done ∷ done ∷ done ∷ done ∷ refused 13
      ∷ done ∷ refused 12 ∷ done ∷ refused 12 ∷ done ∷ refused 12 ∷ shows 0x41 ∷ done ∷ refused 12 ∷ done ∷ refused 13 ∷ []
  -- the window is free for it when the mark is committed
  pub free_then : answered (opens 6 ∷ opens 7 ∷ books 6 0x41 ∷ withdraws 6 ∷ books 7 0x51 ∷ commits 6 ∷ books 7 0x52 ∷ looks 7 ∷ [])
      ≡ done ∷ done ∷ done ∷ done ∷ refused 12 ∷ done ∷ done ∷ shows 0x52 ∷ []
  -- on a frozen page too: its block shows the committed booking alone, and the thawed page has the new one
  pub frozen : answered rebooked_frozen ≡ done ∷ done ∷ done ∷ count 3 ∷ done ∷ done ∷ done ∷ shows 0x42 ∷ done ∷ count 2 ∷ []
  pub frozen_block : writes rebooked_frozen (fresh_store 16 64) ≡ record { at = 1; what = page 0 1 ((version 0 committed false (0x41 ∷ [])).1 ∷ []) } ∷ []
  pub thawed : held_after rebooked_frozen ≡ version 2 committed false (0x42 ∷ []) ∷ []

-- unfolds all definitions that these cases compute with: `unfolding rebook_cases`
unfoldable pub rebook_cases : ℕ
unfolding cases version answered held_after held_in rebooked cut_later rebooked_frozen three_versions
rebook_cases = 0
