-- Worked cases of the redo log and of roll-forward. One history of three lives with three checkpoints, two of which land: wherever power fails
-- in it, before, inside or after a store of a life or of a roll-forward, the next roll-forward brings back what the whole records committed. Then
-- small cases: the refusals of roll-forward and of logged calls in their order, and what is repeated from a mark on. All are proved in proofs/ by
-- computation.
use Rattle.std.specs.Prelude.{ℕ, ◌-◌, ◌/◌, ◌≡◌, Bool, true, false, ◌&&◌, List, [], ◌∷◌, ◌++◌, map, length, replicate, take, drop, eqb}
use Rattle.std.proofs.Math.Option.{Option, none, some}
use Rattle.basics.specs.Basics.{if'◌then◌else◌, all, every, is_empty}
use Rattle.basics.specs.Lists.{over}
use Rattle.block_forms.specs.Numbers.{same}
use Rattle.block_forms.specs.Spell.{zeros}
use Rattle.image_rows.specs.Rows.{Row}
use Rattle.image.specs.View.{block_at}
use Rattle.image.specs.Stages.{Stage, refuses, holds, refusal_of}
use Rattle.model.specs.State.{Store, stored_bytes, Answer, refused, done, count, filled}
use Rattle.model.specs.Sight.{rows}
use Rattle.model.specs.Transactions.{gives}
use Rattle.model.specs.Calls.{Call, begins, steps, runs, call, after_calls}
use Rattle.model.specs.Recover.{memory_for, put_block, image_after, fresh_store, made_image}
use Rattle.model.specs.Cases.{opens, inserts, replaces, deletes, commits, reads, lists, tuple_numbers, writes}
use Rattle.model.specs.CheckedCases.{checks, weekdays, checked_cases}
use Rattle.log_records.specs.Records.{LogRecord, opened_by, committed_by, aborted_by, inserted_by, replaced_by, deleted_by, mark_of, encode_records, read_log, end_of}
use Rattle.log_records.specs.Cases.{log_cases}
use Rattle.log_model.specs.Repeats.{call_of, call_if, repeat, repeat_all, all_accepted}
use Rattle.log_model.specs.Logged.{record_of, unwritten, mark_for, record_for, LoggedOutcome, unlogged, appending, logging, logging_if, logged_call}
use Rattle.log_model.specs.RollForward.{opens_of, behind_mark, to_repeat, aborts_of, zeroed_from, Forward, with_aborts, end_forward, forward_of, forward_from, forward_below, roll_forward}
use Rattle.log_model.specs.Disk.{DiskStore, block_store, log_store, record_stores, records_stores, forward_stores}
use Rattle.log_model.specs.History.{stores_of, completed}

-- ---- a life

-- the image, the store in memory, the log and where it ends
pub record Life : Type 0 where
  pub image : List ℕ
  pub store : Store
  pub log : List ℕ
  pub end : ℕ

-- what a call gives in it
unfoldable pub outcome_in : Call → Life → LoggedOutcome
outcome_in c l = logged_call c l.store l.log l.end

-- the life after that
unfoldable pub goes_on : LoggedOutcome → Life → Life
goes_on o l = record { image = image_after o.outcome.writes l.image; store = o.outcome.store; log = o.log; end = o.end }

-- the life after a list of calls
unfoldable pub lived : List Call → Life → Life
lived [] l = l
lived (c ∷ cs) l = lived cs (goes_on (outcome_in c l) l)

-- their disk stores, in order
unfoldable pub stores_in : List Call → Life → List DiskStore
stores_in [] l = []
stores_in (c ∷ cs) l = let o = outcome_in c l in stores_of l.end o ++ stores_in cs (goes_on o l)

-- what they answer
unfoldable pub answers_of : List Call → Life → List Answer
answers_of [] l = []
answers_of (c ∷ cs) l = let o = outcome_in c l in o.outcome.answer ∷ answers_of cs (goes_on o l)

-- ---- what a cut leaves

-- image and log
abbrev pub Disk : Type 0
Disk = List ℕ × List ℕ

-- those of a life
unfoldable pub disk_of : Life → Disk
disk_of l = (l.image, l.log)

-- a store is made
unfoldable pub on_disk : DiskStore → Disk → Disk
on_disk (block_store w) d = (put_block d.0 w.at (stored_bytes w), d.1)
on_disk (log_store e bs) d = (d.0, over d.1 e bs)

-- these stores are made, in order
unfoldable pub all_on_disk : List DiskStore → Disk → Disk
all_on_disk [] d = d
all_on_disk (w ∷ ws) d = all_on_disk ws (on_disk w d)

-- all of them but the last n
unfoldable pub but_last : ℕ → List DiskStore → Disk → Disk
but_last n ws d = all_on_disk (take (length ws - n) ws) d

-- of the bytes new over old: the first half is new, or the second
unfoldable pub halves : List ℕ → List ℕ → List (List ℕ)
halves old new = let h = length new / 2 in (take h new ++ drop h old) ∷ (take h old ++ drop h new) ∷ []

-- a store is cut: a header's is whole or not there; of another block the first 200 bytes are new; of log bytes one half is new
unfoldable pub torn : DiskStore → Disk → List Disk
torn (block_store w) d =
    if' eqb w.at 0 then [] else (put_block d.0 w.at (take 200 (stored_bytes w) ++ drop 200 (block_at d.0 w.at)), d.1) ∷ []
torn (log_store e bs) d = map (λ xs. (d.0, over d.1 e xs)) (halves (take (length bs) (drop e d.1)) bs)

-- all that may be left: power fails before a store, inside it, or after the last
unfoldable pub cuts : List DiskStore → Disk → List Disk
cuts [] d = d ∷ []
cuts (w ∷ ws) d = d ∷ (torn w d ++ cuts ws (on_disk w d))

-- ---- what a roll-forward brings back

-- with memories just long enough
unfoldable pub rolled : ℕ → Disk → Stage Forward
rolled n d = roll_forward (memory_for n) (memory_for n) d.0 d.1

-- rows as numbers, each with its table and all its fields
unfoldable pub row_numbers : List Row → List ℕ
row_numbers [] = []
row_numbers (r ∷ rs) = r.0 ∷ (tuple_numbers r.1 ++ row_numbers rs)

-- it is accepted, and its store has the rows and the next number of s, and nobody open
unfoldable pub brings_back : Stage Forward → Store → Bool
brings_back (refuses n) s = false
brings_back (holds f) s =
    every (same (row_numbers (rows f.store.pages)) (row_numbers (rows s.pages)) ∷ eqb f.store.next s.next ∷ is_empty f.store.active ∷ [])

-- of the whole records rs: their calls were accepted, and the roll-forward brings back what they committed
unfoldable pub restores_to : Store → Disk → Option (List LogRecord) → Bool
restores_to s d none = false
restores_to s d (some rs) = all_accepted rs s && brings_back (rolled s.capacity d) (completed rs s)

-- a roll-forward of this image and log, in a history that started with the store s
unfoldable pub restores : Store → Disk → Bool
restores s d = restores_to s d (read_log d.1)

-- wherever these stores are cut
unfoldable pub restores_all : Store → List DiskStore → Disk → Bool
restores_all s ws d = all (restores s) (cuts ws d)

-- the disk stores of a roll-forward
unfoldable pub stores_forward : Disk → Stage Forward → List DiskStore
stores_forward d (refuses n) = []
stores_forward d (holds f) = forward_stores (length d.1) (end_of f.whole) f.aborts

-- the life that it starts; one without a log if it is refused
unfoldable pub started_by : Disk → Stage Forward → Life
started_by d (refuses n) = record { image = d.0; store = fresh_store 0 0; log = []; end = 0 }
started_by d (holds f) = record { image = d.0; store = f.store; log = f.log; end = f.end }

-- the aborts that it appends, none if it is refused
unfoldable pub aborts_in : Stage Forward → Option (List LogRecord)
aborts_in (refuses n) = none
aborts_in (holds f) = some f.aborts

-- image and log are equal
unfoldable pub same_disk : Disk → Disk → Bool
same_disk d e = same d.0 e.0 && same d.1 e.1

-- ---- a history

-- a store of 7 blocks and N 8
unfoldable pub store0 : Store
store0 = fresh_store 7 8

-- the disk stores of a roll-forward
unfoldable pub forward_in : Disk → List DiskStore
forward_in d = stores_forward d (rolled 8 d)

-- the life that it starts
unfoldable pub restarted : Disk → Life
restarted d = started_by d (rolled 8 d)

-- power fails in a life, when all but the last n stores of these calls are made
unfoldable pub fails_in : ℕ → List Call → Life → Disk
fails_in n cs l = but_last n (stores_in cs l) (disk_of l)

-- it fails in a roll-forward
unfoldable pub fails_again : ℕ → Disk → Disk
fails_again n d = but_last n (forward_in d) d

-- wherever these calls of a life are cut, a roll-forward restores
unfoldable pub life_restores : List Call → Life → Bool
life_restores cs l = restores_all store0 (stores_in cs l) (disk_of l)

-- wherever a roll-forward is cut, the next one restores
unfoldable pub forward_restores : Disk → Bool
forward_restores d = restores_all store0 (forward_in d) d

-- the stores of these calls leave the life's image and log
unfoldable pub life_stored : List Call → Life → Bool
life_stored cs l = same_disk (fails_in 0 cs l) (disk_of (lived cs l))

-- those of a roll-forward leave what the next life starts with
unfoldable pub forward_stored : Disk → Bool
forward_stored d = same_disk (fails_again 0 d) (disk_of (restarted d))

-- the first life: newly made, with a log of 160 zero bytes
unfoldable pub life1 : Life
life1 = record { image = made_image (replicate 3584 0xFF) 8; store = store0; log = zeros 160; end = 0 }

-- 5 books and commits; 6 books and stays open. 4 is open without writes when the first checkpoint begins; it books and commits while that runs.
-- The header lands. 3 books; the second checkpoint begins and stores one page of two. 3 commits.
unfoldable pub calls1 : List Call
calls1 =
    opens 5 ∷ inserts 5 0 7 (0x41 ∷ 0x42 ∷ []) ∷ commits 5 ∷ opens 6 ∷ inserts 6 1 9 (0x43 ∷ []) ∷ opens 4
    ∷ begins ∷ steps 3584 ∷ inserts 4 0 8 (0x44 ∷ []) ∷ steps 3584 ∷ replaces 6 1 9 (0x45 ∷ []) ∷ commits 4 ∷ runs 9 3584
    ∷ opens 3 ∷ inserts 3 0 5 (0x46 ∷ []) ∷ begins ∷ steps 3584 ∷ commits 3 ∷ []

-- power fails inside the record of 3's commit: its first byte is not stored
unfoldable pub left1 : Disk
left1 = fails_in 1 calls1 life1

-- power fails in the roll-forward too, between its two aborts
unfoldable pub left2 : Disk
left2 = fails_again 2 left1

-- the next one starts the second life
unfoldable pub life2 : Life
life2 = restarted left2

-- 5 books by the calendar and commits. 7 is open without writes when the third checkpoint begins, of the level of the second; it books while that
-- runs. The header lands. 7 commits; 8 withdraws what 4 booked, and books.
unfoldable pub calls2 : List Call
calls2 =
    opens 5 ∷ checks 5 0 360 (0 ∷ 30 ∷ []) weekdays ∷ commits 5 ∷ opens 7
    ∷ begins ∷ steps 3584 ∷ inserts 7 3 1 [] ∷ runs 9 3584 ∷ commits 7 ∷ opens 8 ∷ deletes 8 0 8 ∷ inserts 8 7 2 (0x47 ∷ []) ∷ []

-- power fails inside the record of 8's booking: its first byte is not stored
unfoldable pub left3 : Disk
left3 = fails_in 1 calls2 life2

-- a roll-forward starts the third life
unfoldable pub life3 : Life
life3 = restarted left3

-- 9 reads what 5, 4 and 3 booked in the first life, and 5, 7 and 8 in the second; it withdraws the first and commits
unfoldable pub calls3 : List Call
calls3 =
    opens 9 ∷ reads 9 0 7 40 ∷ reads 9 0 8 40 ∷ reads 9 0 5 40 ∷ reads 9 0 360 40 ∷ reads 9 3 1 40 ∷ reads 9 7 2 40 ∷ deletes 9 0 7 ∷ commits 9 ∷ []

-- the first life, and the two roll-forwards after it
pub record FirstLife : Type 0 where
  -- every call is accepted, and each begin says 4 stores
  pub said_1 : answers_of calls1 life1
      ≡ done ∷ done ∷ done ∷ done ∷ done ∷ done ∷ count 4 ∷ count 3 ∷ done ∷ count 2 ∷ done ∷ done ∷ count 2 ∷ done ∷ done ∷ count 4 ∷ count 3 ∷ done ∷ []
  -- its stores: five of blocks, and two for each of 14 records
  pub stores_1 : length (stores_in calls1 life1) ≡ 33
  -- all of them leave the life's image and log
  pub disk_1 : life_stored calls1 life1 ≡ true
  -- wherever they are cut, a roll-forward restores
  pub cuts_1 : life_restores calls1 life1 ≡ true
  -- the roll-forward after the cut in 3's commit aborts 3, whose commit has no whole record, and 6
  pub aborts_1 : aborts_in (rolled 8 left1) ≡ some (aborted_by 3 ∷ aborted_by 6 ∷ [])
  -- wherever it is cut, the next one restores
  pub cuts_forward_1 : forward_restores left1 ≡ true
  -- after the cut between the two aborts the next one aborts 6 alone
  pub aborts_2 : aborts_in (rolled 8 left2) ≡ some (aborted_by 6 ∷ [])
  -- wherever that is cut, the next one restores
  pub cuts_forward_2 : forward_restores left2 ≡ true
  -- its stores leave the log that the second life starts with
  pub disk_forward_2 : forward_stored left2 ≡ true

-- the second life, and the roll-forward after it
pub record SecondLife : Type 0 where
  -- every call is accepted, and the begin says 3 stores
  pub said_2 : answers_of calls2 life2 ≡ done ∷ done ∷ done ∷ done ∷ count 3 ∷ count 2 ∷ done ∷ count 2 ∷ done ∷ done ∷ done ∷ done ∷ []
  -- its stores: three of blocks, and two for each of 10 records
  pub stores_2 : length (stores_in calls2 life2) ≡ 23
  -- all of them leave the life's image and log
  pub disk_2 : life_stored calls2 life2 ≡ true
  -- wherever they are cut, a roll-forward restores
  pub cuts_2 : life_restores calls2 life2 ≡ true
  -- the whole records then: those of both lives in order, with two marks of level 2 and the aborts of the roll-forwards
  pub records_3 : read_log left3.1
      ≡ some (opened_by 5 ∷ inserted_by 5 0 7 (0x41 ∷ 0x42 ∷ []) ∷ committed_by 5 ∷ opened_by 6 ∷ inserted_by 6 1 9 (0x43 ∷ []) ∷ opened_by 4
      ∷ mark_of 1 (4 ∷ []) ∷ inserted_by 4 0 8 (0x44 ∷ []) ∷ replaced_by 6 1 9 (0x45 ∷ []) ∷ committed_by 4
      ∷ opened_by 3 ∷ inserted_by 3 0 5 (0x46 ∷ []) ∷ mark_of 2 [] ∷ aborted_by 3 ∷ aborted_by 6
      ∷ opened_by 5 ∷ inserted_by 5 0 360 (0 ∷ 30 ∷ []) ∷ committed_by 5 ∷ opened_by 7
      ∷ mark_of 2 (7 ∷ []) ∷ inserted_by 7 3 1 [] ∷ committed_by 7 ∷ opened_by 8 ∷ deleted_by 8 0 8 ∷ [])
  -- the roll-forward aborts 8
  pub aborts_3 : aborts_in (rolled 8 left3) ≡ some (aborted_by 8 ∷ [])
  -- wherever it is cut, the next one restores
  pub cuts_forward_3 : forward_restores left3 ≡ true
  -- its stores leave the log that the third life starts with
  pub disk_forward_3 : forward_stored left3 ≡ true

-- the third life
pub record ThirdLife : Type 0 where
  -- what was committed is read; the bookings of 3, whose commit was cut, and of 8 are not there, and what 8 withdrew is
  pub said_3 : answers_of calls3 life3
      ≡ done ∷ filled 2 (0x41 ∷ 0x42 ∷ []) ∷ filled 1 (0x44 ∷ []) ∷ refused 14 ∷ filled 2 (0 ∷ 30 ∷ []) ∷ filled 0 [] ∷ refused 14 ∷ done ∷ done ∷ []
  -- wherever its stores are cut, a roll-forward restores
  pub cuts_3 : life_restores calls3 life3 ≡ true
  -- and after the last the booking withdrawn is gone
  pub gone : answers_of (opens 2 ∷ reads 2 0 7 40 ∷ reads 2 0 8 40 ∷ []) (restarted (fails_in 0 calls3 life3))
      ≡ done ∷ refused 14 ∷ filled 1 (0x44 ∷ []) ∷ []

-- ---- small cases of roll-forward

-- an image of 2 blocks, N 1, newly made
unfoldable pub level0 : List ℕ
level0 = made_image (replicate 1024 0xFF) 1

-- the same after a checkpoint, which has no page
unfoldable pub level1 : List ℕ
level1 = image_after (writes (begins ∷ runs 9 1024 ∷ []) (fresh_store 2 1)) level0

-- the refusal's number, 0 if there is none
unfoldable pub refusal : List ℕ → List ℕ → ℕ
refusal img log = refusal_of (rolled 1 (img, log))

-- the log that a roll-forward leaves
unfoldable pub log_in : Stage Forward → List ℕ
log_in (refuses n) = []
log_in (holds f) = f.log

-- two marks of level 1, the second with 6 and 7, and a commit of 6
unfoldable pub two_marks : List LogRecord
two_marks = mark_of 1 (5 ∷ []) ∷ mark_of 1 (6 ∷ 7 ∷ []) ∷ committed_by 6 ∷ []

-- the refusals in order, and what is repeated, aborted and zeroed
pub record ForwardCases : Type 0 where
  -- recover's refusals come first, whatever the log is: 1, 22, 3 for either memory
  pub recovery_first : map refusal_of (roll_forward 1152 1152 (drop 1 level0) (0x80 ∷ []) ∷ roll_forward 1152 1152 (zeros 1024) (0x80 ∷ [])
      ∷ roll_forward 1151 1152 level0 (0x80 ∷ []) ∷ roll_forward 1152 1151 level0 (0x80 ∷ []) ∷ []) ≡ 1 ∷ 22 ∷ 3 ∷ 3 ∷ []
  -- a malformed record is 31, although there is no mark
  pub malformed : refusal level1 (0x80 ∷ 0 ∷ []) ≡ 31
  -- above level 0 a log without a mark is 30
  pub no_mark : refusal level1 (zeros 4) ≡ 30
  -- so is one with a mark of another level alone
  pub other_mark : refusal level1 (encode_records (mark_of 2 [] ∷ [])) ≡ 30
  -- at level 0 no mark is asked for
  pub none_needed : refusal level0 (zeros 4) ≡ 0
  -- a repeated call that is refused is 31, though the abort of 5 does not fit either
  pub repeated : refusal level0 (encode_records (opened_by 5 ∷ committed_by 6 ∷ [])) ≡ 31
  -- so is an open of the mark that is refused
  pub opened_twice : refusal level1 (encode_records (mark_of 1 (5 ∷ 5 ∷ []) ∷ [])) ≡ 31
  -- an abort that does not fit is 29: no byte left, one, two
  pub no_room : map (λ n. refusal level0 (encode_records (opened_by 5 ∷ []) ++ zeros n)) (0 ∷ 1 ∷ 2 ∷ []) ≡ 29 ∷ 29 ∷ 0 ∷ []
  -- a log of 0 bytes is one without records
  pub no_log : refusal level0 [] ∷ refusal level1 [] ∷ [] ≡ 0 ∷ 30 ∷ []
  -- the last mark of a level is taken, and its transactions are opened
  pub last_mark : to_repeat 1 two_marks ≡ some (opened_by 6 ∷ opened_by 7 ∷ committed_by 6 ∷ [])
  -- with the first alone the commit of 6 is refused
  pub first_alone : refusal level1 (encode_records (mark_of 1 (5 ∷ []) ∷ committed_by 6 ∷ []) ++ zeros 4) ≡ 31
  -- with the second it is repeated, and 7 is left open and aborted
  pub second_taken : aborts_in (rolled 1 (level1, encode_records two_marks ++ zeros 4)) ≡ some (aborted_by 7 ∷ [])
  -- at level 0 all records are repeated
  pub all_repeated : to_repeat 0 two_marks ≡ some two_marks
  -- and marks open nobody there, so that the commit of 6 is refused
  pub marks_passed : refusal level0 (encode_records two_marks ++ zeros 4) ≡ 31
  -- a record whose first byte is zero is not there: what is left of it is zeroed, and the abort stands in its place
  pub zeroed : log_in (rolled 1 (level0, 0x10 ∷ 0x05 ∷ 0x00 ∷ 0x05 ∷ 0xE1 ∷ 0x80 ∷ [])) ≡ 0x10 ∷ 0x05 ∷ 0x60 ∷ 0x05 ∷ 0x00 ∷ 0x00 ∷ []

-- ---- small cases of logged calls

-- a store of 2 blocks and N 1
unfoldable pub small : Store
small = fresh_store 2 1

-- 7 and 2 are open without writes, 6 with one
unfoldable pub three_open : Store
three_open = after_calls (opens 7 ∷ opens 6 ∷ inserts 6 0 0 [] ∷ opens 2 ∷ []) (fresh_store 4 1)

-- what does not fit, and what has no record
pub record LoggedCases : Type 0 where
  -- a call whose record does not fit is 29, and leaves store, log and end
  pub no_fit : logged_call (opens 5) small (0 ∷ []) 0 ≡ unlogged (gives (refused 29) small) (0 ∷ []) 0
  -- in a log of 0 bytes no record fits
  pub no_bytes : logged_call (opens 5) small [] 0 ≡ unlogged (gives (refused 29) small) [] 0
  -- one that just fits is appended at the end
  pub fits : logged_call (opens 5) small (0x70 ∷ 0 ∷ 0 ∷ []) 1
      ≡ record { outcome = call (opens 5) small; records = opened_by 5 ∷ []; log = 0x70 ∷ 0x10 ∷ 0x05 ∷ []; end = 3 }
  -- one that is refused otherwise gives that number, even if its record does not fit
  pub refused_first : logged_call (commits 5) small [] 0 ≡ unlogged (gives (refused 7) small) [] 0
  -- nor is anything appended where it fits
  pub refused_fitting : logged_call (commits 5) small (zeros 4) 2 ≡ unlogged (gives (refused 7) small) (zeros 4) 2
  -- a begin whose mark does not fit has not begun
  pub no_begin : logged_call begins small (zeros 5) 0 ≡ unlogged (gives (refused 29) small) (zeros 5) 0
  -- the mark has the next level, and the transactions open without writes by rising number
  pub mark : (logged_call begins three_open (zeros 9) 0).log ≡ 0x70 ∷ 0x40 ∷ 0 ∷ 0 ∷ 0 ∷ 1 ∷ 0x00 ∷ 0x20 ∷ 0x07 ∷ []
  -- a call that only answers needs no room
  pub no_record : logged_call (lists 2) small [] 0 ≡ unlogged (gives (filled 0 []) small) [] 0
  -- nor does a step, which is refused here since no checkpoint runs
  pub no_step : logged_call (steps 1024) small [] 0 ≡ unlogged (gives (refused 18) small) [] 0

-- unfolds all definitions that these cases compute with: `unfolding history_cases`
unfoldable pub history_cases : ℕ
unfolding checked_cases log_cases over call_of call_if repeat repeat_all all_accepted record_of unwritten mark_for record_for unlogged appending logging logging_if logged_call opens_of
    behind_mark to_repeat aborts_of zeroed_from with_aborts end_forward forward_of forward_from forward_below roll_forward record_stores records_stores forward_stores stores_of completed
    outcome_in goes_on lived stores_in answers_of disk_of on_disk all_on_disk but_last halves torn cuts rolled row_numbers brings_back restores_to restores restores_all stores_forward started_by
    aborts_in same_disk store0 forward_in restarted fails_in fails_again life_restores forward_restores life_stored forward_stored life1 calls1 left1 left2 life2 calls2 left3 life3 calls3
    level0 level1 refusal log_in two_marks small three_open
history_cases = 0
