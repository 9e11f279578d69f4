-- What a transaction sees after each call, on well-formed stores.
use Rattle.std.specs.Prelude.{ℕ, ◌+◌, ◌≤◌, ◌<◌, ◌≡◌, Bool, true, false, ◌&&◌, List, [], ◌++◌, length, eqb, leb, ltb}
use Rattle.std.proofs.Math.Option.{Option, none, some}
use Rattle.basics.specs.Basics.{if'◌then◌else◌, paired, how_many, first, last, is_in, sorted}
use Rattle.calendar.specs.Calendar.{minutes, rows_of, is_open}
use Rattle.image_rows.specs.Rows.{Row, is_own}
use Rattle.model.specs.State.{Store, refused, filled}
use Rattle.model.specs.Rules.{as_committed}
use Rattle.model.specs.Sight.{rows, is_committed, versions, seen}
use Rattle.model.specs.Transactions.{unless, open_numbers, full, argument_tests, new_tuple, with_tuple, write_call, insert_call, replace_call, delete_call, read_call, commit_call, abort_call}
use Rattle.model.specs.Checked.{insert_checked_call}
use Rattle.model.specs.Crossing.{crosses, crossing_keys}
use Rattle.model.specs.Calls.{TransactionCall, transact, Effect, no_effect, start_of, write_of, commit_of, abort_of, effect, Call, begins, steps, runs, call, effect_of, accepted}
use Rattle.model.specs.WellFormed.{WellFormed}

-- ---- the writer

-- after an accepted write its tuple is the writer's newest version of the key
abbrev pub NewestWritten : Type 0
NewestWritten =
    (s : Store) → WellFormed s → (new m : Bool) (tx t k : ℕ) (bs : List ℕ) → accepted (write_call new m tx t k bs s).answer ≡ true
    → last (is_own tx) (versions t k (write_call new m tx t k bs s).store.pages) ≡ some (t, new_tuple tx k bs m s)

-- after an accepted insert or replace the writer reads that payload
abbrev pub WriterReads : Type 0
WriterReads =
    (s : Store) → WellFormed s → (tx t k : ℕ) (bs : List ℕ) (room : ℕ) → length bs ≤ room
    → (accepted (insert_call tx t k bs s).answer ≡ true → (read_call tx t k room (insert_call tx t k bs s).store).answer ≡ filled (length bs) bs)
    × (accepted (replace_call tx t k bs s).answer ≡ true → (read_call tx t k room (replace_call tx t k bs s).store).answer ≡ filled (length bs) bs)

-- an accepted checked insert is that insert, of a booking with a minute or more, every one of which is open
abbrev pub CheckedInserts : Type 0
CheckedInserts =
    (tx t k : ℕ) (bs hours : List ℕ) (s : Store) → accepted (insert_checked_call tx t k bs hours s).answer ≡ true
    → (insert_checked_call tx t k bs hours s ≡ insert_call tx t k bs s)
    × (0 < minutes bs)
    × ((u : ℕ) → k ≤ u → u < k + minutes bs → is_open (rows_of hours) u ≡ true)

-- after an accepted delete the key is not seen
abbrev pub WriterMisses : Type 0
WriterMisses =
    (s : Store) → WellFormed s → (tx t k room : ℕ) → accepted (delete_call tx t k s).answer ≡ true
    → (read_call tx t k room (delete_call tx t k s).store).answer ≡ refused 14

-- a transaction whose newest version of a key is a delete mark can insert the key again: neither 12 nor 13 is met
abbrev pub InsertsDeleted : Type 0
InsertsDeleted =
    (s : Store) → WellFormed s → (tx t k : ℕ) (bs : List ℕ) (r : Row) → last (is_own tx) (versions t k s.pages) ≡ some r → r.1.mark ≡ true
    → insert_call tx t k bs s ≡ unless (argument_tests tx t (length bs) s ++ full s) s (with_tuple tx t k bs false s)

-- a write of one key leaves what everybody sees of all others
abbrev pub OtherKeysStay : Type 0
OtherKeysStay =
    (s : Store) → WellFormed s → (new m : Bool) (tx t k : ℕ) (bs : List ℕ) (u t' k' : ℕ) → (eqb t t' && eqb k k') ≡ false
    → seen u t' k' (write_call new m tx t k bs s).store ≡ seen u t' k' s

-- ---- the others

-- the effects after which transaction u may see something else: its own write and abort, and every commit
unfoldable pub may_show : ℕ → Effect → Bool
may_show u no_effect = false
may_show u (start_of tx) = false
may_show u (write_of tx) = eqb tx u
may_show u (commit_of tx) = true
may_show u (abort_of tx) = eqb tx u

-- after every other call a transaction sees what it saw before, and if it is open it reads what it read
abbrev pub SeenAsBefore : Type 0
SeenAsBefore =
    (c : Call) (s : Store) → WellFormed s → (u : ℕ) → may_show u (effect_of c) ≡ false → (t k : ℕ)
    → (seen u t k (call c s).store ≡ seen u t k s)
    × (is_in u (open_numbers s.active) ≡ true → (room : ℕ) → (read_call u t k room (call c s).store).answer ≡ (read_call u t k room s).answer)

-- ---- commit

-- what tx leaves of a key on which it has the newest version r: nothing if that is a delete mark, else it is committed
unfoldable pub remains : Row → Option Row
remains r = if' r.1.mark then none else some (r.0, as_committed r.1)

-- after an accepted commit everybody sees the newest version that tx had of a key; a key that tx had not written is seen as before
abbrev pub SeenAfterCommit : Type 0
SeenAfterCommit =
    (s : Store) → WellFormed s → (tx : ℕ) → accepted (commit_call tx s).answer ≡ true → (u t k : ℕ)
    → ((r : Row) → last (is_own tx) (versions t k s.pages) ≡ some r → seen u t k (commit_call tx s).store ≡ remains r)
    × (last (is_own tx) (versions t k s.pages) ≡ none → seen u t k (commit_call tx s).store ≡ seen u t k s)

-- ---- abort

-- after an accepted abort tx, should it open again, sees the committed version of every key. (The others see what they saw.)
abbrev pub SeenAfterAbort : Type 0
SeenAfterAbort =
    (s : Store) → WellFormed s → (tx : ℕ) → accepted (abort_call tx s).answer ≡ true → (t k : ℕ)
    → seen tx t k (abort_call tx s).store ≡ first is_committed (versions t k s.pages)

-- ---- list

-- the listing rises strictly, and a transaction is in it exactly if it is open
abbrev pub ListedOnce : Type 0
ListedOnce =
    (s : Store) → WellFormed s
    → (paired ltb (sorted (open_numbers s.active)) ≡ true)
    × ((tx : ℕ) → is_in tx (sorted (open_numbers s.active)) ≡ is_in tx (open_numbers s.active))

-- on any store it does not fall, and a number is in it as often as it is among the open transactions
abbrev pub ListedSorted : Type 0
ListedSorted =
    (s : Store)
    → (paired leb (sorted (open_numbers s.active)) ≡ true)
    × ((tx : ℕ) → how_many (eqb tx) (sorted (open_numbers s.active)) ≡ how_many (eqb tx) (open_numbers s.active))

-- ---- crossing

-- a version is seen, and it crosses
unfoldable pub seen_crosses : ℕ → ℕ → Option Row → Bool
seen_crosses first end none = false
seen_crosses first end (some r) = crosses first end r.1

-- the keys rise strictly, and a key is among them exactly if the version of it that the transaction sees crosses
abbrev pub CrossingKeys : Type 0
CrossingKeys =
    (s : Store) → WellFormed s → (tx t first end : ℕ)
    → (paired ltb (crossing_keys tx t first end s.pages) ≡ true)
    × ((k : ℕ) → is_in k (crossing_keys tx t first end s.pages) ≡ seen_crosses first end (seen tx t k s))

-- ---- calls that change nothing that is seen

-- a refused call changes nothing and stores nothing
abbrev pub RefusedKeeps : Type 0
RefusedKeeps = (c : Call) (s : Store) → accepted (call c s).answer ≡ false → ((call c s).store ≡ s) × ((call c s).writes ≡ [])

-- read, list and crossing, which have no effect, change nothing and store nothing
abbrev pub ReadsOnly : Type 0
ReadsOnly = (c : TransactionCall) (s : Store) → effect c ≡ no_effect → ((transact c s).store ≡ s) × ((transact c s).writes ≡ [])

-- begin, step and run leave every live row
abbrev pub RowsStay : Type 0
RowsStay =
    (s : Store) → WellFormed s
    → (rows (call begins s).store.pages ≡ rows s.pages)
    × ((len : ℕ) → rows (call (steps len) s).store.pages ≡ rows s.pages)
    × ((limit len : ℕ) → rows (call (runs limit len) s).store.pages ≡ rows s.pages)
