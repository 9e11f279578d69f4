-- Open, insert, replace, delete, read, list, commit, abort: each with its refusals in the order in which they are tested.
use Rattle.std.specs.Prelude.{ℕ, suc, ◌-◌, ◌/◌, ◌%◌, min, Bool, true, false, not, List, [], ◌∷◌, ◌++◌, map, length, leb, ltb, eqb}
use Rattle.std.proofs.Math.Option.{Option, none, some}
use Rattle.basics.specs.Basics.{if'◌then◌else◌, any, keep, last, is_some, is_in, sorted}
use Rattle.block_forms.specs.Limits.{payload_limit, most_number, most_statement, most_transaction}
use Rattle.block_forms.specs.Tuple.{Tuple, tentative}
use Rattle.image_rows.specs.Rows.{Row, is_own, is_at, open_limit}
use Rattle.model.specs.State.{Held, Page, Active, Store, Answer, refused, done, filled, Outcome}
use Rattle.model.specs.Rules.{place, is_removing, applied, remove_row, commit_row}
use Rattle.model.specs.Sight.{held, is_foreign, versions, seen}

-- ---- refusals: the first test that holds

-- a refusal's number and when it is given
pub data Test : Type 0 where
  ◌when◌ : ℕ → Bool → Test

infix 75 ◌when◌
-- an outcome without a block store
unfoldable pub gives : Answer → Store → Outcome
gives a s = record { answer = a; store = s; writes = [] }

-- the first test that holds refuses and changes nothing
unfoldable pub unless : List Test → Store → Outcome → Outcome
unless [] s o = o
unless ((n when b) ∷ ts) s o = if' b then gives (refused n) s else unless ts s o

-- the store with another next number, other pages, other open transactions
unfoldable pub changed : Store → ℕ → List Page → List Active → Store
changed s n ps os =
    record { blocks = s.blocks; capacity = s.capacity; level = s.level; next = n; pages = ps; active = os; used = s.used; taken = s.taken; checkpoint = s.checkpoint }

-- ---- open transactions

-- the numbers of the open transactions
unfoldable pub open_numbers : List Active → List ℕ
open_numbers os = map (λ o. o.transaction) os

-- the open transaction tx
unfoldable pub is_for : ℕ → Active → Bool
is_for tx o = eqb o.transaction tx

-- how many tuples a transaction has written
unfoldable pub written_by : ℕ → List Active → ℕ
written_by tx [] = 0
written_by tx (o ∷ os) = if' is_for tx o then o.written else written_by tx os

-- an open transaction that has written one tuple more. (A count has 20 bits; no transaction has more tuples than a store holds.)
unfoldable pub one_more : Active → Active
one_more o = record { transaction = o.transaction; written = min (suc o.written) most_statement }

-- transaction tx has written one tuple more
unfoldable pub with_write : ℕ → List Active → List Active
with_write tx [] = []
with_write tx (o ∷ os) = if' is_for tx o then one_more o ∷ os else o ∷ with_write tx os

-- the open transactions without transaction tx
unfoldable pub without : ℕ → List Active → List Active
without tx os = keep (λ o. not (is_for tx o)) os

-- ---- open

-- one open transaction more, which has written nothing
abbrev pub with_open : ℕ → Store → Store
with_open tx s = changed s s.next s.pages (s.active ++ record { transaction = tx; written = 0 } ∷ [])

-- 6 transaction above 4,095; 8 already open; 9 when 64 are open
unfoldable pub open_call : ℕ → Store → Outcome
open_call tx s =
    unless (6 when ltb most_transaction tx ∷ 8 when is_in tx (open_numbers s.active) ∷ 9 when leb open_limit (length s.active) ∷ []) s
    (gives done (with_open tx s))

-- ---- insert, replace, delete

-- 6 transaction above 4,095; 7 not open
unfoldable pub not_open : ℕ → Store → List Test
not_open tx s = 6 when ltb most_transaction tx ∷ 7 when not (is_in tx (open_numbers s.active)) ∷ []

-- 10 table above 7
unfoldable pub no_table : ℕ → Test
no_table t = 10 when ltb 7 t

-- 11 payload, of n bytes, above 40
unfoldable pub too_long : ℕ → Test
too_long n = 11 when ltb payload_limit n

-- 15 N tuples held; 16 next number is 4,294,967,295
unfoldable pub full : Store → List Test
full s = 15 when leb s.capacity (length (held s.pages)) ∷ 16 when eqb s.next most_number ∷ []

-- the tests of a write that look at no tuple, with a payload of n bytes
unfoldable pub argument_tests : ℕ → ℕ → ℕ → Store → List Test
argument_tests tx t n s = not_open tx s ++ (no_table t ∷ too_long n ∷ [])

-- 13 for a key that is to be new: the transaction sees it; 14 for another: it does not
unfoldable pub key_test : Bool → Bool → Test
key_test true sees = 13 when sees
key_test false sees = 14 when not sees

-- the tests by what there is of a key: 12 another open transaction has a tentative tuple of it; 13 or 14; 15; 16
unfoldable pub key_tests : Bool → Bool → Bool → Store → List Test
key_tests new foreign sees s = 12 when foreign ∷ key_test new sees ∷ full s

-- the tests of a write that look at the tuples
unfoldable pub tuple_tests : Bool → ℕ → ℕ → ℕ → Store → List Test
tuple_tests new tx t k s = key_tests new (any (is_foreign tx) (versions t k s.pages)) (is_some (seen tx t k s)) s

-- the tests of insert, replace and delete. (A delete has a payload of 0 bytes, for which 11 never holds.)
unfoldable pub write_tests : Bool → ℕ → ℕ → ℕ → ℕ → Store → List Test
write_tests new tx t k n s = argument_tests tx t n s ++ tuple_tests new tx t k s

-- a tentative tuple; its statement is how many tuples the transaction had written before
unfoldable pub new_tuple : ℕ → ℕ → List ℕ → Bool → Store → Tuple
new_tuple tx k bs m s =
    record { key = k; number = s.next; owner = tentative tx (written_by tx s.active); mark = m; payload = bs }

-- the store with one tentative tuple more
unfoldable pub after_write : ℕ → ℕ → ℕ → List ℕ → Bool → Store → Store
after_write tx t k bs m s = changed s (suc s.next) (place t (new_tuple tx k bs m s) s.pages) (with_write tx s.active)

-- the outcome of a write that no test refuses
unfoldable pub with_tuple : ℕ → ℕ → ℕ → List ℕ → Bool → Store → Outcome
with_tuple tx t k bs m s = gives done (after_write tx t k bs m s)

-- a write: of a key that is to be new or not, of a delete mark or not
unfoldable pub write_call : Bool → Bool → ℕ → ℕ → ℕ → List ℕ → Store → Outcome
write_call new m tx t k bs s = unless (write_tests new tx t k (length bs) s) s (with_tuple tx t k bs m s)

-- insert: a tuple of a key that is not seen
abbrev pub insert_call : ℕ → ℕ → ℕ → List ℕ → Store → Outcome
insert_call tx t k bs = write_call true false tx t k bs

-- replace: a newer version of a key that is seen
abbrev pub replace_call : ℕ → ℕ → ℕ → List ℕ → Store → Outcome
replace_call tx t k bs = write_call false false tx t k bs

-- delete: a mark with empty payload on a key that is seen
abbrev pub delete_call : ℕ → ℕ → ℕ → Store → Outcome
delete_call tx t k = write_call false true tx t k []

-- ---- read, list

-- the bytes bs over the first of a reply of room bytes, with the count n; 21 reply too short
unfoldable pub replied : ℕ → ℕ → List ℕ → Store → Outcome
replied room n bs s = unless (21 when ltb room (length bs) ∷ []) s (gives (filled n bs) s)

-- 14 key not seen; else its payload
unfoldable pub read_seen : ℕ → Option Row → Store → Outcome
read_seen room none s = gives (refused 14) s
read_seen room (some r) s = replied room (length r.1.payload) r.1.payload s

-- read: the payload of the version that is seen
unfoldable pub read_call : ℕ → ℕ → ℕ → ℕ → Store → Outcome
read_call tx t k room s = unless (not_open tx s ++ (no_table t ∷ [])) s (read_seen room (seen tx t k s) s)

-- two bytes a transaction, high byte first
unfoldable pub listing : List ℕ → List ℕ
listing [] = []
listing (tx ∷ txs) = tx / 256 % 256 ∷ tx % 256 ∷ listing txs

-- list: the open transactions by rising number
unfoldable pub list_call : ℕ → Store → Outcome
list_call room s = replied room (length s.active) (listing (sorted (open_numbers s.active))) s

-- ---- runs: all tuples held, numbered from 0 in order, those of one key together

-- every tuple that is held, with its table
unfoldable pub tagged : List Page → List (ℕ × Held)
tagged [] = []
tagged (p ∷ ps) = map (λ h. (p.table, h)) p.tuples ++ tagged ps

-- a tuple with its place and its table
abbrev pub Placed : Type 0
Placed = ℕ × (ℕ × Held)

-- the row that it holds
abbrev pub row_of : Placed → Row
row_of x = (x.1.0, x.1.1.tuple)

-- the tuples with their places, from i on
unfoldable pub placed : ℕ → List (ℕ × Held) → List Placed
placed i [] = []
placed i (x ∷ xs) = (i, x) ∷ placed (suc i) xs

-- every tuple that is held, with its place and its table
unfoldable pub all_placed : List Page → List Placed
all_placed ps = placed 0 (tagged ps)

-- x is of the table and key of y
abbrev pub same_key : ℕ × Held → ℕ × Held → Bool
same_key y x = is_at y.0 y.1.tuple.key (x.0, x.1.tuple)

-- x is of the run's table and key; an empty run takes any
unfoldable pub continues : List Placed → Placed → Bool
continues [] x = true
continues (y ∷ ys) x = same_key y.1 x.1

-- runs of neighbours of one table and key, those pending add or removal too; run is the one so far
unfoldable pub runs : List Placed → List Placed → List (List Placed)
runs run [] = run ∷ []
runs run (x ∷ xs) = elim (continues run x) [ true ↦ runs (run ++ x ∷ []) xs | false ↦ run ∷ runs (x ∷ []) xs ]

-- the runs of all pages
unfoldable pub all_runs : List Page → List (List Placed)
all_runs ps = runs [] (all_placed ps)

-- what f gives of each run, one after another
unfoldable pub each_run : {X : Type 0} → (List Placed → List X) → List (List Placed) → List X
each_run f [] = []
each_run f (run ∷ rs) = f run ++ each_run f rs

-- the live rows with their places: pending operations taken as done
unfoldable pub live_of : List Placed → List (ℕ × Row)
live_of [] = []
live_of (x ∷ xs) = if' is_removing x.1.1.pending then live_of xs else (x.0, (x.1.0, applied x.1.1)) ∷ live_of xs

-- the same without their places
abbrev pub rows_in : List Placed → List Row
rows_in xs = map (λ y. y.1) (live_of xs)

-- ---- plans of operations on tuples by their places at entry

-- an operation on the tuple of that place at entry
pub data PlaceOp : Type 0 where
  commit_place remove_place : ℕ → PlaceOp

-- the transaction's own row
unfoldable pub own_placed : ℕ → ℕ × Row → Bool
own_placed tx y = is_own tx y.1

-- all of these are removed, by rising place
unfoldable pub remove_places : List (ℕ × Row) → List PlaceOp
remove_places [] = []
remove_places (y ∷ ys) = remove_place y.0 ∷ remove_places ys

-- ys: the live rows of a run; the newest own one, if there is one. A delete mark removes them all; else the newest is committed and then
-- the others are removed
unfoldable pub plan_newest : Option (ℕ × Row) → List (ℕ × Row) → List PlaceOp
plan_newest none ys = []
plan_newest (some x) ys =
    if' x.1.1.mark then remove_places ys else commit_place x.0 ∷ remove_places (keep (λ y. not (eqb y.0 x.0)) ys)

-- the operations of a commit on one run
unfoldable pub plan_run : ℕ → List Placed → List PlaceOp
plan_run tx run = plan_newest (last (own_placed tx) (live_of run)) (live_of run)

-- the operations of a commit, run by run
abbrev pub plan_runs : ℕ → List (List Placed) → List PlaceOp
plan_runs tx rs = each_run (plan_run tx) rs

-- the operations of a commit
unfoldable pub close_plan : ℕ → List Page → List PlaceOp
close_plan tx ps = plan_runs tx (all_runs ps)

-- the operations of an abort: each live own row is removed
unfoldable pub abort_plan : ℕ → List Page → List PlaceOp
abort_plan tx ps = remove_places (keep (own_placed tx) (live_of (all_placed ps)))

-- ---- commit, abort

-- The operations, one after another; n is how many tuples were held at entry. A tuple's place now is its place at entry less the
-- tuples gone since, which all stood before it.
unfoldable pub carry_out : ℕ → List PlaceOp → List Page → List Page
carry_out n [] ps = ps
carry_out n (commit_place i ∷ os) ps = carry_out n os (commit_row (i - (n - length (held ps))) ps)
carry_out n (remove_place i ∷ os) ps = carry_out n os (remove_row (i - (n - length (held ps))) ps)

-- the pages after a commit: its plan is carried out
abbrev pub committed_pages : ℕ → List Page → List Page
committed_pages tx ps = carry_out (length (held ps)) (close_plan tx ps) ps

-- the pages after an abort
abbrev pub aborted_pages : ℕ → List Page → List Page
aborted_pages tx ps = carry_out (length (held ps)) (abort_plan tx ps) ps

-- the transaction is closed, with other pages
abbrev pub closing : ℕ → List Page → Store → Outcome
closing tx ps s = gives done (changed s s.next ps (without tx s.active))

-- commit
unfoldable pub commit_call : ℕ → Store → Outcome
commit_call tx s = unless (not_open tx s) s (closing tx (committed_pages tx s.pages) s)

-- abort
unfoldable pub abort_call : ℕ → Store → Outcome
abort_call tx s = unless (not_open tx s) s (closing tx (aborted_pages tx s.pages) s)

-- unfolds the definitions of the writes: `unfolding write_rules`
unfoldable pub write_rules : ℕ
unfolding one_more with_write not_open no_table too_long full argument_tests key_test key_tests tuple_tests write_tests new_tuple after_write with_tuple write_call
write_rules = 0

-- unfolds what commit and abort plan and carry out: `unfolding place_rules`
unfoldable pub place_rules : ℕ
unfolding tagged placed all_placed continues runs all_runs each_run live_of own_placed remove_places plan_newest plan_run close_plan abort_plan carry_out
place_rules = 0
