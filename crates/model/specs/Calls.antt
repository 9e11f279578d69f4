-- The calls together, in two levels: those of transactions, and begin, step and run beside them.
use Rattle.std.specs.Prelude.{ℕ, ◌<◌, ◌≡◌, Bool, true, false, not, List, [], ◌∷◌, eqb}
use Rattle.basics.specs.Basics.{if'◌then◌else◌, is_in, keep}
use Rattle.block_forms.specs.Tuple.{AllBytes}
use Rattle.model.specs.State.{Store, Answer, refused, done, count, filled, Outcome}
use Rattle.model.specs.Transactions.{gives, open_call, commit_call, abort_call, insert_call, replace_call, delete_call, read_call, list_call}
use Rattle.model.specs.Checked.{insert_checked_call}
use Rattle.model.specs.Crossing.{crossing_call}
use Rattle.model.specs.Checkpoint.{begin_call, step_call, run_call}

-- ---- the calls of transactions

-- with transaction, table, key, payload; the dish's calendar (checked insert); first and end of the interval (crossing); the length of the reply (read, list, crossing)
pub data TransactionCall : Type 0 where
  opens : ℕ → TransactionCall
  inserts : ℕ → ℕ → ℕ → List ℕ → TransactionCall
  inserts_checked : ℕ → ℕ → ℕ → List ℕ → List ℕ → TransactionCall
  replaces : ℕ → ℕ → ℕ → List ℕ → TransactionCall
  deletes : ℕ → ℕ → ℕ → TransactionCall
  commits : ℕ → TransactionCall
  aborts : ℕ → TransactionCall
  reads : ℕ → ℕ → ℕ → ℕ → TransactionCall
  lists : ℕ → TransactionCall
  crossings : ℕ → ℕ → ℕ → ℕ → ℕ → TransactionCall

-- what each does to a store
unfoldable pub transact : TransactionCall → Store → Outcome
transact (opens tx) s = open_call tx s
transact (inserts tx t k bs) s = insert_call tx t k bs s
transact (inserts_checked tx t k bs hours) s = insert_checked_call tx t k bs hours s
transact (replaces tx t k bs) s = replace_call tx t k bs s
transact (deletes tx t k) s = delete_call tx t k s
transact (commits tx) s = commit_call tx s
transact (aborts tx) s = abort_call tx s
transact (reads tx t k room) s = read_call tx t k room s
transact (lists room) s = list_call room s
transact (crossings tx t first end room) s = crossing_call tx t first end room s

-- what an accepted call is for the transactions: nothing, or one opens, writes a tuple, commits, aborts
pub data Effect : Type 0 where
  no_effect : Effect
  start_of write_of commit_of abort_of : ℕ → Effect

-- the effect of each
unfoldable pub effect : TransactionCall → Effect
effect (opens tx) = start_of tx
effect (inserts tx t k bs) = write_of tx
effect (inserts_checked tx t k bs hours) = write_of tx
effect (replaces tx t k bs) = write_of tx
effect (deletes tx t k) = write_of tx
effect (commits tx) = commit_of tx
effect (aborts tx) = abort_of tx
effect (reads tx t k room) = no_effect
effect (lists room) = no_effect
effect (crossings tx t first end room) = no_effect

-- a key has 32 bits, and a payload is bytes
abbrev pub TypedTuple : ℕ → List ℕ → Type 0
TypedTuple k bs = (k < 4294967296) × AllBytes bs

-- the key and payload of a write are of these types
abbrev pub TypedCall : TransactionCall → Type 0
TypedCall (opens tx) = Unit {0}
TypedCall (inserts tx t k bs) = TypedTuple k bs
TypedCall (inserts_checked tx t k bs hours) = TypedTuple k bs
TypedCall (replaces tx t k bs) = TypedTuple k bs
TypedCall (deletes tx t k) = TypedTuple k []
TypedCall (commits tx) = Unit {0}
TypedCall (aborts tx) = Unit {0}
TypedCall (reads tx t k room) = Unit {0}
TypedCall (lists room) = Unit {0}
TypedCall (crossings tx t first end room) = Unit {0}

-- ---- all calls

-- step and run with the length of the image, run with its limit before that
pub data Call : Type 0 where
  transacts : TransactionCall → Call
  begins : Call
  steps : ℕ → Call
  runs : ℕ → ℕ → Call

-- what each does to a store
unfoldable pub call : Call → Store → Outcome
call (transacts c) s = transact c s
call begins s = begin_call s
call (steps len) s = step_call len s
call (runs limit len) s = run_call limit len s

-- the arguments of a call are of their types
abbrev pub Typed : Call → Type 0
Typed (transacts c) = TypedCall c
Typed begins = Unit {0}
Typed (steps len) = Unit {0}
Typed (runs limit len) = Unit {0}

-- so are those of every call of a list
abbrev pub AllTyped : List Call → Type 0
AllTyped [] = Unit {0}
AllTyped (c ∷ cs) = Typed c × AllTyped cs

-- the call that starts a checkpoint
unfoldable pub is_begin : Call → Bool
is_begin (transacts c) = false
is_begin begins = true
is_begin (steps len) = false
is_begin (runs limit len) = false

-- begin, step and run have no effect on transactions
unfoldable pub effect_of : Call → Effect
effect_of (transacts c) = effect c
effect_of begins = no_effect
effect_of (steps len) = no_effect
effect_of (runs limit len) = no_effect

-- the call was not refused
unfoldable pub accepted : Answer → Bool
accepted (refused n) = false
accepted done = true
accepted (count n) = true
accepted (filled n bs) = true

-- the call, where there is room for its record in a log; else 29, after all its other tests
abbrev pub with_room : Bool → (Store → Outcome) → Store → Outcome
with_room true f s = f s
with_room false f s = if' accepted (f s).answer then gives (refused 29) s else f s

-- the store after a list of calls
unfoldable pub after_calls : List Call → Store → Store
after_calls [] s = s
after_calls (c ∷ cs) s = after_calls cs (call c s).store

-- ---- who had written

-- the transactions ws without transaction tx
unfoldable pub others : ℕ → List ℕ → List ℕ
others tx ws = keep (λ w. not (eqb w tx)) ws

-- the transactions ws and transaction tx
unfoldable pub with_writer : ℕ → List ℕ → List ℕ
with_writer tx ws = if' is_in tx ws then ws else tx ∷ ws

-- the open transactions that had written (with an accepted insert, replace or delete since they opened) after an accepted call; ws had before
unfoldable pub writers : Effect → List ℕ → List ℕ
writers no_effect ws = ws
writers (start_of tx) ws = ws
writers (write_of tx) ws = with_writer tx ws
writers (commit_of tx) ws = others tx ws
writers (abort_of tx) ws = others tx ws

-- the open transactions that had written after a list of calls, of which ws had before
unfoldable pub had_written : List Call → Store → List ℕ → List ℕ
had_written [] s ws = ws
had_written (c ∷ cs) s ws = let o = call c s in had_written cs o.store (if' accepted o.answer then writers (effect_of c) ws else ws)

-- ---- what a call leaves

-- a call of a transaction
unfoldable pub is_transaction : Call → Bool
is_transaction (transacts c) = true
is_transaction begins = false
is_transaction (steps len) = false
is_transaction (runs limit len) = false

-- a call that stores blocks
unfoldable pub is_step : Call → Bool
is_step (transacts c) = false
is_step begins = false
is_step (steps len) = true
is_step (runs limit len) = true

-- what call c, which gives o, leaves of the store s
pub record Leaves (c : Call) (s : Store) (o : Outcome) : Type 0 where
  -- every call leaves these two
  pub blocks : o.store.blocks ≡ s.blocks
  pub capacity : o.store.capacity ≡ s.capacity
  -- a call of a transaction leaves the checkpoint
  pub level : is_transaction c ≡ true → o.store.level ≡ s.level
  pub used : is_transaction c ≡ true → o.store.used ≡ s.used
  pub taken : is_transaction c ≡ true → o.store.taken ≡ s.taken
  pub checkpoint : is_transaction c ≡ true → o.store.checkpoint ≡ s.checkpoint
  -- begin, step and run leave the transactions
  pub next : is_transaction c ≡ false → o.store.next ≡ s.next
  pub active : is_transaction c ≡ false → o.store.active ≡ s.active
  -- only step and run store blocks
  pub image : is_step c ≡ false → o.writes ≡ []

-- it is so for every call on every store
abbrev pub CallLeaves : Type 0
CallLeaves = (c : Call) (s : Store) → Leaves c s (call c s)
