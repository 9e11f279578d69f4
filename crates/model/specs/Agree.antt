-- Checkpoints do not show in what transactions are answered: stores that agree in what transactions can tell answer alike, whatever their pages are.
use Rattle.std.specs.Prelude.{ℕ, ◌≡◌, true, false, List, [], ◌∷◌}
use Rattle.basics.specs.Basics.{is_in, keep, AllOf}
use Rattle.model.specs.State.{Store, Answer, refused}
use Rattle.model.specs.Sight.{rows}
use Rattle.model.specs.Transactions.{open_numbers, written_by}
use Rattle.model.specs.Checkpoint.{is_running}
use Rattle.model.specs.Calls.{TransactionCall, transact, Call, transacts, begins, steps, runs, call, AllTyped, is_transaction, accepted, after_calls}
use Rattle.model.specs.WellFormed.{WellFormed}

-- the same N, next number, live rows, and open transactions, in whatever order, with their counts; pages, blocks and the checkpoint may differ
pub record Agree (s z : Store) : Type 0 where
  pub capacity : s.capacity ≡ z.capacity
  pub next : s.next ≡ z.next
  pub rows : rows s.pages ≡ rows z.pages
  pub opened : (tx : ℕ) → is_in tx (open_numbers s.active) ≡ is_in tx (open_numbers z.active)
  pub counts : (tx : ℕ) → written_by tx s.active ≡ written_by tx z.active

-- begin, step and run leave all of it
abbrev pub CheckpointsAgree : Type 0
CheckpointsAgree = (c : Call) (s : Store) → WellFormed s → is_transaction c ≡ false → Agree (call c s).store s

-- where neither store is full (15), a call of transactions answers the same on both, also in its bytes, and they agree afterwards
abbrev pub TransactionsAgree : Type 0
TransactionsAgree =
    (c : TransactionCall) (s z : Store) → WellFormed s → WellFormed z → Agree s z
    → ((transact c s).answer ≡ refused 15 → ⊥) → ((transact c z).answer ≡ refused 15 → ⊥)
    → ((transact c s).answer ≡ (transact c z).answer) × Agree (transact c s).store (transact c z).store

-- a running checkpoint can only hold more tuples: where none runs on z, it is enough that 15 is not met on s
abbrev pub IdleAgrees : Type 0
IdleAgrees =
    (c : TransactionCall) (s z : Store) → WellFormed s → WellFormed z → Agree s z → is_running z.checkpoint ≡ false
    → ((transact c s).answer ≡ refused 15 → ⊥)
    → ((transact c s).answer ≡ (transact c z).answer) × Agree (transact c s).store (transact c z).store

-- so a call that is accepted with a checkpoint running is accepted without one
abbrev pub AcceptedIdle : Type 0
AcceptedIdle =
    (c : TransactionCall) (s z : Store) → WellFormed s → WellFormed z → Agree s z → is_running z.checkpoint ≡ false
    → accepted (transact c s).answer ≡ true → (accepted (transact c z).answer ≡ true) × Agree (transact c s).store (transact c z).store

-- the answers of the calls of transactions in a run of all the calls
unfoldable pub answers_in : List Call → Store → List Answer
answers_in [] s = []
answers_in (transacts c ∷ cs) s = (transact c s).answer ∷ answers_in cs (transact c s).store
answers_in (begins ∷ cs) s = answers_in cs (call begins s).store
answers_in (steps len ∷ cs) s = answers_in cs (call (steps len) s).store
answers_in (runs limit len ∷ cs) s = answers_in cs (call (runs limit len) s).store

-- Whatever checkpoint calls stand between calls of transactions, these are answered as without them, and leave a store that agrees, as long as 15 is not
-- met.
abbrev pub CheckpointsUnseen : Type 0
CheckpointsUnseen =
    (calls : List Call) → AllTyped calls → (s z : Store) → WellFormed s → WellFormed z → Agree s z → is_running z.checkpoint ≡ false
    → AllOf (λ a. a ≡ refused 15 → ⊥) (answers_in calls s)
    → (answers_in calls s ≡ answers_in (keep is_transaction calls) z) × Agree (after_calls calls s) (after_calls (keep is_transaction calls) z)
