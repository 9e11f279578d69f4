-- `call_transactions::open_if` meets its contract: one case for each test (`open_6` to `open_9`), and the entry pushed (`open_done`).
use Rattle.basics.proofs.Kit.{◌≡◌, sym, ◌∙◌, true, arith}
use Rattle.model.specs.Transactions.{open_call}
use Rattle.memory_layout.specs.Flat.{flat_of}
use Rattle.refusals.specs.declared.Refusal.TheVariants.{NoStore, TransactionRange, AlreadyOpen, TooManyOpen}
use Rattle.memory_layout.specs.Store.{holds_store}
use Rattle.memory_layout.proofs.Laws.{holds_room}
use Rattle.call_contracts.proofs.Answering.{answers_4, answers_refused, answers_done, room_refused, room_kept, no_room_done}
use Rattle.call_transactions.proofs.Opens.{opened_none, opened_some}
use Rattle.call_transactions.proofs.Opening.{open_6, open_8, open_9, open_done, opens_hold}
use Rattle.call_transactions.proofs.open_if.Goals as goal

pub returns-then-not-holds_store : goal.returns-then-not-holds_store
returns-then-not-holds_store c = let a = c.args in
    room_refused a.room (open_call a.transaction) _ NoStore _ (answers_4 _ _ (sym c.holds_store.ensures ∙ c.if-not-holds_store.true))

pub returns-then-transaction-gt-TRANSACTION_LIMIT : goal.returns-then-transaction-gt-TRANSACTION_LIMIT
returns-then-transaction-gt-TRANSACTION_LIMIT c = let has_store : holds_store c.args.m.now ≡ true = sym c.holds_store.ensures ∙ c.if-not-holds_store.false in
    let a = c.args in
    room_refused a.room (open_call a.transaction) _ TransactionRange _ (answers_refused _ _ TransactionRange has_store (open_6 a.transaction (flat_of _) c.if-transaction-gt-TRANSACTION_LIMIT.true))

pub opened_at-requires : goal.opened_at-requires
opened_at-requires c = let has_store : holds_store c.args.m.now ≡ true = sym c.holds_store.ensures ∙ c.if-not-holds_store.false in
    holds_room _ has_store

pub open_count-requires : goal.open_count-requires
open_count-requires c = let has_store : holds_store c.args.m.now ≡ true = sym c.holds_store.ensures ∙ c.if-not-holds_store.false in
    holds_room _ has_store

pub returns-then-is_some : goal.returns-then-is_some
returns-then-is_some c = let has_store : holds_store c.args.m.now ≡ true = sym c.holds_store.ensures ∙ c.if-not-holds_store.false in
    let a = c.args in
    room_refused a.room (open_call a.transaction) _ AlreadyOpen _ (answers_refused _ _ AlreadyOpen has_store
    (open_8 a.transaction (flat_of _) c.if-transaction-gt-TRANSACTION_LIMIT.false (opened_some _ _ _ c.opened_at.ensures (sym c.is_some.ensures ∙ c.if-is_some.true))))

pub returns-then-open_count-ge-OPEN_LIMIT : goal.returns-then-open_count-ge-OPEN_LIMIT
returns-then-open_count-ge-OPEN_LIMIT c = let has_store : holds_store c.args.m.now ≡ true = sym c.holds_store.ensures ∙ c.if-not-holds_store.false in
    let a = c.args in
    let en = c.open_count.ensures in
    room_refused a.room (open_call a.transaction) _ TooManyOpen _ (answers_refused _ _ TooManyOpen has_store
    (open_9 a.transaction (flat_of _) c.if-transaction-gt-TRANSACTION_LIMIT.false (opened_none _ _ _ c.opened_at.ensures (sym c.is_some.ensures ∙ c.if-is_some.false)) (omega (arith, en, c.if-open_count-ge-OPEN_LIMIT.true))))

-- every test is passed but whether there is room
pub returns-then-not-room : goal.returns-then-not-room
returns-then-not-room c = let has_store : holds_store c.args.m.now ≡ true = sym c.holds_store.ensures ∙ c.if-not-holds_store.false in
    let a = c.args in let en = c.open_count.ensures in
    no_room_done a.room (open_call a.transaction) _ c.if-not-room.true has_store _ (open_done _ (flat_of a.m.now) c.if-transaction-gt-TRANSACTION_LIMIT.false
    (opened_none _ _ _ c.opened_at.ensures (sym c.is_some.ensures ∙ c.if-is_some.false)) (omega (arith, en, c.if-open_count-ge-OPEN_LIMIT.false)))

pub push_open-requires : goal.push_open-requires
push_open-requires c = let has_store : holds_store c.args.m.now ≡ true = sym c.holds_store.ensures ∙ c.if-not-holds_store.false in (
  holds_room _ has_store,
  record {
    few = omega (arith, c.open_count.ensures, c.if-open_count-ge-OPEN_LIMIT.false);
    fits = record { transaction = omega (arith, c.if-transaction-gt-TRANSACTION_LIMIT.false); written = omega arith };
  },
)

pub returns : goal.returns
returns c = let has_store : holds_store c.args.m.now ≡ true = sym c.holds_store.ensures ∙ c.if-not-holds_store.false in
    let a = c.args in let en = c.open_count.ensures in
    room_kept a.room (open_call a.transaction) _ c.if-not-room.false _ _ (answers_done _ _ _ _ has_store
    (open_done _ (flat_of a.m.now) c.if-transaction-gt-TRANSACTION_LIMIT.false (opened_none _ _ _ c.opened_at.ensures (sym c.is_some.ensures ∙ c.if-is_some.false))
    (omega (arith, en, c.if-open_count-ge-OPEN_LIMIT.false))) (opens_hold _ _ _ has_store c.push_open.ensures))
