-- `call_transactions::check_open` meets its contract: one case for each test (`stop_6`, `stop_7`), and none (`none_7`).
use Rattle.basics.proofs.Kit.{◌≡◌, sym, ap, ◌∙◌, true, not}
use Rattle.model.specs.Transactions.{not_open}
use Rattle.memory_layout.specs.Flat.{flat_of}
use Rattle.memory_layout.specs.Store.{holds_store}
use Rattle.memory_layout.proofs.Laws.{holds_room}
use Rattle.call_transactions.proofs.Opens.{opened_none, opened_some}
use Rattle.call_transactions.proofs.Refusing.{refusal_4, refusal_in_lem, stop_6, stop_7, none_7}
use Rattle.call_transactions.proofs.check_open.Goals as goal

pub returns-then-not-holds_store : goal.returns-then-not-holds_store
returns-then-not-holds_store c = sym (refusal_4 _ (not_open _) (sym c.holds_store.ensures ∙ c.if-not-holds_store.true))

pub returns-then-transaction-gt-TRANSACTION_LIMIT : goal.returns-then-transaction-gt-TRANSACTION_LIMIT
returns-then-transaction-gt-TRANSACTION_LIMIT c = let has_store : holds_store c.args.m.now ≡ true = sym c.holds_store.ensures ∙ c.if-not-holds_store.false in
    sym (refusal_in_lem _ (not_open _) has_store ∙ stop_6 _ (flat_of _) c.if-transaction-gt-TRANSACTION_LIMIT.true)

pub opened_at-requires : goal.opened_at-requires
opened_at-requires c = let has_store : holds_store c.args.m.now ≡ true = sym c.holds_store.ensures ∙ c.if-not-holds_store.false in
    holds_room _ has_store

pub returns-then-is_none : goal.returns-then-is_none
returns-then-is_none c = let has_store : holds_store c.args.m.now ≡ true = sym c.holds_store.ensures ∙ c.if-not-holds_store.false in
    let a = c.args in
    sym (refusal_in_lem _ (not_open a.transaction) has_store ∙ stop_7 a.transaction (flat_of _) c.if-transaction-gt-TRANSACTION_LIMIT.false
    (opened_none _ _ _ c.opened_at.ensures (c.is_none.ensures ∙ ap not c.if-is_none.true)))

pub returns : goal.returns
returns c = let has_store : holds_store c.args.m.now ≡ true = sym c.holds_store.ensures ∙ c.if-not-holds_store.false in
    let a = c.args in
    sym (refusal_in_lem _ (not_open a.transaction) has_store ∙ none_7 a.transaction (flat_of _) c.if-transaction-gt-TRANSACTION_LIMIT.false
    (opened_some _ _ _ c.opened_at.ensures (c.is_none.ensures ∙ ap not c.if-is_none.false)))
