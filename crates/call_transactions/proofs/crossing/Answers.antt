-- `call_transactions::crossing` meets its contract: one case for each test (`cross_10`, `cross_25`, `cross-21`), and the keys copied (`cross-done`).
use Rattle.basics.proofs.Kit.{◌∙◌, length, arith}
use Rattle.model.specs.Transactions.{not_open}
use Rattle.std.proofs.lemmas.Result.{err_from_is_err_and}
use Rattle.refusals.specs.declared.Refusal.TheVariants.{TableRange, IntervalEmpty}
use Rattle.call_contracts.proofs.Answering.{replies_refused}
use Rattle.call_transactions.proofs.Intervals.{cross_after, cross_tests, cross_opened, cross_10, cross_25, cross_on, replies_same}
use Rattle.call_transactions.proofs.Refusing.{passed_held, replies_stopped}
use Rattle.call_transactions.proofs.crossing.Goals as goal

pub returns-in_err-check_open : goal.returns-in_err-check_open
returns-in_err-check_open c = let a = c.args in let n = length a.reply.now in
    let p = err_from_is_err_and c.from_residual.result c.from_residual.ensures.1 in
    rw (p.1, p.2) (replies_stopped _ (not_open _) _ c.in_err-check_open.ensures _ (cross_after _ _ _ _ n) (cross_tests _ _ _ _ n) a.reply.now)

pub returns-then-table-gt-TABLE_LIMIT : goal.returns-then-table-gt-TABLE_LIMIT
returns-then-table-gt-TABLE_LIMIT c = let a = c.args in let has_store = passed_held _ (not_open _) c.in_ok-check_open.ensures in
    let opened = cross_opened a.transaction a.table a.first a.end (length a.reply.now) _ c.in_ok-check_open.ensures in
    replies_refused _ a.m.now a.reply.now TableRange has_store (opened ∙ cross_10 a.transaction a.table a.first a.end (length a.reply.now) _ c.if-table-gt-TABLE_LIMIT.true)

pub returns-then-end-first : goal.returns-then-end-first
returns-then-end-first c = let a = c.args in let has_store = passed_held _ (not_open _) c.in_ok-check_open.ensures in
    let opened = cross_opened a.transaction a.table a.first a.end (length a.reply.now) _ c.in_ok-check_open.ensures in
    replies_refused _ a.m.now a.reply.now IntervalEmpty has_store
    (opened ∙ cross_25 a.transaction a.table a.first a.end (length a.reply.now) _ c.if-table-gt-TABLE_LIMIT.false c.if-end-first.true)

pub reply_crossing-requires : goal.reply_crossing-requires
reply_crossing-requires c = let has_store = passed_held _ (not_open _) c.in_ok-check_open.ensures in
    record { has_store = has_store; table = omega (arith, c.if-table-gt-TABLE_LIMIT.false); order = omega (arith, c.if-end-first.false) }

pub returns : goal.returns
returns c = let a = c.args in let has_store = passed_held _ (not_open _) c.in_ok-check_open.ensures in
    let opened = cross_opened a.transaction a.table a.first a.end (length a.reply.now) _ c.in_ok-check_open.ensures in
    replies_same _ _ a.m.now _ _ _ has_store
    (opened ∙ cross_on a.transaction a.table a.first a.end (length a.reply.now) _ c.if-table-gt-TABLE_LIMIT.false (omega (arith, c.if-end-first.false))) c.reply_crossing.ensures
