-- `call_transactions::tests::check_call` meets its contract: one case for each test (`call_10`, `call_11`), and none (`call_passed`).
use Rattle.std.proofs.lemmas.Result.{err_from_is_err_and}
use Rattle.call_transactions.proofs.Testing.{call_stopped, call_10, call_11, call_passed}
use Rattle.call_transactions.proofs.checks.check_call.Goals as goal

pub returns-in_err-check_open : goal.returns-in_err-check_open
returns-in_err-check_open c = let p = err_from_is_err_and c.from_residual.result c.from_residual.ensures.1 in
    rw (p.1, p.2) (call_stopped _ _ _ _ _ c.in_err-check_open.ensures)

pub returns-then-table-gt-TABLE_LIMIT : goal.returns-then-table-gt-TABLE_LIMIT
returns-then-table-gt-TABLE_LIMIT c = call_10 _ _ _ _ c.in_ok-check_open.ensures c.if-table-gt-TABLE_LIMIT.true

pub returns-then-len-gt-PAYLOAD_LIMIT : goal.returns-then-len-gt-PAYLOAD_LIMIT
returns-then-len-gt-PAYLOAD_LIMIT c = call_11 _ _ _ _ c.in_ok-check_open.ensures c.if-table-gt-TABLE_LIMIT.false c.if-len-gt-PAYLOAD_LIMIT.true

pub returns : goal.returns
returns c = call_passed _ _ _ _ c.in_ok-check_open.ensures c.if-table-gt-TABLE_LIMIT.false c.if-len-gt-PAYLOAD_LIMIT.false
