-- `call_transactions::end_if` meets its contract: a transaction that is not open by `end_refused`; else the pages are those of `close_rows` and the list that of `close` (`end_done`).
use Rattle.call_contracts.proofs.Answering.{room_refused, room_kept}
use Rattle.call_transactions.specs.Calls.{end_call}
use Rattle.model.specs.Transactions.{not_open}
use Rattle.std.proofs.lemmas.Result.{err_from_is_err_and}
use Rattle.call_transactions.proofs.Closing.{end_refused, end_29, end_done, closed_room}
use Rattle.call_transactions.proofs.Refusing.{passed_held}
use Rattle.call_transactions.proofs.end_if.Goals as goal

pub returns-in_err-check_open : goal.returns-in_err-check_open
returns-in_err-check_open c = let a = c.args in let p = err_from_is_err_and c.from_residual.result c.from_residual.ensures.1 in
    rw (p.1, p.2) (room_refused a.room (end_call a.keep a.transaction) _ _ _ (end_refused _ _ a.keep _ c.in_err-check_open.ensures))

pub returns-then-not-room : goal.returns-then-not-room
returns-then-not-room c = let a = c.args in
    end_29 _ _ a.keep c.in_ok-check_open.ensures a.room c.if-not-room.true

pub close_rows-requires : goal.close_rows-requires
close_rows-requires c = passed_held _ (not_open _) c.in_ok-check_open.ensures

pub close-requires : goal.close-requires
close-requires c = closed_room c.close_rows.ensures

pub returns : goal.returns
returns c = let a = c.args in
    room_kept a.room (end_call a.keep a.transaction) _ c.if-not-room.false _ _
    (end_done _ _ a.keep c.in_ok-check_open.ensures _ _ c.close_rows.ensures c.close.ensures)
