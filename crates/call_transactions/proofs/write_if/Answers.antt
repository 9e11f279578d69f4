-- `call_transactions::write_if` meets its contract: the first test that holds refuses (`call_refused`, `key_refused`), else the tuple is written (`write_done`).
use Rattle.basics.proofs.Kit.{arith}
use Rattle.model.specs.Transactions.{write_call}
use Rattle.call_contracts.proofs.Answering.{room_refused, room_kept}
use Rattle.std.proofs.lemmas.Result.{err_from_is_err_and}
use Rattle.call_transactions.proofs.Called.{call_refused, key_refused, write_29, write_done}
use Rattle.call_transactions.proofs.Testing.{called, accepts}
use Rattle.call_transactions.proofs.write_if.Goals as goal

pub returns-in_err-check_call : goal.returns-in_err-check_call
returns-in_err-check_call c = let a = c.args in let p = err_from_is_err_and c.from_residual.result c.from_residual.ensures.1 in
    rw (p.1, p.2) (room_refused a.room (write_call a.new a.mark a.transaction a.table a.key a.payload.now) _ _ _
    (call_refused a.new a.mark a.transaction a.table a.key a.payload.now _ _ c.in_err-check_call.ensures))

pub overflow_cast-t : goal.overflow_cast-t
overflow_cast-t c = let passed = called c.in_ok-check_call.ensures in
    omega (arith, passed.table)

pub find_place-s-requires : goal.find_place-s-requires
find_place-s-requires c = let passed = called c.in_ok-check_call.ensures in
    (passed.there, passed.table)

pub check_key-requires : goal.check_key-requires
check_key-requires c = let passed = called c.in_ok-check_call.ensures in
    (passed.there, c.find_place-s.ensures.visibility.own_in)

pub returns-in_err-check_key : goal.returns-in_err-check_key
returns-in_err-check_key c = let a = c.args in let p = err_from_is_err_and c.from_residual-in_err-check_key.result c.from_residual-in_err-check_key.ensures.1 in
    rw (p.1, p.2) (room_refused a.room (write_call a.new a.mark a.transaction a.table a.key a.payload.now) _ _ _
    (key_refused a.new a.mark a.transaction a.table a.key a.payload.now _ c.in_ok-check_call.ensures _ c.find_place-s.ensures.visibility _ c.in_err-check_key.ensures))

pub returns-then-not-room : goal.returns-then-not-room
returns-then-not-room c = let a = c.args in
    write_29 a.new a.mark a.transaction a.table a.key a.payload.now _ c.in_ok-check_call.ensures
    _ c.find_place-s.ensures.visibility c.in_ok-check_key.ensures a.room c.if-not-room.true

pub accept-requires : goal.accept-requires
accept-requires c = let passed = called c.in_ok-check_call.ensures in
    accepts _ _ passed c.in_ok-check_key.ensures c.find_place-s.ensures.place

pub returns : goal.returns
returns c = let a = c.args in
    room_kept a.room (write_call a.new a.mark a.transaction a.table a.key a.payload.now) _ c.if-not-room.false _ _
    (write_done a.new a.mark a.transaction a.table a.key a.payload.now _ c.in_ok-check_call.ensures
    _ c.find_place-s.ensures.visibility c.in_ok-check_key.ensures _ c.accept.ensures)
