-- `call_forward::restore` meets its contract: the tests in their order, each refusal with the log as found, then the aborts.
use Rattle.basics.proofs.Kit.{◌≡◌, refl, true, ◌+◌, ◌*◌, ◌≤◌, length, arith}
use Rattle.block_forms.proofs.Spelled.{all_bytes}
use Rattle.memory_layout.specs.Store.{holds_store}
use Rattle.memory_layout.proofs.Laws.{known, holds_room}
use Rattle.std.proofs.lemmas.Result.{err_from_is_err_and}
use Rattle.refusals.specs.declared.Refusal.TheVariants.{BadLog, LogFull}
use Rattle.call_forward.proofs.Restoring.{began, not_begun, stopped, not_whole, Whole, is_whole, may_repeat, stopped_since, went, no_room, may_abort, restored}
use Rattle.call_forward.proofs.restore.Goals as goal

pub returns-in_err-recover : goal.returns-in_err-recover
returns-in_err-recover c = let p = err_from_is_err_and c.from_residual.result c.from_residual.ensures.1 in
    rw (p.1, p.2) (not_begun _ c.args.s.now _ _ c.args.log.now _ c.in_err-recover.ensures)

pub returns-in_default : goal.returns-in_default
returns-in_default c = let begun = began _ c.args.s.now _ _ c.in_ok-recover.ensures in
    stopped _ c.args.s.now c.args.log.now _ BadLog (not_whole c.args.log.now c.args.s.now _ _ begun c.check_log.ensures c.in_default.is)

pub repeat_since-requires : goal.repeat_since-requires
repeat_since-requires c = let begun = began _ c.args.s.now _ _ c.in_ok-recover.ensures in
    let whole : Whole c.args.log.now c.in-Some.end =
    let log = c.args.log.now in is_whole log (all_bytes log (λ j. omega (arith, c.slice_known-2-1.given j))) c.check_log.ensures c.in-Some.end c.in-Some.is in
    may_repeat _ _ _ whole begun.has_store

pub returns-in_err-repeat_since : goal.returns-in_err-repeat_since
returns-in_err-repeat_since c = let begun = began _ c.args.s.now _ _ c.in_ok-recover.ensures in
    let whole : Whole c.args.log.now c.in-Some.end =
    let log = c.args.log.now in is_whole log (all_bytes log (λ j. omega (arith, c.slice_known-2-1.given j))) c.check_log.ensures c.in-Some.end c.in-Some.is in
    let p = err_from_is_err_and c.from_residual-in_err-repeat_since.result c.from_residual-in_err-repeat_since.ensures.1 in
    rw (p.1, p.2) (stopped_since _ begun whole _ c.in_err-repeat_since.ensures _)

pub open_count-n-requires : goal.open_count-n-requires
open_count-n-requires c = let begun = began _ c.args.s.now _ _ c.in_ok-recover.ensures in
    let whole : Whole c.args.log.now c.in-Some.end =
    let log = c.args.log.now in is_whole log (all_bytes log (λ j. omega (arith, c.slice_known-2-1.given j))) c.check_log.ensures c.in-Some.end c.in-Some.is in
    let held : holds_store c.repeat_since.new.s ≡ true = (went c.args.log.now c.args.s.now _ _ _ begun _ whole _ c.in_ok-repeat_since.ensures refl).1 in
    holds_room _ held

pub overflow_sub-log : goal.overflow_sub-log
overflow_sub-log c = let whole : Whole c.args.log.now c.in-Some.end =
    let log = c.args.log.now in is_whole log (all_bytes log (λ j. omega (arith, c.slice_known-2-1.given j))) c.check_log.ensures c.in-Some.end c.in-Some.is in
    let inside : c.in-Some.end ≤ length c.args.log.now = whole.inside in
    inside

pub overflow_mul-n : goal.overflow_mul-n
overflow_mul-n c = let begun = began _ c.args.s.now _ _ c.in_ok-recover.ensures in
    let whole : Whole c.args.log.now c.in-Some.end =
    let log = c.args.log.now in is_whole log (all_bytes log (λ j. omega (arith, c.slice_known-2-1.given j))) c.check_log.ensures c.in-Some.end c.in-Some.is in
    let held : holds_store c.repeat_since.new.s ≡ true = (went c.args.log.now c.args.s.now _ _ _ begun _ whole _ c.in_ok-repeat_since.ensures refl).1 in
    let few : c.open_count-n.result ≤ 64 = omega (arith, c.open_count-n.ensures, known _ (holds_room _ held)) in
    omega (arith, few)

pub returns-then-log-end : goal.returns-then-log-end
returns-then-log-end c = let begun = began _ c.args.s.now _ _ c.in_ok-recover.ensures in
    let whole : Whole c.args.log.now c.in-Some.end =
    let log = c.args.log.now in is_whole log (all_bytes log (λ j. omega (arith, c.slice_known-2-1.given j))) c.check_log.ensures c.in-Some.end c.in-Some.is in
    let inside : c.in-Some.end ≤ length c.args.log.now = whole.inside in
    stopped _ c.args.s.now c.args.log.now _ LogFull
    (no_room c.args.log.now c.args.s.now _ _ _ begun _ whole _ c.in_ok-repeat_since.ensures refl _ c.open_count-n.ensures
    (omega (arith, c.if-log-end.true, inside)))

pub abort_open-requires : goal.abort_open-requires
abort_open-requires c = let begun = began _ c.args.s.now _ _ c.in_ok-recover.ensures in
    let whole : Whole c.args.log.now c.in-Some.end =
    let log = c.args.log.now in is_whole log (all_bytes log (λ j. omega (arith, c.slice_known-2-1.given j))) c.check_log.ensures c.in-Some.end c.in-Some.is in
    let inside : c.in-Some.end ≤ length c.args.log.now = whole.inside in
    let room : c.in-Some.end + 2 * c.open_count-n.result ≤ length c.args.log.now = omega (arith, c.if-log-end.false, inside) in
    may_abort c.args.log.now c.args.s.now _ _ _ begun _ whole _ c.in_ok-repeat_since.ensures refl _ c.open_count-n.ensures room

pub returns : goal.returns
returns c = let begun = began _ c.args.s.now _ _ c.in_ok-recover.ensures in
    let whole : Whole c.args.log.now c.in-Some.end =
    let log = c.args.log.now in is_whole log (all_bytes log (λ j. omega (arith, c.slice_known-2-1.given j))) c.check_log.ensures c.in-Some.end c.in-Some.is in
    let inside : c.in-Some.end ≤ length c.args.log.now = whole.inside in
    let room : c.in-Some.end + 2 * c.open_count-n.result ≤ length c.args.log.now = omega (arith, c.if-log-end.false, inside) in
    restored c.args.log.now c.args.s.now _ _ _ begun _ whole _ c.in_ok-repeat_since.ensures refl _ c.open_count-n.ensures room
    _ _ c.abort_open.ensures
