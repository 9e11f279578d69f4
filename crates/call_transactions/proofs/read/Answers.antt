-- `call_transactions::read` meets its contract: one case for each test (`read_10`, `read_14`), and then the payload as reply (`read_at`).
use Rattle.basics.proofs.Kit.{ap, ◌∙◌, List, ◌++◌, ℕ, length, drop, arith}
use Rattle.model.specs.Transactions.{not_open}
use Rattle.memory_layout.specs.Flat.{flat_of, row_in}
use Rattle.std.proofs.lemmas.Result.{err_from_is_err_and}
use Rattle.refusals.specs.declared.Refusal.TheVariants.{TableRange, NotFound}
use Rattle.memory_layout.proofs.Laws.{holds_room}
use Rattle.call_contracts.proofs.Answering.{replies_refused, replies_21, replies_with}
use Rattle.call_transactions.proofs.Reading.{read_after, read_tests, read_opened, read_10, read_14, seen_in, read_at}
use Rattle.call_transactions.proofs.Refusing.{passed_held, replies_stopped}
use Rattle.call_transactions.proofs.read.Goals as goal

pub returns-in_err-check_open : goal.returns-in_err-check_open
returns-in_err-check_open c = let a = c.args in let n = length a.reply.now in
    let p = err_from_is_err_and c.from_residual.result c.from_residual.ensures.1 in
    rw (p.1, p.2) (replies_stopped _ (not_open _) _ c.in_err-check_open.ensures _ (read_after _ _ _ n) (read_tests _ _ _ n) a.reply.now)

pub returns-then-table-gt-TABLE_LIMIT : goal.returns-then-table-gt-TABLE_LIMIT
returns-then-table-gt-TABLE_LIMIT c = let a = c.args in let has_store = passed_held _ (not_open _) c.in_ok-check_open.ensures in
    let opened = read_opened a.transaction a.table a.key (length a.reply.now) _ c.in_ok-check_open.ensures in
    replies_refused _ a.m.now a.reply.now TableRange has_store (opened ∙ read_10 a.transaction a.table a.key (length a.reply.now) (flat_of _) c.if-table-gt-TABLE_LIMIT.true)

pub seen_by-requires : goal.seen_by-requires
seen_by-requires c = let has_store = passed_held _ (not_open _) c.in_ok-check_open.ensures in
    (has_store, omega (arith, c.if-table-gt-TABLE_LIMIT.false))

pub returns-in_default : goal.returns-in_default
returns-in_default c = let a = c.args in let has_store = passed_held _ (not_open _) c.in_ok-check_open.ensures in
    let opened = read_opened a.transaction a.table a.key (length a.reply.now) _ c.in_ok-check_open.ensures in
    replies_refused _ a.m.now a.reply.now NotFound has_store
    (opened ∙ read_14 a.transaction a.table a.key (length a.reply.now) (flat_of _) c.if-table-gt-TABLE_LIMIT.false _ c.seen_by.ensures c.in_default.is)

pub payload_at-p-requires : goal.payload_at-p-requires
payload_at-p-requires c = let has_store = passed_held _ (not_open _) c.in_ok-check_open.ensures in
    let a = c.args in
    (holds_room _ has_store, seen_in a.transaction a.table a.key 0 (flat_of _) c.if-table-gt-TABLE_LIMIT.false _ c.seen_by.ensures _ c.in-Some.is)

pub returns-then-reply-len : goal.returns-then-reply-len
returns-then-reply-len c = let a = c.args in let has_store = passed_held _ (not_open _) c.in_ok-check_open.ensures in
    let opened = read_opened a.transaction a.table a.key (length a.reply.now) _ c.in_ok-check_open.ensures in let hd = c.payload_at-p.ensures in
    replies_21 _ a.m.now a.reply.now _ _ has_store
    (opened ∙ read_at a.transaction a.table a.key (length a.reply.now) (flat_of _) c.if-table-gt-TABLE_LIMIT.false _ c.seen_by.ensures _ c.in-Some.is hd.count)
    (omega (arith, hd.count, c.if-reply-len.true))

pub copy_payload-requires : goal.copy_payload-requires
copy_payload-requires c = let has_store = passed_held _ (not_open _) c.in_ok-check_open.ensures in
    let a = c.args in
    let hd = c.payload_at-p.ensures in let inside = seen_in a.transaction a.table a.key 0 (flat_of _) c.if-table-gt-TABLE_LIMIT.false _ c.seen_by.ensures _ c.in-Some.is in
    record { room = holds_room _ has_store; inside = inside; long = omega (arith, hd.count, c.if-reply-len.false) }

pub returns : goal.returns
returns c = let a = c.args in let has_store = passed_held _ (not_open _) c.in_ok-check_open.ensures in
    let opened = read_opened a.transaction a.table a.key (length a.reply.now) _ c.in_ok-check_open.ensures in
    let p : List ℕ = a.reply.now in
    let hd = c.payload_at-p.ensures in let cp = c.copy_payload.ensures in
    let bs : List ℕ = (row_in (flat_of a.m.now) c.in-Some.i).tuple.payload in
    replies_with _ a.m.now p _ bs has_store
    (opened ∙ read_at a.transaction a.table a.key (length p) (flat_of a.m.now) c.if-table-gt-TABLE_LIMIT.false _ c.seen_by.ensures _ c.in-Some.is hd.count)
    (omega (arith, hd.count, c.if-reply-len.false)) _ (cp.first ∙ ap (λ (z : ℕ). bs ++ drop z p) cp.count)
