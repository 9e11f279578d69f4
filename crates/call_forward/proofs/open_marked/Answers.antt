-- `call_forward::open_marked` meets its contract: those from i on are left to open (`Opening`).
use Rattle.basics.proofs.Kit.{refl, ◌∙◌, arith}
use Rattle.std.proofs.lemmas.Result.{err_from_is_err_and}
use Rattle.call_forward.proofs.Listed.{opening_start, opening_mark, opening_next, opening_stop, opening_end}
use Rattle.call_forward.proofs.open_marked.Goals as goal

pub loop-i-init : goal.loop-i-init
loop-i-init c = opening_start c.args.s.now c.args.log.now c.args.at c.args.n c.requires.has_store

pub mark_transaction-transaction-requires : goal.mark_transaction-transaction-requires
mark_transaction-transaction-requires c = opening_mark c.args.s.now c.args.log.now c.args.at c.args.n c.loop-i.i c.requires (omega (arith, c.loop-i-test.true))

pub repeat-requires : goal.repeat-requires
repeat-requires c = c.loop-i.invariant.1.stored.has_store

pub shape_of-s-in_err-repeat : goal.shape_of-s-in_err-repeat
shape_of-s-in_err-repeat c = c.repeat.ensures.memory.size ∙ c.loop-i.invariant.1.stored.size

pub returns-in_err-repeat : goal.returns-in_err-repeat
returns-in_err-repeat c = rw (err_from_is_err_and c.from_residual.result c.from_residual.ensures.1).1
    (opening_stop c.args.s.now c.args.log.now c.args.at c.args.n c.loop-i.s c.loop-i.i c.loop-i.invariant (omega (arith, c.loop-i-test.true)) _ c.mark_transaction-transaction.ensures
    c.in_err-repeat.ensures refl)

pub loop-i-preserved : goal.loop-i-preserved
loop-i-preserved c = opening_next c.args.s.now c.args.log.now c.args.at c.args.n c.loop-i.s c.loop-i.i c.loop-i.invariant (omega (arith, c.loop-i-test.true)) _ c.mark_transaction-transaction.ensures
    c.in_ok-repeat.ensures refl

pub returns : goal.returns
returns c = opening_end c.args.s.now c.args.log.now c.args.at c.args.n c.loop-i.s c.loop-i.i c.loop-i.invariant (omega (arith, c.loop-i-test.false))
