-- `call_forward::log_aborts` meets its contract: the aborts of the first i are in the log (`Logging`).
use Rattle.basics.proofs.Kit.{arith}
use Rattle.call_forward.proofs.Listed.{logging_start, logging_room, logging_next, logging_end}
use Rattle.call_forward.proofs.log_aborts.Goals as goal

pub loop-i-init : goal.loop-i-init
loop-i-init c = logging_start c.args.log.now c.args.end c.args.numbers.now

pub append-requires : goal.append-requires
append-requires c = logging_room c.args.log.now c.args.end c.args.numbers.now c.loop-i.log c.loop-i.i c.requires c.loop-i.invariant (omega (arith, c.loop-i-test.true))

pub loop-i-preserved : goal.loop-i-preserved
loop-i-preserved c = logging_next c.args.log.now c.args.end c.args.numbers.now c.loop-i.log c.loop-i.i c.requires c.loop-i.invariant (omega (arith, c.loop-i-test.true)) c.append.ensures

pub returns : goal.returns
returns c = logging_end c.args.log.now c.args.end c.args.numbers.now c.loop-i.log c.loop-i.i c.requires c.loop-i.invariant (omega (arith, c.loop-i-test.false))
