-- `call_forward::abort_listed` meets its contract: the numbers sorted, each aborted, and the aborts over zeros.
use Rattle.basics.proofs.Kit.{◌≡◌, ◌++◌, ◌-◌, length, take, drop, length-take, length-drop, arith}
use Rattle.memory_layout.proofs.Laws.{holds_room}
use Rattle.log_model.specs.RollForward.{zeroed_from}
use Rattle.call_forward.proofs.Ending.{cleared, aborts_fit, all_aborted}
use Rattle.call_forward.proofs.abort_listed.Goals as goal

pub sort_open-requires : goal.sort_open-requires
sort_open-requires c = record { room = holds_room _ c.requires.has_store; count = c.requires.count }

pub log_aborts-requires : goal.log_aborts-requires
log_aborts-requires c = let zeroed : let log = c.args.log.now in take c.args.end log ++ (c.clear.new.part ++ drop (length log - c.args.end) (drop c.args.end log)) ≡ zeroed_from c.args.end log = let log = c.args.log.now in let e = c.args.end in cleared log c.clear.new.part e (length (take (length log - e) (drop e log))) (omega (arith, c.requires.room)) c.clear.ensures (simp (length-take, length-drop) (omega (arith, c.requires.room))) in
    aborts_fit c.args.s.now c.args.log.now c.args.end _ c.requires _ c.sort_open.ensures _ zeroed (λ j. omega (arith, c.slice_known-1.given j))

pub returns : goal.returns
returns c = let zeroed : let log = c.args.log.now in take c.args.end log ++ (c.clear.new.part ++ drop (length log - c.args.end) (drop c.args.end log)) ≡ zeroed_from c.args.end log = let log = c.args.log.now in let e = c.args.end in cleared log c.clear.new.part e (length (take (length log - e) (drop e log))) (omega (arith, c.requires.room)) c.clear.ensures (simp (length-take, length-drop) (omega (arith, c.requires.room))) in
    all_aborted c.args.s.now c.args.log.now c.args.end _ c.requires _ c.sort_open.ensures _ zeroed _ _ c.abort_each.ensures c.log_aborts.ensures
