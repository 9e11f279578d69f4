-- `call_forward::roll_forward` meets its contract: the store is restored in the second memory, and copied where nothing was refused.
use Rattle.basics.proofs.Kit.{◌≡◌, length, take, drop, length-take-le, arith}
use Rattle.call_forward.proofs.Copied.{not_copied, was_copied}
use Rattle.call_forward.proofs.roll_forward.Goals as goal

pub returns-in-Ok : goal.returns-in-Ok
returns-in-Ok c = let n = c.min-n.result in
    let w = c.args.second.now in
    let lent : length (take n w) ≡ n = length-take-le _ _ (omega (arith, c.min-n.ensures)) in
    was_copied c.args.image.now c.args.m.now c.args.log.now _ _ c.min-n.ensures (take n w) lent c.restore.new.s _ _ c.in-Ok.ensures
    (drop n w) _ c.copy.ensures

pub returns-in-Err : goal.returns-in-Err
returns-in-Err c = let n = c.min-n.result in
    let lent : length (take n c.args.second.now) ≡ n = length-take-le _ _ (omega (arith, c.min-n.ensures)) in
    not_copied c.args.image.now c.args.m.now c.args.log.now _ _ c.min-n.ensures (take n c.args.second.now) lent c.restore.new.s _ _ c.in-Err.ensures
