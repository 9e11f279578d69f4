-- `call_logged::has_room` meets its contract, by arithmetic without a sum that could overflow.
use Rattle.basics.proofs.Kit.{sym, ◌+◌, ◌-◌, lt-leb, le-leb, leb-true, arith}
use Rattle.basics.proofs.Facts.{same_truth}
use Rattle.call_logged.proofs.has_room.Goals as goal

pub returns-then-len-head : goal.returns-then-len-head
returns-then-len-head c = let a = c.args in sym (lt-leb (a.end + (a.head + a.more)) a.len (omega (arith, c.if-len-head.true)))

pub returns-then-rest-more : goal.returns-then-rest-more
returns-then-rest-more c = let a = c.args in sym (lt-leb (a.end + (a.head + a.more)) a.len (omega (arith, c.if-len-head.false, c.if-rest-more.true)))

pub returns : goal.returns
returns c = let a = c.args in
    let k = c.if-rest-more.false in
    same_truth _ _
    (λ h. le-leb (a.end + (a.head + a.more)) a.len (omega (arith, leb-true a.end (a.len - a.head - a.more) h, c.if-len-head.false, k)))
    (λ h. le-leb a.end (a.len - a.head - a.more) (omega (arith, leb-true (a.end + (a.head + a.more)) a.len h)))
